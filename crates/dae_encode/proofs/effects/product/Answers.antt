-- The product of 33 and 32 bits fits 64.
use Rattle.std.proofs.Common.{◌≤◌, ◌-◌, ◌^◌, arith, w64, ◌*ℤ◌, FitsSigned, lit<}
use Rattle.std.specs.Prelude.{unsigned_abs}
use Rattle.std.proofs.lemmas.Int.{to_z-of_z, ints, fits_signed_mul}
use Rattle.dae_encode.proofs.effects.product.Goals as goal

pub returns : goal.returns
returns c =
    let small_x : unsigned_abs c.args.x ≤ 2 ^ 32 - 1 = grind (arith, ints, c.requires.x) in
    let small_y : unsigned_abs c.args.y ≤ 2 ^ 31 = grind (arith, ints, c.requires.y) in
    let fits : FitsSigned w64 (c.args.x *ℤ c.args.y) = fits_signed_mul w64 c.args.x c.args.y (2 ^ 32 - 1) (2 ^ 31) small_x small_y (lit< tt) in
    rw (to_z-of_z w64 c.args.x c.ranges.x, to_z-of_z w64 c.args.y c.ranges.y) (to_z-of_z w64 (c.args.x *ℤ c.args.y) fits)

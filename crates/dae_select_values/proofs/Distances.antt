-- A jump's immediates depend on its distance modulo 2 ^ 32 only.
use Rattle.std.proofs.Common.{◌≡◌, ℕ, ◌%◌, ◌^◌, refl, ap, sym, arith}
use Rattle.dae_base.specs.Words.{signed}
use Rattle.dae_select_blocks.specs.Blocks.{upper, lower, near_offset, jump_by}

upper_of : (w : ℕ) → upper (w % 2 ^ 32) ≡ upper w
unfolding upper
upper_of w = ap signed (omega arith)

lower_of : (w : ℕ) → lower (w % 2 ^ 32) ≡ lower w
unfolding lower
lower_of w = (let e : w % 2 ^ 32 % 2 ^ 12 ≡ w % 2 ^ 12 = omega arith in rw e refl)

pub jump_of : (v w : ℕ) → v % 2 ^ 32 ≡ w % 2 ^ 32 → jump_by v ≡ jump_by w
jump_of v w e = rw (sym (upper_of v), sym (lower_of v), e, upper_of w, lower_of w) refl

near_offset_of : (w : ℕ) → near_offset (w % 2 ^ 32) ≡ near_offset w
unfolding near_offset
near_offset_of w = (let e : w % 2 ^ 32 % 2 ^ 21 ≡ w % 2 ^ 21 = omega arith in rw e refl)

pub near_of : (v w : ℕ) → v % 2 ^ 32 ≡ w % 2 ^ 32 → near_offset v ≡ near_offset w
near_of v w e = rw (sym (near_offset_of v), e, near_offset_of w) refl

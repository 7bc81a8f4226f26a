use Rattle.std.proofs.Common.{◌≡◌, ℕ, ◌≤◌, Bool, true, false, List, length, refl, arith}
use Rattle.std.specs.Str.{is_utf8, IsUtf8}
use Rattle.std.proofs.lemmas.Str.{IsUtf8-from_is_utf8, is_utf8-from_IsUtf8}
use Rattle.dae_asm_data.proofs.Naming.{name_is, name_is_not}
use Rattle.dae_asm_data.proofs.names.text_of.Goals as goal

pub returns-in-Ok : goal.returns-in-Ok
returns-in-Ok c =
    let some : 1 ≤ length c.args.bytes.now = first_of (omega arith, grind arith) in
    let few : length c.args.bytes.now ≤ 4096 = omega arith in
    (name_is c.args.bytes.now some few (is_utf8-from_IsUtf8 c.args.bytes.now c.in-Ok.ensures.cases.1), c.in-Ok.ensures.cases.0)

no_utf8 : (bytes : List ℕ) (b : Bool) → is_utf8 bytes ≡ b → ¬ (IsUtf8 bytes) → b ≡ false
no_utf8 bytes true e h = absurd (h (IsUtf8-from_is_utf8 bytes e))
no_utf8 bytes false e h = refl

pub returns-in-Err : goal.returns-in-Err
returns-in-Err c = name_is_not c.args.bytes.now (no_utf8 c.args.bytes.now (is_utf8 c.args.bytes.now) refl c.in-Err.ensures.cases.0)

use Rattle.std.proofs.Common.{◌≡◌, length, arith}
use Rattle.std.proofs.lemmas.Bool.Decides.{nat_tests}
use Rattle.dae_ir.specs.Form.{form_of}
use Rattle.dae_commons.proofs.Nothing.{still_nothing}
use Rattle.dae_commons.proofs.setting.known_in_loop.Goals as goal

pub returns-then-is_empty : goal.returns-then-is_empty
returns-then-is_empty c =
    let empty = c.is_empty.ensures in let is = c.if-is_empty.true in
    let none : length c.args.known ≡ 0 = grind (arith, nat_tests) in
    still_nothing c.args.known (form_of c.args.body.now) (form_of c.args.step.now) none

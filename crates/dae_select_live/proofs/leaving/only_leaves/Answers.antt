use Rattle.std.proofs.Common.{◌≡◌, ◌∙◌, sym, length, false, arith}
use Rattle.std.specs.Prelude.{nat_eq}
use Rattle.std.proofs.lemmas.Bool.Decides.{nat_tests}
use Rattle.dae_select_live.proofs.Breaks.{leaves_alone}
use Rattle.dae_select_live.proofs.leaving.only_leaves.Goals as goal

pub returns-else-steps-eq1 : goal.returns-else-steps-eq1
returns-else-steps-eq1 c =
    let other = c.if-steps-eq1.false in
    let e : nat_eq (length c.args.steps.now) 1 ≡ false = grind (arith, nat_tests) in
    e ∙ sym (leaves_alone c.args.steps.now e)

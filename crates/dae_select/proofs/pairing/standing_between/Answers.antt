use Rattle.std.proofs.Common.{◌<◌, ap, sym, ◌∙◌, arith}
use Rattle.std.specs.Prelude.{Option}
use Rattle.std.proofs.lemmas.Bool.Decides.{nat_tests}
use Rattle.dae_ir.specs.declared.stream.Step.{Step}
use Rattle.dae_select_live.specs.Members.{member}
use Rattle.dae_select.specs.Growing.{standing_between}
use Rattle.dae_select.proofs.Stacked.{before_is}
use Rattle.dae_select.proofs.pairing.standing_between.Goals as goal

pub returns-else-index-eq0 : goal.returns-else-index-eq0
returns-else-index-eq0 c =
    let a = c.args in
    let other = c.if-index-eq0.false in
    let some : 0 < a.index = grind (arith, nat_tests) in
    c.between_steps.ensures ∙ ap (λ (o : Option Step). standing_between o a.step.now (member a.live.now) a.standing) (sym (before_is a.steps.now a.index c.index-steps-index.result some c.requires c.index-steps-index.is))

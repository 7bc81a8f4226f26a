use Rattle.std.proofs.Common.{inr, subst}
use Rattle.dae_guard.specs.Walk.{guarded}
use Rattle.dae_guard_walk.specs.declared.guarding.GuardAnswer.{GuardAnswer}
use Rattle.dae_guard_walk.specs.Answers.{says}
use Rattle.dae_guard_walk.proofs.guarding.answer_by_nodes.Goals as goal

pub returns-in-Ok-clause-is : goal.returns-in-Ok-clause-is
returns-in-Ok-clause-is c = inr c.in-Ok.ensures

pub returns-in-Ok-clause-guards : goal.returns-in-Ok-clause-guards
returns-in-Ok-clause-guards c = λ e.
    c.walks_guard.ensures c.args.image.now c.args.depths c.args.certificate.now
    (subst (λ (a : GuardAnswer). says a (guarded c.args.image.now c.args.depths c.args.certificate.now)) e c.in-Ok.ensures)

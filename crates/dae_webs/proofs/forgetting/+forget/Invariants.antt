use Rattle.dae_webs.specs.Planned.{starts_in}
use Rattle.dae_webs.proofs.Steps.{ForgottenTo}
use Rattle.dae_webs.proofs.forgetting.+forget.Given as goal

abbrev pub invariant-forget_in_list-loop-statement : goal.invariant-forget_in_list-loop-statement
invariant-forget_in_list-loop-statement l =
    ForgottenTo (starts_in l.plan) l.statements l.statement-index l.first l.number l.fn.webs.items l.webs.items

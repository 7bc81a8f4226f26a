use Rattle.std.proofs.Common.{ap, ◌∙◌}
use Rattle.dae_ir.specs.Streams.{actions_of}
use Rattle.dae_select_walks.specs.Facts.{Facts, facts_behind_turn}
use Rattle.dae_select.specs.Growing.{facts_in_tail}
use Rattle.dae_select.proofs.walking.loop_facts.Goals as goal

pub returns-clause-at_step : goal.returns-clause-at_step
returns-clause-at_step c = c.in_ok-at_step.ensures ∙ ap (λ (f : Facts). facts_behind_turn (actions_of c.args.body.now) f) c.in_ok-at_turn.ensures

pub returns-clause-in_tail : goal.returns-clause-in_tail
returns-clause-in_tail c = c.in_ok-in_tail.ensures ∙ ap (λ (f : Facts). facts_in_tail c.args.test (actions_of c.args.body.now) f) c.in_ok-at_turn.ensures

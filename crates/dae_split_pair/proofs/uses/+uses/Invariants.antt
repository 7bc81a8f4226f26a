use Rattle.dae_split_pair.specs.Kinds.{is_wanted, is_wanted_branch}
use Rattle.dae_split_pair.proofs.Totals.{Left}
use Rattle.dae_split_pair.proofs.uses.+uses.Given as goal

abbrev pub invariant-uses-loop-step : goal.invariant-uses-loop-step
invariant-uses-loop-step l = Left (is_wanted l.kind) (is_wanted_branch l.kind) l.steps l.step-index

use Rattle.std.proofs.Common.{◌≤◌}
use Rattle.dae_split_pair.proofs.Totals.{IsCounted}
use Rattle.dae_split_pair.proofs.tally.+tally.Given as goal

abbrev pub invariant-most-loop-step : goal.invariant-most-loop-step
invariant-most-loop-step l = record {
  counted : IsCounted l.kind l.steps l.step-index l.tally;
  few : l.tally.count ≤ l.step-index;
}

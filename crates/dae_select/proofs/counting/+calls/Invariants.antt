use Rattle.std.proofs.Common.{◌≤◌, ◌^◌}
use Rattle.dae_select.proofs.Counted.{CallsFrom}
use Rattle.dae_select.proofs.counting.+calls.Given as goal

abbrev pub invariant-list_calls-loop-index : goal.invariant-list_calls-loop-index
invariant-list_calls-loop-index l = record {
  counted : CallsFrom l.steps l.index l.calls;
  few : l.calls ≤ 2 ^ 17;
}

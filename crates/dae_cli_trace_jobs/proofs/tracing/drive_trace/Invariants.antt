use Rattle.std.proofs.Common.{◌-◌, ◌≤◌}
use Rattle.dae_machine.specs.Schedules.{word_of}
use Rattle.dae_cli_trace_jobs.proofs.Traced.{OnTheWay}
use Rattle.dae_cli_trace_jobs.proofs.tracing.drive_trace.Given as goal

abbrev pub invariant-loop : goal.invariant-loop
invariant-loop g l = record {
  begun : l.initial.machine.state.steps ≤ l.counter;
  way : OnTheWay l.initial.machine.setup l.initial.machine.state (word_of l.options.schedule) (l.counter - l.initial.machine.state.steps) l.machine.setup l.machine.state l.words (g.O.Sink.seen l.initial.out) (g.O.Sink.seen l.out);
}

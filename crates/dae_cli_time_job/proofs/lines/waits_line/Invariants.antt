use Rattle.std.proofs.Common.{◌≡◌, ◌+◌, ◌*◌, ◌≤◌, ◌++◌, length, drop}
use Rattle.std.specs.List.{flat_map}
use Rattle.dae_timing.specs.Clocks.{waits_of}
use Rattle.dae_cli_time_job.specs.Lines.{wait_text}
use Rattle.dae_cli_time_job.proofs.lines.waits_line.Given as goal

abbrev pub invariant-loop-queue : goal.invariant-loop-queue
invariant-loop-queue l = record {
  text : l.line ++ flat_map (wait_text (waits_of l.side l.timed.clock)) (drop l.queue-index l.queue-items) ≡ l.initial.line ++ flat_map (wait_text (waits_of l.side l.timed.clock)) l.queue-items;
  size : length l.line ≤ length l.initial.line + 24 * l.queue-index;
}

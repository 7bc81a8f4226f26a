-- A line for each queue so far.
use Rattle.std.proofs.Common.{◌≡◌, ◌*◌, ◌≤◌, ◌++◌, length, drop}
use Rattle.std.specs.List.{flat_map}
use Rattle.dae_debug.specs.Texts.{all_queues, queue_line}
use Rattle.dae_debug.proofs.texts.queues_text.Given as goal

abbrev pub invariant-loop-queue : goal.invariant-loop-queue
invariant-loop-queue l = record {
  items : l.queue-items ≡ all_queues;
  text : l.reply ++ flat_map (queue_line l.machine.state.queues) (drop l.queue-index l.queue-items) ≡ flat_map (queue_line l.machine.state.queues) l.queue-items;
  size : length l.reply ≤ 40 * l.queue-index;
}

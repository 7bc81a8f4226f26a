-- A line for each store so far.
use Rattle.std.proofs.Common.{◌≡◌, ◌*◌, ◌≤◌, ◌++◌, length, drop}
use Rattle.std.specs.List.{flat_map}
use Rattle.dae_debug.proofs.Listed.{line_of}
use Rattle.dae_debug.proofs.texts.stores_text.Given as goal

abbrev pub invariant-loop-at : goal.invariant-loop-at
invariant-loop-at l = record {
  text : l.reply ++ flat_map line_of (drop l.at l.machine.state.queues.stores.sa) ≡ flat_map line_of l.machine.state.queues.stores.sa;
  size : length l.reply ≤ 11 * l.at;
}

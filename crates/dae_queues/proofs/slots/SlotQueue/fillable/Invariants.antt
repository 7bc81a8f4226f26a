use Rattle.std.proofs.Common.{◌≡◌, ◌+◌, ◌≤◌, filter, length, drop}
use Rattle.dae_queues.specs.Lists.{can_be_filled}
use Rattle.dae_queues.proofs.slots.SlotQueue.fillable.Given as goal

abbrev pub invariant-loop-at : goal.invariant-loop-at
invariant-loop-at l = record {
  counted : l.count + length (filter (can_be_filled l.stores.held.sa) (drop l.at l.self.held.slots)) ≡ length (filter (can_be_filled l.stores.held.sa) l.self.held.slots);
  within : l.count ≤ l.at;
}

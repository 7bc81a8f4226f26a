use Rattle.std.proofs.Common.{◌≡◌, drop}
use Rattle.std.specs.List.{list_any}
use Rattle.dae_queues.specs.Lists.{holds}
use Rattle.dae_queues.proofs.slots.SlotQueue.holds.Given as goal

abbrev pub invariant-loop-place : goal.invariant-loop-place
invariant-loop-place l = list_any (holds l.at) (drop l.place l.self.held.slots) ≡ list_any (holds l.at) l.self.held.slots

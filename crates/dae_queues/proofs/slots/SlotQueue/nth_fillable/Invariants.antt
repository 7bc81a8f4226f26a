use Rattle.std.proofs.Common.{◌≡◌, filter, slice_get, drop}
use Rattle.dae_queues.specs.Lists.{can_be_filled}
use Rattle.dae_queues.proofs.slots.SlotQueue.nth_fillable.Given as goal

abbrev pub invariant-loop-at : goal.invariant-loop-at
invariant-loop-at l = slice_get (filter (can_be_filled l.stores.held.sa) (drop l.at l.self.held.slots)) l.left ≡ slice_get (filter (can_be_filled l.stores.held.sa) l.self.held.slots) l.n

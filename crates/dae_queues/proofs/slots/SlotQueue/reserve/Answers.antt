-- The new slot has the next number.
use Rattle.std.proofs.Common.{refl}
use Rattle.dae_queues.proofs.Filled.{filled_more}
use Rattle.dae_queues.proofs.Places.{numbered_more}
use Rattle.dae_queues.proofs.slots.SlotQueue.reserve.Goals as goal

pub invariant_of-self : goal.invariant_of-self
invariant_of-self c = rw c.in-Ok.ensures.ok (numbered_more c.self.inside.taken c.self.inside.reserved c.self.inside.ring.items _ c.self.invariant.0 refl, c.self.invariant.1, filled_more c.self.inside.filled c.self.inside.ring.items _ c.self.invariant.2)

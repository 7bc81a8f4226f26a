use Rattle.std.proofs.Common.{subst}
use Rattle.dae_queues.specs.Rings.{SlotRing, AreFilled}
use Rattle.dae_queues.proofs.slots.SlotQueue.first_unfilled.Goals as goal

pub loop-place-init : goal.loop-place-init
loop-place-init c = subst (λ (v : SlotRing). AreFilled c.self.inside.filled v.held.slots) c.self.view_is c.self.invariant.2

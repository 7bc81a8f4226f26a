-- No slot that has its value holds a store.
use Rattle.std.proofs.Common.{subst}
use Rattle.dae_queues.specs.Rings.{SlotRing, AreFilled}
use Rattle.dae_queues.proofs.Filled.{skip_holds}
use Rattle.dae_queues.proofs.slots.SlotQueue.holds.Goals as goal

pub loop-place-init : goal.loop-place-init
loop-place-init c =
    skip_holds c.args.at.now c.self.inside.filled c.args.self.now.held.slots (subst (λ (v : SlotRing). AreFilled c.self.inside.filled v.held.slots) c.self.view_is c.self.invariant.2)

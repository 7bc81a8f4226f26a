-- Where a slot is there, fewer were taken than reserved.
use Rattle.std.proofs.Common.{ap, sym, ◌∙◌, arith}
use Rattle.dae_queues.specs.Lists.{first_value}
use Rattle.dae_queues.specs.Rings.{SlotRing}
use Rattle.dae_queues.proofs.CountLaws.{counts_front}
use Rattle.dae_queues.proofs.slots.SlotQueue.take.Goals as goal

pub overflow_add-self : goal.overflow_add-self
overflow_add-self c =
    let k = counts_front c.self.inside.taken c.self.inside.reserved c.in_ok-value.value c.self.inside.ring.items c.self.invariant.0 (ap (λ (v : SlotRing). first_value v.held.slots) c.self.view_is ∙ sym c.front.ensures ∙ c.in_ok-value.was) in
    grind (arith, k)

use Rattle.std.proofs.Common.{ap, sym, ◌∙◌}
use Rattle.dae_queues.specs.Lists.{waiting}
use Rattle.dae_queues.specs.Rings.{SlotRing}
use Rattle.dae_queues.proofs.Places.{waiting_is}
use Rattle.dae_queues.proofs.slots.SlotQueue.waiting.Goals as goal

pub returns : goal.returns
returns c = c.slot_at.ensures ∙ sym (waiting_is c.args.number c.self.inside.taken c.self.inside.reserved c.self.inside.ring.items c.self.invariant.0) ∙ ap (λ (v : SlotRing). waiting c.args.number v.held.slots) c.self.view_is

-- The slot of the number stands behind the first one by its number.
use Rattle.std.proofs.Common.{◌≡◌, refl, sym, ◌∙◌, None}
use Rattle.dae_queues.specs.Lists.{waiting}
use Rattle.dae_queues.proofs.Filled.{filled_set}
use Rattle.dae_queues.proofs.Places.{waiting_is, given_none, given_is, numbered_given}
use Rattle.dae_queues.proofs.slots.SlotQueue.fill.Goals as goal

pub invariant_of-self : goal.invariant_of-self
invariant_of-self c =
    let e = given_is c.args.number c.self.inside.taken c.self.inside.reserved c.args.value c.self.inside.ring.items c.in-Some.slot c.self.invariant.0 (sym c.slot_at.ensures ∙ c.in-Some.is) in
    rw (c.put_at.ensures, ← e) (numbered_given c.args.number c.self.inside.taken c.self.inside.reserved c.args.value c.self.inside.ring.items c.self.invariant.0, c.self.invariant.1, rw (c.put_at.ensures, ← e) at c.filled_from-self-inside.ensures)

pub returns-in-None-clause-found : goal.returns-in-None-clause-found
returns-in-None-clause-found c =
    let w = waiting_is c.args.number c.self.inside.taken c.self.inside.reserved c.self.inside.ring.items c.self.invariant.0 in
    rw (← c.self.view_is, w, ← c.slot_at.ensures, c.in-None.is)

pub returns-in-None-clause-slots : goal.returns-in-None-clause-slots
returns-in-None-clause-slots c =
    let w = waiting_is c.args.number c.self.inside.taken c.self.inside.reserved c.self.inside.ring.items c.self.invariant.0 in
    let none : waiting c.args.number c.self.inside.ring.items ≡ None = w ∙ sym c.slot_at.ensures ∙ c.in-None.is in
    rw (← c.self.view_is, given_none c.args.number c.args.value c.self.inside.ring.items none)

pub returns-in-Some-clause-found : goal.returns-in-Some-clause-found
returns-in-Some-clause-found c =
    let w = waiting_is c.args.number c.self.inside.taken c.self.inside.reserved c.self.inside.ring.items c.self.invariant.0 in
    rw (← c.self.view_is, w, ← c.slot_at.ensures, c.in-Some.is)

pub returns-in-Some-clause-slots : goal.returns-in-Some-clause-slots
returns-in-Some-clause-slots c =
    let e = given_is c.args.number c.self.inside.taken c.self.inside.reserved c.args.value c.self.inside.ring.items c.in-Some.slot c.self.invariant.0 (sym c.slot_at.ensures ∙ c.in-Some.is) in
    rw (← c.self.view_is, c.put_at.ensures, ← e)

pub filled_from-self-inside-requires : goal.filled_from-self-inside-requires
filled_from-self-inside-requires c = rw c.put_at.ensures (filled_set c.self.inside.filled c.self.inside.ring.items _ _ refl c.self.invariant.2)

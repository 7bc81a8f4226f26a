use Rattle.std.proofs.Common.{◌≡◌, ◌∙◌, ap, set}
use Rattle.dae_guard.specs.declared.slots.LoadSlot.{LoadSlot}
use Rattle.dae_guard.specs.Kept.{aged}
use Rattle.dae_guard.proofs.SlotLaws.{map_over_at, mapped_all}
use Rattle.dae_guard.proofs.slots.age.Goals as goal

pub loop-slot-preserved : goal.loop-slot-preserved
loop-slot-preserved c =
    ap (λ (a : LoadSlot). set c.loop-slot.slots c.loop-slot.slot-index a) c.after_drain-next.ensures
    ∙ map_over_at aged c.args.slots.now c.loop-slot.slots c.loop-slot.slot-index _ c.loop-slot-test.true c.loop-slot.auto.slots c.loop-slot.invariant

pub returns : goal.returns
returns c = mapped_all aged c.args.slots.now c.loop-slot.slots c.loop-slot.slot-index c.loop-slot-test.false c.loop-slot.invariant

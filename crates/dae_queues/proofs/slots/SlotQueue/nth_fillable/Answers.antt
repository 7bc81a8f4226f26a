-- Past a slot that may be filled one fewer is left, and past any other as many.
use Rattle.std.proofs.Common.{ap, subst, sym, ◌∙◌, arith, List}
use Rattle.std.specs.Prelude.{slice_get}
use Rattle.dae_queues.specs.declared.Slot.{Slot}
use Rattle.dae_queues.specs.Rings.{SlotRing, AreFilled}
use Rattle.dae_queues.proofs.Filled.{skip_fillable}
use Rattle.dae_queues.proofs.Fills.{nth_none, nth_some}
use Rattle.dae_queues.proofs.slots.SlotQueue.nth_fillable.Goals as goal
use Rattle.dae_queues.proofs.slots.SlotQueue.nth_fillable.Goals.{in-Some+else-left-eq0, in_default}

pub loop-at-preserved : goal.loop-at-preserved
loop-at-preserved c = elim c.match-fillable_at.branch [
  | in-Some+else-left-eq0 w ↦ sym (nth_some c.args.stores.now.held.sa c.args.self.now.held.slots c.loop-at.at c.loop-at.left c.match-fillable_at.left w.in-Some.slot (sym c.fillable_at.ensures ∙ w.in-Some.is) (omega (arith, w.left-is, w.if-left-eq0.false))) ∙ c.loop-at.invariant
  | in_default w ↦ sym (nth_none c.args.stores.now.held.sa c.args.self.now.held.slots c.loop-at.at c.match-fillable_at.left (sym c.fillable_at.ensures ∙ w.in_default.is)) ∙ rw w.left-is c.loop-at.invariant
]

pub loop-at-init : goal.loop-at-init
loop-at-init c =
    ap (λ (ss : List Slot). slice_get ss c.args.n) (skip_fillable c.args.stores.now.held.sa c.self.inside.filled c.args.self.now.held.slots (subst (λ (v : SlotRing). AreFilled c.self.inside.filled v.held.slots) c.self.view_is c.self.invariant.2))

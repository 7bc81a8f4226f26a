use Rattle.std.proofs.Common.{◌≡◌, ◌∙◌, refl, arith}
use Rattle.std.proofs.lemmas.List.Elements.{All-set, AllWithin-more_set}
use Rattle.dae_guard.specs.Kept.{IsKept, IsClearTold, cell_of}
use Rattle.dae_guard.proofs.SlotLaws.{seen_at}
use Rattle.dae_guard.proofs.slots.look.Goals as goal

pub loop-slot-preserved : goal.loop-slot-preserved
loop-slot-preserved c = record {
  cells = seen_at cell_of c.loop-slot.slots c.loop-slot.slot-index _ _ (omega arith) refl ∙ c.loop-slot.invariant.cells;
  kept = All-set (IsKept c.args.stores.now) c.loop-slot.slots c.loop-slot.slot-index _ c.count_clear-clear.ensures.kept c.loop-slot.invariant.kept;
  told = AllWithin-more_set c.loop-slot.slots c.loop-slot.slot-index _ (omega arith) (IsClearTold c.args.stores.now) c.loop-slot.invariant.told c.count_clear-clear.ensures.told;
}

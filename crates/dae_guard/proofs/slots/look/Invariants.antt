use Rattle.std.proofs.Common.{◌≡◌}
use Rattle.std.specs.List.{AllWithin}
use Rattle.dae_guard.specs.Kept.{AreKept, IsClearTold, cells_of}
use Rattle.dae_guard.proofs.slots.look.Given as goal

abbrev pub invariant-loop-slot : goal.invariant-loop-slot
invariant-loop-slot l = record {
  cells : cells_of l.slots ≡ cells_of l.initial.slots;
  kept : AreKept l.stores l.slots;
  told : AllWithin (IsClearTold l.stores) l.slots 0 l.slot-index;
}

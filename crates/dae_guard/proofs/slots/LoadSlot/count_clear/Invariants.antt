use Rattle.std.proofs.Common.{◌≡◌, false, take}
use Rattle.std.specs.List.{list_any}
use Rattle.dae_guard.specs.Waiting.{touches}
use Rattle.dae_guard.specs.Kept.{cell_of}
use Rattle.dae_guard.proofs.slots.LoadSlot.count_clear.Given as goal

-- none of the stores so far has a byte of the slot
abbrev pub invariant-loop-place : goal.invariant-loop-place
invariant-loop-place l = list_any (touches (cell_of l.self)) (take l.place l.stores) ≡ false

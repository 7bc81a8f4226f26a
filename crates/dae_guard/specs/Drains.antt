-- When the oldest store may drain.
use Rattle.std.specs.Prelude.{Bool, false, not, ◌&&◌, List, [], ◌∷◌}
use Rattle.std.specs.List.{list_any}
use Rattle.dae_ranges.specs.declared.Range.{Range}
use Rattle.dae_guard.specs.declared.StoreCell.{StoreCell}
use Rattle.dae_guard.specs.Waiting.{delays}
use Rattle.dae_guard.specs.declared.slots.LoadSlot.{LoadSlot}
use Rattle.dae_guard.specs.Kept.{cell_of}

-- no waiting slot without older stores may have a byte of the store
abbrev pub is_free : List LoadSlot → List LoadSlot → StoreCell → Bool
is_free ld al d =
    not (list_any (λ s. delays d (cell_of s)) ld) && not (list_any (λ s. delays d (cell_of s)) al)

-- the oldest store has its address and its datum, and is free
abbrev pub may_drain : List StoreCell → List Range → List LoadSlot → List LoadSlot → Bool
may_drain [] sd ld al = false
may_drain (s ∷ ss) [] ld al = false
may_drain (s ∷ ss) (d ∷ ds) ld al = is_free ld al s

-- What contracts see of the bounded queues: what they hold, and how much they can hold.
use Rattle.std.specs.Prelude.{◌≡◌, ℕ, zero, suc, ◌-◌, Bool, true, false, [], ◌∷◌, nat_lt, if◌then◌else◌, List, Option, Some, None, is_none, is_some, slice_get, option_and_then}
use Rattle.std.specs.Bool.{then_some}
use Rattle.dae_queues.specs.declared.Slot.{Slot}
use Rattle.dae_queues.specs.declared.StoreAt.{StoreAt}
use Rattle.dae_queues.specs.Lists.{Slots, Stores, can_be_filled, holds}

pub record SlotRing : Type 0 where
  pub held : Slots
  pub depth : ℕ

pub record StoreRing : Type 0 where
  pub held : Stores
  pub sa_depth : ℕ
  pub sd_depth : ℕ

abbrev pub unfilled : Slot → Option Slot
unfilled s = if is_none s.value then Some s else None

-- the waiting slot of this number, by its place behind the first slot, whose number is low
abbrev pub at_place : List Slot → ℕ → ℕ → Option Slot
at_place ss low number = if nat_lt number low then None else option_and_then unfilled (slice_get ss (number - low))

-- the slot at a place, where it may be filled
abbrev pub fillable_at : List StoreAt → List Slot → ℕ → Option Slot
fillable_at sa ss at = option_and_then (λ s. then_some (can_be_filled sa s) s) (slice_get ss at)

-- a slot that is there and has its value
abbrev pub has_value : Option Slot → Bool
has_value None = false
has_value (Some s) = is_some s.value

-- so many slots at the front have their value
abbrev pub AreFilled : ℕ → List Slot → Type 0
AreFilled zero ss = Unit
AreFilled (suc n) [] = ⊥
AreFilled (suc n) (s ∷ ss) = (is_some s.value ≡ true) × AreFilled n ss

-- a slot that is there and holds a store
abbrev pub is_held : StoreAt → Option Slot → Bool
is_held a None = false
is_held a (Some s) = holds a s

-- The numbers of slots and of store addresses.
use Rattle.std.specs.Prelude.{◌≡◌, ℕ, ◌+◌, ◌≤◌, List, [], ◌∷◌, map}
use Rattle.std.specs.List.{AllByRecursion}
use Rattle.dae_queues.specs.Lists.{Slots, Stores}

-- these are the numbers from low on, up to just below high
abbrev pub CountsUp : ℕ → List ℕ → ℕ → Type 0
CountsUp low [] high = low ≡ high
CountsUp low (n ∷ ns) high = (n ≡ low) × CountsUp (low + 1) ns high

-- the slots have the numbers from taken to reserved - 1, and no stamp is above issued
pub record SlotsCount (issued : ℕ) (s : Slots) : Type 0 where
  pub numbers : CountsUp s.taken (map (λ slot. slot.number) s.slots) s.reserved
  pub stamps : AllByRecursion (λ slot. slot.stamp ≤ issued) s.slots

-- the waiting store addresses have the numbers from drained to issued - 1
abbrev pub StoresCount : Stores → Type 0
StoresCount s = CountsUp s.drained (map (λ a. a.number) s.sa) s.issued

-- The homes that variables are given.
use Rattle.std.specs.Prelude.{◌≡◌, ℕ, ◌≤◌, true, nat_eq, List, length, slice_get, Option, Some, None}
use Rattle.std.specs.List.{AllByRecursion, IsDistinct}
use Rattle.dae_ir.specs.Classes.{VariableSet}
use Rattle.dae_select_walks.specs.Homes.{is_home_register, home_or}
use Rattle.dae_select_walks.specs.declared.Home.{Home}
use Rattle.dae_select_walks.specs.declared.Home.TheVariants.{Register, Slot}
use Rattle.dae_regalloc.specs.declared.Span.{Span}
use Rattle.dae_regalloc.specs.Seen.{IsLiveAt}

-- one of the registers of variables, or the slot of the span's variable
abbrev pub IsOwnHome : Span → Home → Type 0
IsOwnHome x (Register r) = is_home_register r ≡ true
IsOwnHome x (Slot i) = i ≡ x.variable

abbrev pub numbered_home : List Home → Option ℕ → Home
numbered_home homes None = Register 8
numbered_home homes (Some i) = home_or (slice_get homes i)

abbrev pub IsRegister : Home → Type 0
IsRegister (Register r) = Unit {0}
IsRegister (Slot i) = ⊥

-- the variable is live at the place or at one before it, and at the place or at one behind it
abbrev pub IsAround : List VariableSet → ℕ → ℕ → Type 0
IsAround places place v = (first last : ℕ) × (first ≤ place) × (place ≤ last) × IsLiveAt places first v × IsLiveAt places last v

-- around no place more than so many different variables are live
abbrev pub AreFew : ℕ → List VariableSet → Type 0
AreFew most places = (place : ℕ) (vs : List ℕ) → IsDistinct nat_eq vs → AllByRecursion (IsAround places place) vs → length vs ≤ most

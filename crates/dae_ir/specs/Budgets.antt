-- How many items each queue of the machine must hold for a pair: the largest number of loads for E, and of copies, in one
-- group; 1 where A has an own load, a store stands, or a message of that direction stands; and else 0. All functions with
-- a definition count.
use Rattle.std.specs.Prelude.{◌≡◌, ◌⊎◌, ℕ, ◌+◌, ◌≤◌, Bool, true, false, ◌&&◌, ◌||◌, nat_eq, List, [], ◌∷◌, if◌then◌else◌}
use Rattle.std.specs.List.{list_any}
use Rattle.dae_base.specs.declared.Depths.{Depths}
use Rattle.dae_ir.specs.Code.{Done, Do, If, Loop}
use Rattle.dae_ir.specs.Streams.{Actions, actions_of}
use Rattle.dae_ir.specs.declared.stream.Action.{Action}
use Rattle.dae_ir.specs.declared.stream.Action.TheVariants.{Issue, Own, Address, Datum, Offer, Probe, Tell}
use Rattle.dae_ir.specs.declared.stream.Branch.{Branch}
use Rattle.dae_ir.specs.declared.stream.Branch.TheVariants.{Silent, Tells, Hears}
use Rattle.dae_ir.specs.declared.stream.StreamFunction.{StreamFunction}
use Rattle.dae_ir.specs.declared.stream.Pair.{Pair}

abbrev pub is_load_for_e : Action → Bool
is_load_for_e (Issue kind x) = true
is_load_for_e action = false

abbrev pub is_copy : Action → Bool
is_copy (Offer v) = true
is_copy action = false

abbrev pub is_own_load : Action → Bool
is_own_load (Own v kind x) = true
is_own_load action = false

abbrev pub is_address : Action → Bool
is_address (Address width x) = true
is_address action = false

abbrev pub is_datum : Action → Bool
is_datum (Datum x) = true
is_datum action = false

-- an action that pushes a message, and a branch that does
abbrev pub is_message : Action → Bool
is_message (Probe check) = true
is_message (Tell x) = true
is_message action = false

abbrev pub is_told : Branch → Bool
is_told (Silent t) = false
is_told (Tells t) = true
is_told Hears = false

abbrev pub never : Branch → Bool
never branch = false

-- there is such an action, or such a branch
abbrev pub some : (Action → Bool) → (Branch → Bool) → Actions → Bool
some f h Done = false
some f h (Do mark action k) = f action || some f h k
some f h (If mark branch p q k) = h branch || (some f h p || (some f h q || some f h k))
some f h (Loop mark body step k) = some f h body || (some f h step || some f h k)

-- how many such actions of the list itself are in the group of this number
abbrev pub in_group : (Action → Bool) → ℕ → Actions → ℕ
in_group f g Done = 0
in_group f g (Do mark action k) = (if f action && nat_eq mark.group g then 1 else 0) + in_group f g k
in_group f g (If mark branch p q k) = in_group f g k
in_group f g (Loop mark body step k) = in_group f g k

-- what is behind in a list holds of the lists inside it
abbrev pub AllInside : (Actions → Type 0) → Actions → Type 0
AllInside P Done = Unit {0}
AllInside P (Do mark action k) = AllInside P k
AllInside P (If mark branch p q k) = (P p × AllInside P p) × (P q × AllInside P q) × AllInside P k
AllInside P (Loop mark body step k) = (P body × AllInside P body) × (P step × AllInside P step) × AllInside P k

abbrev pub AnyInside : (Actions → Type 0) → Actions → Type 0
AnyInside P Done = ⊥
AnyInside P (Do mark action k) = AnyInside P k
AnyInside P (If mark branch p q k) = (P p ⊎ AnyInside P p) ⊎ ((P q ⊎ AnyInside P q) ⊎ AnyInside P k)
AnyInside P (Loop mark body step k) = (P body ⊎ AnyInside P body) ⊎ ((P step ⊎ AnyInside P step) ⊎ AnyInside P k)

-- of a whole function, and of all functions
abbrev pub AllLists : (Actions → Type 0) → List StreamFunction → Type 0
AllLists P [] = Unit {0}
AllLists P (f ∷ fs) = (P (actions_of f.body) × AllInside P (actions_of f.body)) × AllLists P fs

abbrev pub AnyList : (Actions → Type 0) → List StreamFunction → Type 0
AnyList P [] = ⊥
AnyList P (f ∷ fs) = (P (actions_of f.body) ⊎ AnyInside P (actions_of f.body)) ⊎ AnyList P fs

-- the largest number of such actions in one group of one list, and 0 where there is none
pub record IsLargest (f : Action → Bool) (m : ℕ) (functions : List StreamFunction) : Type 0 where
  pub bound : AllLists (λ code. (g : ℕ) → in_group f g code ≤ m) functions
  pub met : (m ≡ 0) ⊎ AnyList (λ code. (g : ℕ) × (in_group f g code ≡ m)) functions

-- 1 where there is such an action or branch, and else 0
abbrev pub stands : (Action → Bool) → (Branch → Bool) → List StreamFunction → ℕ
stands f h functions = if list_any (λ function. some f h (actions_of function.body)) functions then 1 else 0

pub record IsBudgetOf (pair : Pair) (budget : Depths) : Type 0 where
  pub ld : IsLargest is_load_for_e budget.ld pair.a.functions
  pub al : budget.al ≡ stands is_own_load never pair.a.functions
  pub sa : budget.sa ≡ stands is_address never pair.a.functions
  pub sd : budget.sd ≡ stands is_datum never pair.e.functions
  pub ab : budget.ab ≡ stands is_message is_told pair.a.functions
  pub eb : budget.eb ≡ stands is_message is_told pair.e.functions
  pub cq : IsLargest is_copy budget.cq pair.a.functions

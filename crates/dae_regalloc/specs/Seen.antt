-- Spans over the places of a function, which are seen from the last to the first, and are numbered in that order.
use Rattle.std.specs.Prelude.{◌≡◌, ◌⊎◌, ℕ, zero, suc, ◌+◌, ◌^◌, ◌≤◌, ◌<◌, Bool, true, nat_eq, nat_lt, List, [], ◌∷◌, ◌++◌, length, slice_get, Option, Some, None, if◌then◌else◌}
use Rattle.std.specs.List.{AllByRecursion}
use Rattle.dae_ir.specs.Classes.{VariableSet}
use Rattle.dae_ir.specs.Sizes.{size}
use Rattle.dae_ir.specs.Streams.{Actions, step_onto}
use Rattle.dae_ir.specs.declared.stream.Step.{Step}
use Rattle.dae_select_walks.specs.Live.{LiveWays, ways, live, lives}
use Rattle.dae_select_live.specs.Members.{member}
use Rattle.dae_regalloc.specs.declared.Span.{Span}
use Rattle.dae_regalloc.specs.declared.spans.Spans.{Spans}
use Rattle.dae_regalloc.specs.Scan.{AreInOrder}

-- ---- how many places there are

-- those of code
abbrev pub count_places : Actions → ℕ
count_places code = size (λ action. 1) code

-- 32 bits number those of a function with this code, and its entry
abbrev pub can_number : Actions → Bool
can_number code = nat_lt (count_places code + 1) (2 ^ 32)

-- ---- spans

-- the number of a variable's span, where it has one
abbrev pub number_in : List (Option ℕ) → ℕ → Option ℕ
number_in [] v = None
number_in (n ∷ ns) zero = n
number_in (n ∷ ns) (suc v) = number_in ns v

abbrev pub with_number : ℕ → ℕ → (ℕ → Option ℕ) → ℕ → Option ℕ
with_number v number numbers u = if nat_eq u v then Some number else numbers u

-- up to this place
abbrev pub widened : Span → ℕ → Span
widened x place = record x { last = place }

-- the spans are in order and reach up to the place that comes next at most, and those of variables are where numbers say
pub record AreNumbered (seen : Spans) : Type 0 where
  pub numbered : (i : ℕ) (x : Span) → slice_get seen.spans.items i ≡ Some x → number_in seen.numbers x.variable ≡ Some i
  pub named : (v i : ℕ) → number_in seen.numbers v ≡ Some i → (x : Span) × (slice_get seen.spans.items i ≡ Some x) × (x.variable ≡ v)
  pub order : AreInOrder 0 seen.spans.items
  pub within : AllByRecursion (λ x. x.last ≤ seen.places) seen.spans.items

-- each of these variables is below n
abbrev pub AreBelow : ℕ → VariableSet → Type 0
AreBelow n set = (v : ℕ) → set v ≡ true → v < n

-- the variable's span holds the place
abbrev pub IsHeld : Spans → ℕ → ℕ → Type 0
IsHeld seen v place =
    (i : ℕ) × (x : Span) × (number_in seen.numbers v ≡ Some i) × (slice_get seen.spans.items i ≡ Some x) × (x.variable ≡ v) × (x.first ≤ place) × (place ≤ x.last)

-- each variable that is live at one of the places has a span that holds it
abbrev pub AreHeld : List VariableSet → Spans → Type 0
AreHeld [] seen = Unit {0}
AreHeld (lives ∷ rest) seen = ((v : ℕ) → lives v ≡ true → IsHeld seen v (length rest)) × AreHeld rest seen

-- some span of the variable begins or ends at the place
abbrev pub IsEnd : Spans → ℕ → ℕ → Type 0
IsEnd seen place v =
    (i : ℕ) × (x : Span) × (slice_get seen.spans.items i ≡ Some x) × (x.variable ≡ v) × ((x.first ≡ place) ⊎ (x.last ≡ place))

-- the variable is live at the place of this number
abbrev pub IsLiveAt : List VariableSet → ℕ → ℕ → Type 0
IsLiveAt [] place v = ⊥
IsLiveAt (lives ∷ rest) place v = ((place ≡ length rest) × (lives v ≡ true)) ⊎ IsLiveAt rest place v

-- these places are seen, the last one first: spans hold those where their variables are live, and begin and end at such
pub record AreSeen (places : List VariableSet) (seen : Spans) : Type 0 where
  pub count : seen.places ≡ length places
  pub numbered : AreNumbered seen
  pub held : AreHeld places seen
  pub ends : (place v : ℕ) → IsEnd seen place v → IsLiveAt places place v
  pub few : (n : ℕ) → AllByRecursion (AreBelow n) places → length seen.numbers ≤ n

-- the next place is seen, where these variables are live
pub record SeesPlace (here : VariableSet) (old new : Spans) : Type 0 where
  pub seen : (places : List VariableSet) → AreSeen places old → AreSeen (here ∷ places) new
  pub count : new.places ≡ old.places + 1

-- spans that held a place hold it again, and those of these variables hold the next place
pub record IsFurther (seen : ℕ → Type 0) (old new : Spans) : Type 0 where
  pub places : new.places ≡ old.places
  pub numbered : AreNumbered old → AreNumbered new
  pub kept : AreNumbered old → (v place : ℕ) → place ≤ old.places → IsHeld old v place → IsHeld new v place
  pub held : AreNumbered old → (v : ℕ) → seen v → IsHeld new v old.places
  pub ends : AreNumbered old → (place v : ℕ) → IsEnd new place v → IsEnd old place v ⊎ ((place ≡ old.places) × seen v)
  pub few : (n : ℕ) → length old.numbers ≤ n → ((v : ℕ) → seen v → v < n) → length new.numbers ≤ n

-- behind the places that are seen those of the actions are seen, and these variables are live before the actions
pub record ArePlacesOf (actions : Actions) (x : LiveWays) (old new : Spans) (set : List ℕ) : Type 0 where
  pub seen : (places : List VariableSet) → AreSeen places old → AreSeen (lives actions x ++ places) new
  pub live : member set ≡ live actions x
  pub count : new.places ≡ old.places + count_places actions

-- with a step before whatever was seen
abbrev pub ArePlacesOfStep : Step → Spans → List ℕ → List ℕ → List ℕ → Spans → List ℕ → Type 0
ArePlacesOfStep step old next leaves skips new set =
    (first : Spans) (k : Actions) (n : VariableSet)
    → ArePlacesOf k (ways n (member leaves) (member skips)) first old next → ArePlacesOf (step_onto step k) (ways n (member leaves) (member skips)) first new set

-- A table of names, the latest last, with the lengths at which its open scopes began, the innermost last.
use Rattle.std.specs.Prelude.{◌≡◌, ℕ, ◌≤◌, List, [], ◌∷◌, length, map, take, reverse}
use Rattle.dae_parse_parts.specs.declared.scope.Binding.{Binding}

abbrev pub pair_of : {B : Type 0} → Binding B → ℕ × B
pair_of b = (b.name, b.bound)

abbrev pub shown : {B : Type 0} → List (Binding B) → List (ℕ × B)
shown bindings = map pair_of (reverse bindings)

abbrev pub cuts : {B : Type 0} → List (Binding B) → List ℕ → List (List (ℕ × B))
cuts bindings [] = []
cuts bindings (k ∷ ks) = shown (take k bindings) ∷ cuts bindings ks

abbrev pub shown_outside : {B : Type 0} → List (Binding B) → List ℕ → List (List (ℕ × B))
shown_outside bindings starts = cuts bindings (reverse starts)

-- none of these is above the one before it
abbrev pub Fall : ℕ → List ℕ → Type 0
Fall limit [] = Unit {0}
Fall limit (k ∷ ks) = (k ≤ limit) × Fall k ks

abbrev pub AreWithin : ℕ → List ℕ → Type 0
AreWithin length starts = Fall length (reverse starts)

abbrev pub number_of : {B : Type 0} → Binding B → ℕ
number_of b = b.name

abbrev pub numbers_of : {B : Type 0} → List (Binding B) → List ℕ
numbers_of bindings = map number_of bindings

-- no scope began behind the end, and an index has the numbers of the names
pub record IsScope {B : Type 0} (bindings : List (Binding B)) (index starts : List ℕ) : Type 0 where
  pub within : AreWithin (length bindings) starts
  pub indexed : index ≡ numbers_of bindings

-- the names behind these bindings, each before the next
abbrev pub bound_all : {B : Type 0} → List (Binding B) → List (ℕ × B) → List (ℕ × B)
bound_all [] names = names
bound_all (b ∷ bindings) names = bound_all bindings (pair_of b ∷ names)

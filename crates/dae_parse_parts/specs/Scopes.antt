-- The names in scope, with what each is bound to, and the lists of names that the open scopes go back to.
use Rattle.std.specs.Prelude.{ℕ, nat_eq, if◌then◌else◌, List, [], ◌∷◌, Option, Some, None}

pub record Scopes (B : Type 0) : Type 0 where
  pub names : List (ℕ × B)
  pub outside : List (List (ℕ × B))

-- what a name is bound to, the latest first
abbrev pub bound_to : {B : Type 0} → List (ℕ × B) → ℕ → Option B
bound_to [] n = None
bound_to (b ∷ names) n = if nat_eq b.0 n then Some b.1 else bound_to names n

abbrev pub bound : {B : Type 0} → ℕ → B → Scopes B → Scopes B
bound n is s = record { names = (n, is) ∷ s.names; outside = s.outside }

abbrev pub opened : {B : Type 0} → Scopes B → Scopes B
opened s = record { names = s.names; outside = s.names ∷ s.outside }

abbrev pub closed_to : {B : Type 0} → List (ℕ × B) → List (List (ℕ × B)) → Scopes B
closed_to names [] = record { names = names; outside = [] }
closed_to names (o ∷ os) = record { names = o; outside = os }

abbrev pub closed : {B : Type 0} → Scopes B → Scopes B
closed s = closed_to s.names s.outside

-- the names outside the innermost scope that is open, or none
abbrev pub innermost : {B : Type 0} → List (List (ℕ × B)) → List (ℕ × B)
innermost [] = []
innermost (o ∷ os) = o

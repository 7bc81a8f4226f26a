-- The variables of a list.
use Rattle.std.specs.Prelude.{◌≡◌, ℕ, ◌<◌, ◌≤◌, false, not, ◌&&◌, ◌||◌, nat_eq, List, [], ◌∷◌, length, slice_index}
use Rattle.dae_ir.specs.Classes.{VariableSet}

-- those that stand in it
abbrev pub member : List ℕ → VariableSet
member [] u = false
member (v ∷ vs) u = nat_eq u v || member vs u

-- all of the set but this one
abbrev pub without : ℕ → VariableSet → VariableSet
without v set u = set u && not (nat_eq u v)

-- each is below those behind it, so that none stands there twice
abbrev pub AreRising : List ℕ → Type 0
AreRising vs = (i j : ℕ) → i < j → j < length vs → slice_index vs i < slice_index vs j

-- the variable stands at place i
pub record IsAt (vs : List ℕ) (v i : ℕ) : Type 0 where
  pub within : i < length vs
  pub here : slice_index vs i ≡ v

-- the variable would go to place i
pub record IsGapFor (vs : List ℕ) (v i : ℕ) : Type 0 where
  pub within : i ≤ length vs
  pub smaller : (k : ℕ) → k < i → slice_index vs k < v
  pub greater : (k : ℕ) → i ≤ k → k < length vs → v < slice_index vs k

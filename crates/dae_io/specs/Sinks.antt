-- What clauses see of a sink, and what a put does to it.
use Rattle.std.specs.Prelude.{◌≡◌, ℕ, ◌≤◌, List, [], ◌∷◌, ◌++◌, Option, take}
use Rattle.std.specs.Io.KnownBytes.{Appends}
use Rattle.dae_io.specs.Faults.{Rose}

-- the bytes that a sink took, where it tells them; the piece of each put so far, which stands for contracts alone; and
-- the count of its faults
pub record SinkState : Type 0 where
  pub taken : Option (List ℕ)
  pub given : List (List ℕ)
  pub count : ℕ

abbrev pub sink_state : Option (List ℕ) → List (List ℕ) → ℕ → SinkState
sink_state taken given count = record { taken = taken; given = given; count = count }

-- the bytes taken grew by some first bytes of the piece
abbrev pub AppendsPrefix : Option (List ℕ) → Option (List ℕ) → List ℕ → Type 0
AppendsPrefix old new piece = (count : ℕ) × Appends old new (take count piece)

-- one put: the piece was taken whole
pub record IsPut (piece : List ℕ) (old new : SinkState) : Type 0 where
  pub taken : Appends old.taken new.taken piece
  pub given : new.given ≡ old.given ++ piece ∷ []
  pub counted : old.count ≤ new.count

-- one put: it failed and was counted, and some first bytes of the piece were taken, or none
pub record IsPutFailed (piece : List ℕ) (old new : SinkState) : Type 0 where
  pub taken : AppendsPrefix old.taken new.taken piece
  pub given : new.given ≡ old.given ++ piece ∷ []
  pub rose : Rose old.count new.count

-- What stands before and behind the first byte of a kind.
use Rattle.std.specs.Prelude.{◌≡◌, ◌≢◌, ℕ, ◌<◌, List, [], ◌∷◌, ◌++◌, length, slice_index, Option, Some, None}
use Rattle.std.specs.Borrow.{Bor}

-- the byte stands nowhere in them
abbrev pub Lacks : ℕ → List ℕ → Type 0
Lacks byte xs = (k : ℕ) → k < length xs → slice_index xs k ≢ byte

-- the byte, and what stands behind it
abbrev pub onward : ℕ → Option (List ℕ) → List ℕ
onward byte None = []
onward byte (Some back) = byte ∷ back

-- the bytes before the first such byte, and those behind it, or None where there is none
pub record IsCut (byte : ℕ) (bytes front : List ℕ) (back : Option (List ℕ)) : Type 0 where
  pub whole : bytes ≡ front ++ onward byte back
  pub first : Lacks byte front

-- the bytes of a slice, if there is one
abbrev pub bytes_of : Option (Bor (List ℕ)) → Option (List ℕ)
bytes_of None = None
bytes_of (Some bytes) = Some bytes.now

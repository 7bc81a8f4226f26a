-- What a shelf tells of its names: the bytes that a name holds, or nothing.
use Rattle.std.specs.Prelude.{◌≡◌, ◌≢◌, ℕ, List, Option, None, IfSome, take}

-- nothing is told of any name
abbrev pub IsSilent : (List ℕ → Option (List ℕ)) → Type 0
IsSilent told = (name : List ℕ) → told name ≡ None

-- the same is told of every name
abbrev pub TellsSame : (List ℕ → Option (List ℕ)) → (List ℕ → Option (List ℕ)) → Type 0
TellsSame old new = (name : List ℕ) → new name ≡ old name

-- the same is told of every name but one
abbrev pub TellsSameOfOthers : List ℕ → (List ℕ → Option (List ℕ)) → (List ℕ → Option (List ℕ)) → Type 0
TellsSameOfOthers name old new = (other : List ℕ) → other ≢ name → new other ≡ old other

-- the text is the first so many bytes of what is told, or all where it is shorter; or nothing is told
abbrev pub IsFirst : ℕ → Option (List ℕ) → List ℕ → Type 0
IsFirst most told text = IfSome told (λ held. text ≡ take most held)

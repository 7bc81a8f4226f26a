-- Where the latest of a name stands.
use Rattle.std.specs.Prelude.{ℕ, List, [], ◌∷◌, length, Option, Some, None, nat_eq, if◌then◌else◌}

-- of names, the latest first: the place from the other end, of the first of them that is this one
abbrev pub latest_of : List ℕ → ℕ → Option ℕ
latest_of [] name = None
latest_of (n ∷ ns) name = if nat_eq n name then Some (length ns) else latest_of ns name

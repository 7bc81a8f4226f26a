-- The table of a header's macros.
use Rattle.std.specs.Prelude.{ℕ, List, map}
use Rattle.std.specs.Borrow.{Bor}

-- names and numbers
abbrev pub rows_of : List (Bor (List ℕ) × Bor (List ℕ)) → List (List ℕ × List ℕ)
rows_of rows = map (λ r. (r.0.now, r.1.now)) rows

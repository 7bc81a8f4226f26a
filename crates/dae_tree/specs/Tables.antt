-- Tables from spellings to what they spell.
use Rattle.std.specs.Prelude.{ℕ, ◌≤◌, Bool, IsTrue, List, [], ◌∷◌, Option, Some, None, if◌then◌else◌, nat_eq, length, map}
use Rattle.std.specs.List.{AllByRecursion, starts_with}
use Rattle.std.specs.Str.{bytes_eq}
use Rattle.std.specs.Borrow.{Bor}
use Rattle.dae_tree.specs.declared.pieces.PieceKind.{PieceKind}
use Rattle.dae_tree.specs.declared.signs.TheConstants.{SIGNS}
use Rattle.dae_tree.specs.declared.words.Keyword.{Keyword}
use Rattle.dae_tree.specs.declared.words.TheConstants.{KEYWORDS, REFUSED_WORDS}
use Rattle.dae_tree.specs.declared.faults.Construct.{Construct}
use Rattle.dae_tree.specs.declared.headers.Header.{Header}
use Rattle.dae_tree.specs.declared.headers.TheConstants.{HEADERS}
use Rattle.dae_tree.specs.declared.constants.TheConstants.{SUFFIXES}

abbrev pub rows_of : {A : Type 0} → List (Bor (List ℕ) × A) → List (List ℕ × A)
rows_of rows = map (λ r. (r.0.now, r.1)) rows

-- the first row whose spelling begins the bytes: the spelling's length, and what it spells
abbrev pub first_row : {A : Type 0} → List (List ℕ × A) → List ℕ → Option (ℕ × A)
first_row [] bytes = None
first_row (r ∷ rs) bytes = if starts_with nat_eq bytes r.0 then Some (length r.0, r.1) else first_row rs bytes

-- no row that begins the bytes is longer (C90 6.1)
abbrev pub IsLongestRow : {A : Type 0} → List (List ℕ × A) → List ℕ → ℕ → Type 0
IsLongestRow rows bytes n = AllByRecursion (λ r. IsTrue (starts_with nat_eq bytes r.0) → length r.0 ≤ n) rows

-- what the row with this spelling says
abbrev pub row_of : {A : Type 0} → List (List ℕ × A) → List ℕ → Option A
row_of [] name = None
row_of (r ∷ rs) name = if bytes_eq name r.0 then Some r.1 else row_of rs name

-- the longest sign at the front: the longer rows stand first
unfoldable pub sign_of : List ℕ → Option (ℕ × PieceKind)
sign_of bytes = first_row (map (λ r. (r.0.now, r.1)) SIGNS) bytes

unfoldable pub keyword_of : List ℕ → Option Keyword
keyword_of name = row_of (map (λ r. (r.0.now, r.1)) KEYWORDS) name

unfoldable pub refused_word : List ℕ → Option Construct
refused_word name = row_of (map (λ r. (r.0.now, r.1)) REFUSED_WORDS) name

unfoldable pub header_of : List ℕ → Option Header
header_of name = row_of (map (λ r. (r.0.now, r.1)) HEADERS) name

-- whether a suffix makes a constant unsigned
unfoldable pub suffix_of : List ℕ → Option Bool
suffix_of suffix = row_of (map (λ r. (r.0.now, r.1)) SUFFIXES) suffix

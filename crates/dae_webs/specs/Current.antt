-- The current web of each variable at a place of the code: the variable of the renamed code that holds its value there, or none
-- where no one is known to.
use Rattle.std.specs.Prelude.{ℕ, zero, suc, Bool, true, false, List, [], ◌∷◌, Option, Some, None, slice_get}
use Rattle.dae_meaning.specs.Variables.{VariableSet}

-- by the number of the variable
abbrev pub Current : Type 0
Current = List (Option ℕ)

abbrev pub flattened : Option (Option ℕ) → Option ℕ
flattened None = None
flattened (Some x) = x

abbrev pub web_of : Current → ℕ → Option ℕ
web_of m v = flattened (slice_get m v)

-- the variables that have a web
abbrev pub is_web : Option ℕ → Bool
is_web None = false
is_web (Some u) = true

abbrev pub has_web : Current → VariableSet
has_web m v = is_web (web_of m v)

-- how a variable is written: as its web, or as itself where it has none
abbrev pub or_own : ℕ → Option ℕ → ℕ
or_own v None = v
or_own v (Some u) = u

abbrev pub written_as : Current → ℕ → ℕ
written_as m v = or_own v (web_of m v)

-- at a function's entry each of so many variables, from k on, is its own web
abbrev pub own_webs : (k count : ℕ) → Current
own_webs k zero = []
own_webs k (suc count) = Some k ∷ own_webs (suc k) count

-- The parts of words: those that begin with a dash, and those that don't.
use Rattle.std.specs.Prelude.{◌≡◌, ℕ, true, false, List, [], ◌∷◌}
use Rattle.std.specs.List.{AllByRecursion}
use Rattle.dae_cli_options.specs.Names.{begins_with_dash}

-- each of the words begins with a dash
abbrev pub AreDashed : List (List ℕ) → Type 0
AreDashed words = AllByRecursion (λ w. begins_with_dash w ≡ true) words

-- the first word, if there is one, begins with none
abbrev pub IsPlain : List (List ℕ) → Type 0
IsPlain [] = Unit {0}
IsPlain (w ∷ ws) = begins_with_dash w ≡ false

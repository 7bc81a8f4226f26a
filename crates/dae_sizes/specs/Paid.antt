-- The tokens and literals of a file pay for what its plan gives.
use Rattle.std.specs.Prelude.{◌≡◌, ℕ, ◌+◌, ◌≤◌, List, [], ◌∷◌, Option, Some, None, Ok, slice_get}
use Rattle.dae_tree.specs.Trees.{Expression}
use Rattle.dae_types_kinds.specs.Tables.{Tables}
use Rattle.dae_types_kinds.specs.Values.{Typed}
use Rattle.dae_types_rules.specs.Plan.{check_of}
use Rattle.dae_types_plans.specs.Expressions.{plan_value}
use Rattle.dae_sizes.specs.Worth.{worth}
use Rattle.dae_sizes.specs.Weights.{weight}

-- the bytes of literal n
abbrev pub bytes_or_none : Option (List ℕ) → List ℕ
bytes_or_none None = []
bytes_or_none (Some bytes) = bytes

abbrev pub bytes_of_literal : List (List ℕ) → ℕ → List ℕ
bytes_of_literal literals n = bytes_or_none (slice_get literals n)

-- so many for each byte
abbrev pub for_each : ℕ → List ℕ → ℕ
for_each c [] = 0
for_each c (b ∷ bs) = c + for_each c bs

-- the price of a literal: two such for each of its bytes
abbrev pub price : ℕ → List (List ℕ) → ℕ → ℕ
price c literals n = for_each c (bytes_of_literal literals n) + for_each c (bytes_of_literal literals n)

-- a value weighs less than the tokens of its expression pay, whatever was declared before
abbrev pub ValuesPaid : Type 0
ValuesPaid =
    (c : ℕ) (e : Expression) (s : Tables) (t : Tables) (x : Typed) → c ≤ 1 → check_of (plan_value e) s ≡ Ok (t, x) →
    2 + weight c x.tree ≤ worth (price c s.literals) e

-- No statement of a file in which no rule is broken tests the value of a call of exit or abort: such a call is void, and each
-- operand of a test is a scalar (C90 6.3.3.3, 6.3.8, 6.3.9, 6.3.13 to 6.3.15, 6.6.4, 6.6.5, 7.10.4.1, 7.10.4.3).
use Rattle.std.specs.Prelude.{◌≡◌, ℕ, List, Ok, Bool}
use Rattle.std.specs.List.{AllByRecursion}
use Rattle.dae_tree.specs.Trees.{External}
use Rattle.dae_types_kinds.specs.Tables.{Tables}
use Rattle.dae_types_rules.specs.Plan.{check_of}
use Rattle.dae_types_file_plans.specs.Files.{Product, Declares, Data, Body, LibraryNames, plan_file, start_of}
use Rattle.dae_lower_bounds.specs.Voids.{void_statements}

-- what a file comes to has no such test
abbrev pub BodyTestsValues : Product → Type 0
BodyTestsValues (Declares d) = Unit {0}
BodyTestsValues (Data o items) = Unit {0}
BodyTestsValues (Body f locals storages body) = void_statements body ≡ 0

-- from what is declared before the first token of a file, with the headers that it includes, and its names and literals
abbrev pub BodiesTestValues : Type 0
BodiesTestValues =
    (xs : List External) (stdio stdlib : Bool) (n : LibraryNames) (literals : List (List ℕ)) (t : Tables) (products : List Product)
    → check_of (plan_file xs) (start_of stdio stdlib n literals) ≡ Ok (t, products) → AllByRecursion BodyTestsValues products

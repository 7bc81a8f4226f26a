-- The bodies of functions that the plan of a file gives, and the definitions that pay for them.
use Rattle.std.specs.Prelude.{◌≡◌, ◌⊎◌, ℕ, ◌+◌, ◌≤◌, List, [], ◌∷◌, length, Ok}
use Rattle.dae_tree.specs.Trees.{External}
use Rattle.dae_program.specs.Trees.{Statements}
use Rattle.dae_types_kinds.specs.declared.tables.Local.{Local}
use Rattle.dae_types_kinds.specs.declared.tables.Storage.{Storage}
use Rattle.dae_types_kinds.specs.Tables.{Tables}
use Rattle.dae_types_rules.specs.Plan.{check_of}
use Rattle.dae_types_file_plans.specs.Files.{Product, Declares, Data, Body, plan_file}
use Rattle.dae_lower_bounds.specs.Constants.{InitialisesConstants}
use Rattle.dae_sizes.specs.Worth.{worth_of_external, declares_in_external, IsDefinition}
use Rattle.dae_sizes.specs.Weights.{weight_in}
use Rattle.dae_sizes.specs.Paid.{price}

-- the parameters and locals of a function, where each is kept, and its statements
pub record PlannedBody : Type 0 where
  pub routine : ℕ
  pub locals : List Local
  pub storages : List Storage
  pub statements : Statements

abbrev pub bodies_in : List Product → List PlannedBody
bodies_in [] = []
bodies_in (Declares d ∷ xs) = bodies_in xs
bodies_in (Data o items ∷ xs) = bodies_in xs
bodies_in (Body f locals storages body ∷ xs) = record { routine = f; locals = locals; storages = storages; statements = body } ∷ bodies_in xs

-- A definition has at least as many declared names as there are parameters and locals. What its block comes to weighs at least 8
-- less than it pays. Aggregates get constants alone.
pub record IsPaidBy (c : ℕ) (literals : List (List ℕ)) (x : External) (f : PlannedBody) : Type 0 where
  pub definition : IsDefinition x
  pub locals : length f.locals ≤ declares_in_external x
  pub storages : length f.storages ≤ declares_in_external x
  pub weight : 8 + weight_in c f.statements ≤ worth_of_external (price c literals) x
  pub constants : InitialisesConstants f.statements

-- bodies come from definitions, at most one from each, in their order
abbrev pub ArePaidBy : (c : ℕ) (literals : List (List ℕ)) → List External → List PlannedBody → Type 0
ArePaidBy c literals xs [] = Unit {0}
ArePaidBy c literals [] (f ∷ fs) = ⊥
ArePaidBy c literals (x ∷ xs) (f ∷ fs) = (IsPaidBy c literals x f × ArePaidBy c literals xs fs) ⊎ ArePaidBy c literals xs (f ∷ fs)

-- the definitions of a file pay for its bodies, whatever was declared before
abbrev pub BodiesPaid : Type 0
BodiesPaid =
    (c : ℕ) (xs : List External) (s t : Tables) (products : List Product) → c ≤ 1 → check_of (plan_file xs) s ≡ Ok (t, products) →
    ArePaidBy c s.literals xs (bodies_in products)

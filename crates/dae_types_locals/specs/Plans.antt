-- Plans of parts of initialisers and declarations.
use Rattle.std.specs.Prelude.{ℕ, List, None, Bool, false, true}
use Rattle.dae_base.specs.declared.Place.{Place}
use Rattle.dae_tree.specs.declared.expressions.Specifier.{Specifier}
use Rattle.dae_tree.specs.Trees.{Initialiser, Initialisers}
use Rattle.dae_tree.specs.Views.{views_specifiers}
use Rattle.dae_program.specs.Trees as program
use Rattle.dae_types_kinds.specs.declared.tables.Context.TheVariants as context
use Rattle.dae_types_kinds.specs.Types.{is_scalar, shape_of}
use Rattle.dae_types_rules.specs.Plan.{CheckPlan, chain}
use Rattle.dae_types_plans.specs.Steps.{base_at, does, looks}
use Rattle.dae_types_plans.specs.Expressions.{plan_specifiers}
use Rattle.dae_types_file_plans.specs.Initialisers.{Filling, is_value_for, list_at, plan_initialisers, plan_unused_initialiser, whole_by}
use Rattle.dae_types_file_plans.specs.Statements.{plan_first_scalar, plan_given, scalar_list_at, type_of_local}

-- a list in braces
abbrev pub plan_list : Place → Filling → Initialisers → CheckPlan Filling
plan_list p f js = list_at p f js (λ g. plan_initialisers g js)

-- the whole initialiser of an object of a type that stands at an offset
abbrev pub plan_whole : (offset type_id : ℕ) → Initialiser → CheckPlan Filling
plan_whole o t x = chain false (looks (λ s. is_value_for s t x)) (whole_by o t x)

-- an initialiser that nothing needs
abbrev pub looked_through : Initialiser → CheckPlan (Unit {0})
looked_through x = does (λ s f. (s, tt {0})) (plan_unused_initialiser x)

-- the type that the specifiers of a declaration in a block name
abbrev pub plan_declared : Bool → List Specifier → CheckPlan ℕ
plan_declared alone ws = base_at (views_specifiers ws) (plan_specifiers context.Block alone None (views_specifiers ws))

-- a list in braces for a local scalar
abbrev pub plan_scalar_list : Place → ℕ → Place → Initialisers → CheckPlan program.Statements
plan_scalar_list p k q js = chain tt (scalar_list_at q js) (λ x. plan_first_scalar p k js)

-- the initialiser of a local object
abbrev pub plan_initialised : Place → ℕ → Initialiser → CheckPlan program.Statements
plan_initialised p k x = chain true (looks (λ s. is_scalar (shape_of s (type_of_local s k)))) (plan_given p k x)

-- What functions of values give, as plain data.
use Rattle.std.specs.Prelude.{ℕ, Bool, not, nat_eq, length, List, Vec, Option, Some, None, Result, Ok, map}
use Rattle.std.specs.declared.alloc.Global.{Global}
use Rattle.dae_program.specs.Trees as program
use Rattle.dae_program.specs.Views.{view}
use Rattle.dae_program.specs.declared.expressions.Expression.{Expression}
use Rattle.dae_types_kinds.specs.declared.rules.CheckError.{CheckError}
use Rattle.dae_types_kinds.specs.Tables.{Tables}
use Rattle.dae_types_kinds.specs.Values.{Typed}
use Rattle.dae_types_rules.specs.Plan.{CheckPlan, pure, Gives}
use Rattle.dae_types_plans.specs.Steps.{parameter_types}
use Rattle.dae_types_tables.specs.declared.checker.Checker.{Checker}
use Rattle.dae_types_tables.specs.Seen.{tables, FollowsBy}
use Rattle.dae_types_folding.specs.declared.value.TypedValue.{TypedValue}
use Rattle.dae_types_folding.specs.Views.{view_value}

-- ---- parts that are done

abbrev pub one : TypedValue → CheckPlan Typed
one x = pure (view_value x)

abbrev pub two : TypedValue → TypedValue → CheckPlan (Typed × Typed)
two x y = pure (view_value x, view_value y)

abbrev pub three : TypedValue → TypedValue → TypedValue → CheckPlan (Typed × (Typed × Typed))
three x y z = pure (view_value x, (view_value y, view_value z))

-- a type, and what is cast to it
abbrev pub cast_of : ℕ → TypedValue → CheckPlan (ℕ × Typed)
cast_of t x = pure (t, view_value x)

-- arguments in their order
abbrev pub views : Vec Expression Global → List program.Expression
views es = map view es.items

-- ---- what functions give

-- the value that a plan says, up to the first broken rule
abbrev pub GivesValue : Checker → Result TypedValue CheckError → CheckPlan Typed → Checker → Type 0
GivesValue new r m old = FollowsBy view_value new r m old

-- a type with the tables that it stands in, where there is one
abbrev pub among : Tables → Option ℕ → Option (Tables × ℕ)
among s None = None
among s (Some t) = Some (s, t)

abbrev pub Joins : Checker → Result (Option ℕ) CheckError → Option (Tables × ℕ) → Type 0
Joins c r t = Gives (among (tables c)) r (Ok t)

-- a function has another number of parameters
abbrev pub differs_in_number : Tables → ℕ → ℕ → Bool
differs_in_number s f given = not (nat_eq given (length (parameter_types s f)))

-- What a check of an expression promises.
use Rattle.dae_tree.specs.Trees.{Expression}
use Rattle.dae_types_kinds.specs.Tables.{Tables}
use Rattle.dae_types_rules.specs.Plan.{IsChecked, check_of}
use Rattle.dae_types_plans.specs.Expressions.{plan_value}

-- whatever was declared so far, stopping at the first broken rule answers what all of the table says
abbrev pub ValuesAreChecked : Type 0
ValuesAreChecked = (e : Expression) (s : Tables) → IsChecked (plan_value e) s (check_of (plan_value e) s)

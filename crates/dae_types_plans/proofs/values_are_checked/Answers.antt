use Rattle.dae_types_rules.proofs.Laws.{check_is_table}
use Rattle.dae_types_plans.specs.Expressions.{plan_value}
use Rattle.dae_types_plans.proofs.values_are_checked.Goals as goal

pub returns : goal.returns
returns c = λ e s. check_is_table (plan_value e) s

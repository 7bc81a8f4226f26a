use Rattle.dae_types_rules.proofs.Laws.{check_is_table}
use Rattle.dae_types_file_plans.specs.Files.{plan_file}
use Rattle.dae_types_file_plans.proofs.files_are_checked.Goals as goal

pub returns : goal.returns
returns c = λ xs s. check_is_table (plan_file xs) s

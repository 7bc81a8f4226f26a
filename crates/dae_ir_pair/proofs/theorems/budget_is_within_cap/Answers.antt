use Rattle.dae_ir_pair.proofs.Laws.{budget_is_within_cap}
use Rattle.dae_ir_pair.proofs.theorems.budget_is_within_cap.Goals as goal

pub returns : goal.returns
returns c = budget_is_within_cap

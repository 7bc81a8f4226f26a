use Rattle.dae_ir_pair.proofs.Laws.{budget_covers}
use Rattle.dae_ir_pair.proofs.theorems.budget_covers.Goals as goal

pub returns : goal.returns
returns c = budget_covers

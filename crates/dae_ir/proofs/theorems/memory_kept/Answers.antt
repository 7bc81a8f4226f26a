use Rattle.dae_ir.proofs.Laws.{memory_kept}
use Rattle.dae_ir.proofs.theorems.memory_kept.Goals as goal

pub returns : goal.returns
returns c = memory_kept

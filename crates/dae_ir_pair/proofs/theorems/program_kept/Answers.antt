use Rattle.dae_ir_pair.proofs.Laws.{program_kept}
use Rattle.dae_ir_pair.proofs.theorems.program_kept.Goals as goal

pub returns : goal.returns
returns c = program_kept

use Rattle.dae_ir_pair.proofs.Laws.{pair_keeps}
use Rattle.dae_ir_pair.proofs.theorems.pair_keeps.Goals as goal

pub returns : goal.returns
returns c = pair_keeps

use Rattle.dae_ir_pair.proofs.Laws.{streams_set_first}
use Rattle.dae_ir_pair.proofs.theorems.streams_set_first.Goals as goal

pub returns : goal.returns
returns c = streams_set_first

use Rattle.dae_ir_pair.proofs.Laws.{streams_are_small}
use Rattle.dae_ir_pair.proofs.theorems.streams_are_small.Goals as goal

pub returns : goal.returns
returns c = streams_are_small

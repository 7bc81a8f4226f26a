use Rattle.dae_ir_pair.proofs.Laws.{words_are_bounded}
use Rattle.dae_ir_pair.proofs.theorems.words_are_bounded.Goals as goal

pub returns : goal.returns
returns c = words_are_bounded

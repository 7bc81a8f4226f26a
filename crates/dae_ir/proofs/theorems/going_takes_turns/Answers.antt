use Rattle.dae_ir.proofs.Laws.{going_takes_turns}
use Rattle.dae_ir.proofs.theorems.going_takes_turns.Goals as goal

pub returns : goal.returns
returns c = going_takes_turns

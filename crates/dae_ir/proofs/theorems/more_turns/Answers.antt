use Rattle.dae_ir.proofs.Laws.{more_turns}
use Rattle.dae_ir.proofs.theorems.more_turns.Goals as goal

pub returns : goal.returns
returns c = more_turns

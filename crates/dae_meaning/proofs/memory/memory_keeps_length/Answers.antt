use Rattle.dae_meaning.proofs.memory.memory_keeps_length.Goals as goal
use Rattle.dae_base.proofs.Laws.{stored_length}

pub returns : goal.returns
returns c = stored_length

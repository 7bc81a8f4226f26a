use Rattle.dae_meaning.proofs.memory.memory_keeps_bytes.Goals as goal
use Rattle.dae_base.proofs.Laws.{stored_bytes}

pub returns : goal.returns
returns c = stored_bytes

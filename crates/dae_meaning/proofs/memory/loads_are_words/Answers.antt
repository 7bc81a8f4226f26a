use Rattle.dae_meaning.proofs.memory.loads_are_words.Goals as goal
use Rattle.dae_base.proofs.Laws.{loads_are_words}

pub returns : goal.returns
returns c = loads_are_words

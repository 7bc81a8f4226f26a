use Rattle.dae_threads.proofs.Programs.{threading_adds_nothing}
use Rattle.dae_threads.proofs.theorems.threading_adds_nothing.Goals as goal

pub returns : goal.returns
returns c = threading_adds_nothing

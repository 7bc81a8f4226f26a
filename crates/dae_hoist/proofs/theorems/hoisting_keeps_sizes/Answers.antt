use Rattle.dae_hoist.proofs.Programs.{hoisting_keeps_sizes}
use Rattle.dae_hoist.proofs.theorems.hoisting_keeps_sizes.Goals as goal

pub returns : goal.returns
returns c = hoisting_keeps_sizes

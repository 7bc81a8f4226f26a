use Rattle.dae_elide.proofs.Programs.{elision_keeps_sizes}
use Rattle.dae_elide.proofs.theorems.elision_keeps_sizes.Goals as goal

pub returns : goal.returns
returns c = elision_keeps_sizes

use Rattle.dae_webs.proofs.Measures.{renaming_keeps_sizes}
use Rattle.dae_webs.proofs.theorems.renaming_keeps_sizes.Goals as goal

pub returns : goal.returns
returns c = renaming_keeps_sizes

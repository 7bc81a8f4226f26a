use Rattle.dae_commons.proofs.Counts.{commoning_keeps_counts}
use Rattle.dae_commons.proofs.theorems.commoning_keeps_counts.Goals as goal

pub returns : goal.returns
returns c = commoning_keeps_counts

use Rattle.dae_sizes.proofs.Values.{values_paid}
use Rattle.dae_sizes.proofs.values_paid.Goals as goal

pub returns : goal.returns
returns c = values_paid

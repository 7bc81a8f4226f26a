use Rattle.dae_sizes.proofs.Files.{bodies_paid}
use Rattle.dae_sizes.proofs.bodies_paid.Goals as goal

pub returns : goal.returns
returns c = bodies_paid

use Rattle.dae_sizes.proofs.TickPlans.{typed_are_few}
use Rattle.dae_sizes.proofs.typed_are_few.Goals as goal

pub returns : goal.returns
returns c = typed_are_few

use Rattle.dae_sizes.proofs.TickStatements.{blocks_are_few}
use Rattle.dae_sizes.proofs.blocks_are_few.Goals as goal

pub returns : goal.returns
returns c = blocks_are_few

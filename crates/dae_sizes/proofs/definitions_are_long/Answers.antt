use Rattle.dae_sizes.proofs.Spelled.{definitions_are_long}
use Rattle.dae_sizes.proofs.definitions_are_long.Goals as goal

pub returns : goal.returns
returns c = definitions_are_long

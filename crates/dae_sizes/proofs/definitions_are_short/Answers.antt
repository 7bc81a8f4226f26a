use Rattle.dae_sizes.proofs.Totals.{definitions_are_short}
use Rattle.dae_sizes.proofs.definitions_are_short.Goals as goal

pub returns : goal.returns
returns c = definitions_are_short

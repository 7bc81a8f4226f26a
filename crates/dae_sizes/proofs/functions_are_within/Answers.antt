use Rattle.dae_sizes.proofs.Totals.{functions_are_within}
use Rattle.dae_sizes.proofs.functions_are_within.Goals as goal

pub returns : goal.returns
returns c = functions_are_within c.functions_are_few.ensures

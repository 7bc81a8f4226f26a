use Rattle.dae_sizes.proofs.Joined.{functions_are_few}
use Rattle.dae_sizes.proofs.functions_are_few.Goals as goal

pub returns : goal.returns
returns c = functions_are_few c.variables_are_few.ensures

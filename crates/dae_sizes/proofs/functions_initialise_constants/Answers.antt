use Rattle.dae_sizes.proofs.Joined.{functions_initialise_constants}
use Rattle.dae_sizes.proofs.functions_initialise_constants.Goals as goal

pub returns : goal.returns
returns c = functions_initialise_constants c.bodies_paid.ensures c.files_are_checked.ensures

use Rattle.dae_sizes.proofs.Joined.{functions_test_values}
use Rattle.dae_sizes.proofs.functions_test_values.Goals as goal

pub returns : goal.returns
returns c = functions_test_values c.bodies_test_values.ensures c.files_are_checked.ensures

use Rattle.dae_void_laws.proofs.Files.{bodies_test_values}
use Rattle.dae_void_laws.proofs.bodies_test_values.Goals as goal

pub returns : goal.returns
returns c = bodies_test_values

use Rattle.dae_unit_join.proofs.Counts.{joined_have_parameters}
use Rattle.dae_unit_join.proofs.joined_have_parameters.Goals as goal

pub returns : goal.returns
returns c = joined_have_parameters

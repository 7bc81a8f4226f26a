use Rattle.dae_lower_formed.proofs.SmallStatements.{variables_within}
use Rattle.dae_lower_formed.proofs.theorems.variables_within.Goals as goal

pub returns : goal.returns
returns c = variables_within

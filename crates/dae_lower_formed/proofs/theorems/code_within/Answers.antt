use Rattle.dae_lower_formed.proofs.SmallStatements.{code_within}
use Rattle.dae_lower_formed.proofs.theorems.code_within.Goals as goal

pub returns : goal.returns
returns c = code_within

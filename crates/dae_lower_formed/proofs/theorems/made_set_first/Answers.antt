use Rattle.dae_lower_formed.proofs.Programs.{made_set_first}
use Rattle.dae_lower_formed.proofs.theorems.made_set_first.Goals as goal

pub returns : goal.returns
returns c = made_set_first

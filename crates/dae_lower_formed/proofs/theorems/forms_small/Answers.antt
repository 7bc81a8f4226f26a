use Rattle.dae_lower_formed.proofs.Counts.{forms_small}
use Rattle.dae_lower_formed.proofs.theorems.forms_small.Goals as goal

pub returns : goal.returns
returns c = forms_small

use Rattle.dae_lower_formed.proofs.Programs.{forms_set_first}
use Rattle.dae_lower_formed.proofs.theorems.forms_set_first.Goals as goal

pub returns : goal.returns
returns c = forms_set_first

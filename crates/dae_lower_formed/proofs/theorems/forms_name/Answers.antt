use Rattle.dae_lower_formed.proofs.Named.{forms_name}
use Rattle.dae_lower_formed.proofs.theorems.forms_name.Goals as goal

pub returns : goal.returns
returns c = forms_name

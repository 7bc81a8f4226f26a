use Rattle.dae_lower_formed.proofs.Programs.{forms_scoped}
use Rattle.dae_lower_formed.proofs.theorems.forms_scoped.Goals as goal

pub returns : goal.returns
returns c = forms_scoped c.forms_close.ensures

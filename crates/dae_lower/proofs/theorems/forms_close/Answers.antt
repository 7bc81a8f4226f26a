use Rattle.dae_lower.proofs.Closing.{forms_close}
use Rattle.dae_lower.proofs.theorems.forms_close.Goals as goal

pub returns : goal.returns
returns c = forms_close

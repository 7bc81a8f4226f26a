use Rattle.dae_commons.proofs.Programs.{forms_are_commoned}
use Rattle.dae_commons.proofs.theorems.forms_are_commoned.Goals as goal

pub returns : goal.returns
returns c = forms_are_commoned

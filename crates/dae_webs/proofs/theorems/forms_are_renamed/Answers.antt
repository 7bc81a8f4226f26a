use Rattle.dae_webs.proofs.Programs.{forms_are_renamed}
use Rattle.dae_webs.proofs.theorems.forms_are_renamed.Goals as goal

pub returns : goal.returns
returns c = forms_are_renamed

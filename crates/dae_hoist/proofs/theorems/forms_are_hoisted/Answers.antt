use Rattle.dae_hoist.proofs.Programs.{forms_are_hoisted}
use Rattle.dae_hoist.proofs.theorems.forms_are_hoisted.Goals as goal

pub returns : goal.returns
returns c = forms_are_hoisted

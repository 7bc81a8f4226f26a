use Rattle.dae_sizes.proofs.Forms.{forms_are_little}
use Rattle.dae_sizes.proofs.forms_are_little.Goals as goal

pub returns : goal.returns
returns c = forms_are_little c.code_within.ensures c.functions_are_little.ensures

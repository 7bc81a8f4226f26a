use Rattle.dae_sizes.proofs.Forms.{forms_are_few}
use Rattle.dae_sizes.proofs.forms_are_few.Goals as goal

pub returns : goal.returns
returns c = forms_are_few c.forms_small.ensures c.functions_are_few.ensures

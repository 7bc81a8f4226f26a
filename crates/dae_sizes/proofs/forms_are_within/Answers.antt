use Rattle.dae_sizes.proofs.Totals.{forms_are_within}
use Rattle.dae_sizes.proofs.forms_are_within.Goals as goal

pub returns : goal.returns
returns c = forms_are_within c.parts_pay.ensures c.forms_are_little.ensures

use Rattle.dae_sizes.proofs.Functions.{variables_are_few}
use Rattle.dae_sizes.proofs.variables_are_few.Goals as goal

pub returns : goal.returns
returns c = variables_are_few c.tokens_pay.ensures c.bodies_paid.ensures c.files_are_checked.ensures

use Rattle.dae_sizes.proofs.Functions.{functions_are_counted}
use Rattle.dae_sizes.proofs.functions_are_counted.Goals as goal

pub returns : goal.returns
returns c = functions_are_counted c.tokens_pay.ensures c.parts_pay.ensures c.bodies_paid.ensures c.files_are_checked.ensures

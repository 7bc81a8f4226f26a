use Rattle.dae_sizes.proofs.Functions.{code_is_little}
use Rattle.dae_sizes.proofs.code_is_little.Goals as goal

pub returns : goal.returns
returns c = code_is_little c.tokens_pay.ensures c.bodies_paid.ensures c.files_are_checked.ensures

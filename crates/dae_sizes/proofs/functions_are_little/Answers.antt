use Rattle.dae_sizes.proofs.Joined.{functions_are_little}
use Rattle.dae_sizes.proofs.functions_are_little.Goals as goal

pub returns : goal.returns
returns c = functions_are_little c.code_is_little.ensures

use Rattle.dae_sizes.proofs.Spelled.{tokens_pay}
use Rattle.dae_sizes.proofs.tokens_pay.Goals as goal

pub returns : goal.returns
returns c = tokens_pay

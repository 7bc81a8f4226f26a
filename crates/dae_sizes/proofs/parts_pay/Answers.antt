use Rattle.dae_sizes.proofs.Apart.{parts_pay}
use Rattle.dae_sizes.proofs.parts_pay.Goals as goal

pub returns : goal.returns
returns c = parts_pay

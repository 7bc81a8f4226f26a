use Rattle.dae_lower_bounds.proofs.Bounded.{sets_bounded}
use Rattle.dae_lower_bounds.proofs.sets_bounded.Goals as goal

pub returns : goal.returns
returns c = sets_bounded

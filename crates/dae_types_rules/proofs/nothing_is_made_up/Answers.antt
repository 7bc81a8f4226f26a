use Rattle.dae_types_rules.proofs.Settling.{settled}
use Rattle.dae_types_rules.proofs.nothing_is_made_up.Goals as goal

pub returns : goal.returns
returns c = settled

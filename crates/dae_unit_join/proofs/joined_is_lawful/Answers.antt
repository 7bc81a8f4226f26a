use Rattle.dae_unit_join.proofs.Whole.{joined_lawful}
use Rattle.dae_unit_join.proofs.joined_is_lawful.Goals as goal

pub returns : goal.returns
returns c = joined_lawful

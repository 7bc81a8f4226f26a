use Rattle.dae_unit.proofs.Outlines.{causes_alike}
use Rattle.dae_unit.proofs.laws.outlines_tell_causes.Goals as goal

pub returns : goal.returns
returns c = causes_alike

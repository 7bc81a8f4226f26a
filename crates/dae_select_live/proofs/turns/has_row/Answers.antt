use Rattle.std.proofs.Common.{is_some, ap}
use Rattle.dae_select_live.proofs.turns.has_row.Goals as goal

pub returns-in-Some : goal.returns-in-Some
returns-in-Some c = ap is_some c.in-Some.ensures.value

pub returns-in-None : goal.returns-in-None
returns-in-None c = ap is_some c.in-None.ensures.value

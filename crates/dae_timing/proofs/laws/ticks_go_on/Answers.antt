use Rattle.dae_timing.proofs.Rows.{ticks_join}
use Rattle.dae_timing.proofs.laws.ticks_go_on.Goals as goal

pub returns : goal.returns
returns c = ticks_join

use Rattle.dae_timing.proofs.Pacing.{ticks_at_most}
use Rattle.dae_timing.proofs.laws.ticks_are_few.Goals as goal

pub returns : goal.returns
returns c = ticks_at_most

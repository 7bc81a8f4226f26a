use Rattle.dae_timing.proofs.Once.{prints_once}
use Rattle.dae_timing.proofs.laws.ticks_print_once.Goals as goal

pub returns : goal.returns
returns c = prints_once

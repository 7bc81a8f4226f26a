use Rattle.dae_elide.proofs.Programs.{checks_are_elided}
use Rattle.dae_elide.proofs.theorems.checks_are_elided.Goals as goal

pub returns : goal.returns
returns c = checks_are_elided

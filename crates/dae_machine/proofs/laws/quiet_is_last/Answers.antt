use Rattle.dae_machine.proofs.Ends.{down_to}
use Rattle.dae_machine.proofs.laws.quiet_is_last.Goals as goal

pub returns : goal.returns
returns c = λ setup s t u ps qs counted h q k. down_to setup s counted t u ps qs h q k

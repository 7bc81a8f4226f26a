use Rattle.dae_machine.proofs.Ends.{meet_runs}
use Rattle.dae_machine.proofs.laws.runs_meet.Goals as goal

pub returns : goal.returns
returns c = λ setup s t u ps qs counted h k. meet_runs setup s counted t u ps qs h k

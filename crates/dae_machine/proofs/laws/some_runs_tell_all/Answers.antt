use Rattle.dae_machine.proofs.Ends.{goes_on}
use Rattle.dae_machine.proofs.laws.some_runs_tell_all.Goals as goal

pub returns : goal.returns
returns c = λ setup s outputs counted has. goes_on setup s counted outputs has

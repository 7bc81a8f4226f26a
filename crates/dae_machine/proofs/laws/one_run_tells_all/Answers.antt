use Rattle.dae_machine.proofs.Ends.{can_only_end}
use Rattle.dae_machine.proofs.laws.one_run_tells_all.Goals as goal

pub returns : goal.returns
returns c = λ setup s t ps counted h f. can_only_end setup s counted t ps h f

use Rattle.dae_machine.proofs.Deeper.{runs_deeper}
use Rattle.dae_machine.proofs.laws.deeper_runs_too.Goals as goal

pub returns : goal.returns
returns c = runs_deeper

use Rattle.dae_machine.proofs.Diamond.{diamond}
use Rattle.dae_machine.proofs.laws.steps_commute.Goals as goal

pub returns : goal.returns
returns c = diamond

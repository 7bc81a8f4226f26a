use Rattle.dae_machine.proofs.Diamond.{counted_step}
use Rattle.dae_machine.proofs.laws.numbers_stay.Goals as goal

pub returns-clause-kept : goal.returns-clause-kept
returns-clause-kept c = counted_step

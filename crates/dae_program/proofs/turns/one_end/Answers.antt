use Rattle.dae_program.proofs.Ends.{one_end}
use Rattle.dae_program.proofs.turns.one_end.Goals as goal

pub returns : goal.returns
returns c = one_end

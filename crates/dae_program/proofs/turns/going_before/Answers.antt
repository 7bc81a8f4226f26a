use Rattle.dae_program.proofs.Ends.{going_before}
use Rattle.dae_program.proofs.turns.going_before.Goals as goal

pub returns : goal.returns
returns c = going_before

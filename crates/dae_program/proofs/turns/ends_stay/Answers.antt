use Rattle.dae_program.proofs.Ends.{ends_stay}
use Rattle.dae_program.proofs.turns.ends_stay.Goals as goal

pub returns : goal.returns
returns c = ends_stay

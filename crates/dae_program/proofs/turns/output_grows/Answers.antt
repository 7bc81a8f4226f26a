use Rattle.dae_program.proofs.Ends.{output_grows}
use Rattle.dae_program.proofs.turns.output_grows.Goals as goal

pub returns : goal.returns
returns c = output_grows

use Rattle.dae_accept.proofs.Within.{read_are_within}
use Rattle.dae_accept.proofs.laws.read_are_within.Goals as goal

pub returns : goal.returns
returns c = read_are_within

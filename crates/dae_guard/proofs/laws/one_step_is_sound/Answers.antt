use Rattle.dae_guard.proofs.Steps.{advances}
use Rattle.dae_guard.proofs.laws.one_step_is_sound.Goals as goal

pub returns : goal.returns
returns c = advances

use Rattle.dae_program.proofs.LawfulPrograms.{never_strays}
use Rattle.dae_program.proofs.rules.never_strays.Goals as goal

pub returns : goal.returns
returns c = never_strays

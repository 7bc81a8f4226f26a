use Rattle.dae_program.proofs.Straying.{named_never_stray}
use Rattle.dae_program.proofs.rules.named_never_stray.Goals as goal

pub returns : goal.returns
returns c = named_never_stray

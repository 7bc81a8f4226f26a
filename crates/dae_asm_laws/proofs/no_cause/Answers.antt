use Rattle.dae_asm_laws.proofs.Outcomes.{no_cause}
use Rattle.dae_asm_laws.proofs.no_cause.Goals as goal

pub returns : goal.returns
returns c = no_cause

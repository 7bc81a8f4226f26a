use Rattle.dae_asm_laws.proofs.Outcomes.{one_cause}
use Rattle.dae_asm_laws.proofs.one_cause.Goals as goal

pub returns : goal.returns
returns c = one_cause

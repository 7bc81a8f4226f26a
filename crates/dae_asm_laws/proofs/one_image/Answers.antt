use Rattle.dae_asm_laws.proofs.Same.{one_image}
use Rattle.dae_asm_laws.proofs.one_image.Goals as goal

pub returns : goal.returns
returns c = one_image

use Rattle.dae_select_blocks.proofs.Function.{code_does}
use Rattle.dae_select_blocks.proofs.laws.code_does.Goals as goal

pub returns : goal.returns
returns c = code_does

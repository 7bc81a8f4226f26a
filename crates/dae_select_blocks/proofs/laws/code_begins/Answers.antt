use Rattle.dae_select_blocks.proofs.Beginning.{code_begins}
use Rattle.dae_select_blocks.proofs.laws.code_begins.Goals as goal

pub returns : goal.returns
returns c = code_begins

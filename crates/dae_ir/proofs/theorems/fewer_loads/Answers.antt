use Rattle.dae_ir.proofs.Laws.{fewer_loads}
use Rattle.dae_ir.proofs.theorems.fewer_loads.Goals as goal

pub returns : goal.returns
returns c = fewer_loads

use Rattle.dae_lower_formed.proofs.Agreeing.{lowered_do_programs}
use Rattle.dae_lower_formed.proofs.theorems.lowered_do_programs.Goals as goal

pub returns : goal.returns
returns c = lowered_do_programs c.forms_scoped.ensures c.forms_do_programs.ensures

use Rattle.dae_lower_formed.proofs.Order.{forms_do_programs}
use Rattle.dae_lower_formed.proofs.theorems.forms_do_programs.Goals as goal

pub returns : goal.returns
returns c = forms_do_programs c.programs_kept.ensures c.more_turns.ensures

use Rattle.dae_lower.proofs.Whole.{form_keeps}
use Rattle.dae_lower.proofs.theorems.form_keeps.Goals as goal

pub returns : goal.returns
returns c = form_keeps

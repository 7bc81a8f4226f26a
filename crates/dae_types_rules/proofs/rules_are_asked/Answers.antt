use Rattle.dae_types_rules.proofs.Asking.{is_asked}
use Rattle.dae_types_rules.proofs.rules_are_asked.Goals as goal

pub returns : goal.returns
returns c = is_asked

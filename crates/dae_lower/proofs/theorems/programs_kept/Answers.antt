use Rattle.dae_lower.proofs.Programs.{programs_kept}
use Rattle.dae_lower.proofs.theorems.programs_kept.Goals as goal

pub returns : goal.returns
returns c = programs_kept c.lawful_keep_rules.ensures c.meaning_kept.ensures c.forms_never_stray.ensures

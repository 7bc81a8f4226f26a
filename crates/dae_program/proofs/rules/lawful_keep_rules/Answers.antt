use Rattle.dae_program.proofs.LawfulPrograms.{lawful_keep_rules}
use Rattle.dae_program.proofs.rules.lawful_keep_rules.Goals as goal

pub returns : goal.returns
returns c = lawful_keep_rules

use Rattle.dae_compile_promise.proofs.Later.{later_forms_do_programs}
use Rattle.dae_compile_promise.proofs.later_forms_do_programs.Goals as goal

pub returns : goal.returns
returns c = later_forms_do_programs c.lawful_keep_rules.ensures c.lowered_do_programs.ensures

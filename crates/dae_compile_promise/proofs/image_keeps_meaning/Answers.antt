use Rattle.dae_compile_promise.proofs.Chain.{image_keeps_meaning}
use Rattle.dae_compile_promise.proofs.image_keeps_meaning.Goals as goal

pub returns : goal.returns
returns c = image_keeps_meaning c.later_forms_do_programs.ensures c.never_strays.ensures c.order_is_a_run.ensures

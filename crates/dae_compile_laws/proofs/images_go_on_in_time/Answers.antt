use Rattle.dae_compile_laws.proofs.Going.{images_go_on_in_time}
use Rattle.dae_compile_laws.proofs.images_go_on_in_time.Goals as goal

pub returns : goal.returns
returns c = images_go_on_in_time c.forms_go_on_in_time.ensures

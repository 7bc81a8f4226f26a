use Rattle.dae_threads.proofs.Programs.{forms_are_threaded}
use Rattle.dae_threads.proofs.theorems.forms_are_threaded.Goals as goal

pub returns : goal.returns
returns c = forms_are_threaded

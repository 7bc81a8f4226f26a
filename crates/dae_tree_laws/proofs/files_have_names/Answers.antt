use Rattle.dae_tree_laws.proofs.Named.{files_have_names}
use Rattle.dae_tree_laws.proofs.files_have_names.Goals as goal

pub returns : goal.returns
returns c = files_have_names

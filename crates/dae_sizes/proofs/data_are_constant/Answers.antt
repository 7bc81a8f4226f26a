use Rattle.dae_sizes.proofs.StaticData.{data_are_constant}
use Rattle.dae_sizes.proofs.data_are_constant.Goals as goal

pub returns : goal.returns
returns c = data_are_constant c.files_are_checked.ensures

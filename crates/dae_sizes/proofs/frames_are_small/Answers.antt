use Rattle.dae_sizes.proofs.Totals.{frames_are_small}
use Rattle.dae_sizes.proofs.frames_are_small.Goals as goal

pub returns : goal.returns
returns c = frames_are_small c.definitions_are_long.ensures c.forms_are_few.ensures

use Rattle.dae_sizes.proofs.Totals.{frames_are_within}
use Rattle.dae_sizes.proofs.frames_are_within.Goals as goal

pub returns : goal.returns
returns c = frames_are_within c.definitions_are_long.ensures c.forms_are_few.ensures

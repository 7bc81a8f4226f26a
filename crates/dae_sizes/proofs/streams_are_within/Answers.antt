use Rattle.dae_sizes.proofs.Totals.{streams_are_within}
use Rattle.dae_sizes.proofs.streams_are_within.Goals as goal

pub returns : goal.returns
returns c = streams_are_within c.parts_pay.ensures c.streams_are_little.ensures

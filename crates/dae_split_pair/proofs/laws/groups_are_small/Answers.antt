use Rattle.dae_split_pair.proofs.Found.{small_groups}
use Rattle.dae_split_pair.proofs.Ordered.{pair_ordered}
use Rattle.dae_split_pair.proofs.laws.groups_are_small.Goals as goal

pub returns : goal.returns
returns c = record { ordered = pair_ordered; small = small_groups }

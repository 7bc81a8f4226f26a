use Rattle.dae_link_faithful.proofs.Exact.{pair_uses}
use Rattle.dae_link_faithful.proofs.laws.pair_uses.Goals as goal

pub returns : goal.returns
returns c = pair_uses c.budget_covers.ensures

use Rattle.dae_lower.proofs.Meaning.{meaning_kept}
use Rattle.dae_lower.proofs.theorems.meaning_kept.Goals as goal

pub returns : goal.returns
returns c = meaning_kept c.turns_in_order.ensures

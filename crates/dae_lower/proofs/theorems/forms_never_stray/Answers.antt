use Rattle.dae_lower.proofs.Straying.{forms_never_stray}
use Rattle.dae_lower.proofs.theorems.forms_never_stray.Goals as goal

pub returns : goal.returns
returns c = forms_never_stray c.named_never_stray.ensures c.more_turns.ensures

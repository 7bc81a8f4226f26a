use Rattle.dae_sizes.proofs.Forms.{streams_are_little}
use Rattle.dae_sizes.proofs.streams_are_little.Goals as goal

pub returns : goal.returns
returns c = streams_are_little c.words_are_bounded.ensures c.forms_are_little.ensures

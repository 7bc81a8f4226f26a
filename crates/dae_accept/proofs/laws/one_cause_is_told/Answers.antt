use Rattle.dae_accept.proofs.Causes.{one_cause}
use Rattle.dae_accept.proofs.laws.one_cause_is_told.Goals as goal

pub returns : goal.returns
returns c = one_cause c.texts_are_read_once.ensures.cut_once c.texts_are_read_once.ensures.parsed_once c.texts_are_read_once.ensures.cut_first

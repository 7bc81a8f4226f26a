use Rattle.dae_accept.proofs.Once.{cut_first, cut_once, parsed_once, read_alike, read_cut, read_parsed}
use Rattle.dae_accept.proofs.laws.texts_are_read_once.Goals as goal

pub returns-clause-alike : goal.returns-clause-alike
returns-clause-alike c = read_alike c.one_answer_is_due.ensures.tree

pub returns-clause-cut : goal.returns-clause-cut
returns-clause-cut c = read_cut

pub returns-clause-parsed : goal.returns-clause-parsed
returns-clause-parsed c = read_parsed c.one_answer_is_due.ensures.refused

pub returns-clause-cut_once : goal.returns-clause-cut_once
returns-clause-cut_once c = cut_once

pub returns-clause-parsed_once : goal.returns-clause-parsed_once
returns-clause-parsed_once c = parsed_once c.one_answer_is_due.ensures.refused c.one_answer_is_due.ensures.once

pub returns-clause-cut_first : goal.returns-clause-cut_first
returns-clause-cut_first c = cut_first

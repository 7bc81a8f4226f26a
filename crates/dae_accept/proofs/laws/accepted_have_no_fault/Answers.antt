use Rattle.dae_accept.proofs.Faults.{no_rule}
use Rattle.dae_accept.proofs.Joined.{no_cause}
use Rattle.dae_accept.proofs.laws.accepted_have_no_fault.Goals as goal

pub returns-clause-tokens : goal.returns-clause-tokens
returns-clause-tokens c e texts memory p h = c.texts_are_read_once.ensures.cut e texts h.files h.read

pub returns-clause-trees : goal.returns-clause-trees
returns-clause-trees c e texts memory p h = c.texts_are_read_once.ensures.parsed e texts h.files h.read

pub returns-clause-rules : goal.returns-clause-rules
returns-clause-rules c = no_rule c.texts_are_read_once.ensures.alike

pub returns-clause-joining : goal.returns-clause-joining
returns-clause-joining c = no_cause c.texts_are_read_once.ensures.alike c.outlines_tell_causes.ensures

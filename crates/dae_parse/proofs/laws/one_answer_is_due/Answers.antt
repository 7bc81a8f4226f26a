use Rattle.dae_parse.proofs.Files.{one_tree, none_refused, refused_once}
use Rattle.dae_parse.proofs.laws.one_answer_is_due.Goals as goal

pub returns-clause-tree : goal.returns-clause-tree
returns-clause-tree c = one_tree

pub returns-clause-refused : goal.returns-clause-refused
returns-clause-refused c = none_refused

pub returns-clause-once : goal.returns-clause-once
returns-clause-once c = refused_once

use Rattle.dae_link_faithful.proofs.Sided.{function_uses, start_uses}
use Rattle.dae_link_faithful.proofs.laws.code_uses.Goals as goal

pub returns-clause-code : goal.returns-clause-code
returns-clause-code c = function_uses

pub returns-clause-start : goal.returns-clause-start
returns-clause-start c = start_uses

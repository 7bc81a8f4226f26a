use Rattle.std.proofs.Common.{rules}
use Rattle.dae_parse_statements.proofs.expressions.behind_binary.Goals as goal

pub returns : goal.returns
returns c = λ e f a b s k. let h = c.in_ok-binary.ensures f e b a in search rules

use Rattle.std.proofs.Common.{rules}
use Rattle.dae_parse_statements.proofs.expressions.behind_cast.Goals as goal

pub returns : goal.returns
returns c = λ e ws d a b h s k. let g = c.in_ok-cast.ensures ws d e b h a in search rules

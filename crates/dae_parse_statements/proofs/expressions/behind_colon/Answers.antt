use Rattle.std.proofs.Common.{rules}
use Rattle.dae_parse_statements.proofs.expressions.behind_colon.Goals as goal

pub returns : goal.returns
returns c = λ e f g a b d s k. let h = c.in_ok-conditional.ensures f g e b d a in search rules

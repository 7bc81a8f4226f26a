use Rattle.std.proofs.Common.{◌∷◌, rules}
use Rattle.dae_parse_statements.proofs.expressions.in_arguments.Goals as goal

pub returns : goal.returns
returns c = λ e f es a b d s k. let g = c.in_ok-arguments.ensures es e d a in let h = c.in_ok-call.ensures f (e ∷ es) b g in search rules

use Rattle.std.proofs.Common.{rules}
use Rattle.dae_parse_statements.proofs.beginnings.read_do_end.Goals as goal

pub returns : goal.returns
returns c = λ b e h k s stands. let whole = c.in_ok-whole.ensures b e h k in search rules

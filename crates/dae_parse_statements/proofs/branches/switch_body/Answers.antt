use Rattle.std.proofs.Common.{rules}
use Rattle.dae_parse_statements.proofs.branches.switch_body.Goals as goal

pub returns : goal.returns
returns c = λ b e h k s stands. let whole = c.in_ok-whole.ensures e b k h in search rules

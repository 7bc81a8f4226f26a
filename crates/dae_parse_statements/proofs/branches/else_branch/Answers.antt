use Rattle.std.proofs.Common.{rules}
use Rattle.dae_parse_statements.proofs.branches.else_branch.Goals as goal

pub returns : goal.returns
returns c = λ b e a h k l s stands. let whole = c.in_ok-whole.ensures e a b k l h in search rules

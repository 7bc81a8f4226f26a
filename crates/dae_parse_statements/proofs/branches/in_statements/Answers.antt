use Rattle.std.proofs.Common.{rules}
use Rattle.dae_parse_statements.proofs.branches.in_statements.Goals as goal

pub returns : goal.returns
returns c = λ b i ss s h k l stands. let whole = c.in_ok-list.ensures ss b l h in search rules

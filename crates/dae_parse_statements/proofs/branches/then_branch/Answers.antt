use Rattle.std.proofs.Common.{arith}
use Rattle.std.proofs.lemmas.Grind.{common_steps}
use Rattle.dae_parse_statements.proofs.OtherwiseStatements.{branched_otherwise}
use Rattle.dae_parse_statements.proofs.branches.then_branch.Goals as goal

pub returns : goal.returns
returns c = λ b e h k s stands. let whole = c.in_ok-whole.ensures e b k h in grind (arith, common_steps, branched_otherwise)

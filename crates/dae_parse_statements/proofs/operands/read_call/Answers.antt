use Rattle.std.proofs.Common.{[], rules}
use Rattle.dae_parse_statements.proofs.operands.read_call.Goals as goal

pub returns-then-is_some : goal.returns-then-is_some
returns-then-is_some c = λ e a s k. let h = c.in_ok-whole.ensures e [] a c.no_arguments-none.ensures in search rules

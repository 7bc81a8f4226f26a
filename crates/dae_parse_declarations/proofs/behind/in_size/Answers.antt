use Rattle.std.proofs.Common.{rules}
use Rattle.dae_parse_declarations.proofs.behind.in_size.Goals as goal

pub returns : goal.returns
returns c = λ e d h k s stands. let whole = c.in_ok-whole.ensures d e k h in search rules

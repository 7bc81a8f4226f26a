use Rattle.std.proofs.Common.{rules}
use Rattle.dae_parse_declarations.proofs.behind.of_sizeof.Goals as goal

pub returns : goal.returns
returns c = λ d ws h k s stands. let whole = c.in_ok-whole.ensures ws d k h in search rules

use Rattle.std.proofs.Common.{rules}
use Rattle.dae_parse_declarations.proofs.OtherwiseDeclarations.{first_otherwise}
use Rattle.dae_parse_declarations.proofs.declarations.read_behind_first.Goals as goal

pub returns : goal.returns
returns c = λ d ws is n e a b k s m. let h = c.in_ok-items.ensures is d k a in let w = c.in_default.ensures in rw (first_otherwise d ws is s _ _ n w.1) (search rules)

use Rattle.std.proofs.Common.{rules}
use Rattle.dae_parse_declarations.proofs.OtherwiseDeclarations.{later_otherwise}
use Rattle.dae_parse_declarations.proofs.declarations.read_behind_later.Goals as goal

pub returns : goal.returns
returns c = λ outer d ws is n e a b k s m. let h = c.in_ok-items.ensures is d k a in rw (later_otherwise outer d ws is s _ _ n e) (search rules)

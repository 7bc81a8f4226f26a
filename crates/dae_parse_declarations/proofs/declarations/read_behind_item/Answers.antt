use Rattle.std.proofs.Common.{◌∷◌, rules}
use Rattle.dae_parse_declarations.proofs.declarations.read_behind_item.Goals as goal

pub returns : goal.returns
returns c = λ ws i is a b s k. let h = c.in_ok-whole.ensures ws (i ∷ is) a b in search rules

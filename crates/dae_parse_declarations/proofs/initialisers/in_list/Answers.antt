use Rattle.std.proofs.Common.{◌∷◌, rules}
use Rattle.dae_parse_declarations.proofs.initialisers.in_list.Goals as goal

pub returns : goal.returns
returns c = λ x xs a b s k. let g = c.in_ok-list.ensures xs x b a in let h = c.in_ok-whole.ensures (x ∷ xs) g in search rules

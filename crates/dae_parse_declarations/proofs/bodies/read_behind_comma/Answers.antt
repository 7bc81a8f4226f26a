use Rattle.std.proofs.Common.{◌∷◌, rules}
use Rattle.dae_parse_declarations.proofs.bodies.read_behind_comma.Goals as goal

pub returns-then-is_some : goal.returns-then-is_some
returns-then-is_some c = λ b es e h k s stands. let closed = c.in_ok-close_enumeration.ensures b (e ∷ es) h k in search rules

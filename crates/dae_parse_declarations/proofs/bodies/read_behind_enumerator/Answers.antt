use Rattle.std.proofs.Common.{◌∷◌, rules}
use Rattle.dae_parse_declarations.proofs.bodies.read_behind_enumerator.Goals as goal

pub returns-then-is_some-2 : goal.returns-then-is_some-2
returns-then-is_some-2 c = λ b es e h k s stands. let closed = c.in_ok-close_enumeration.ensures b (e ∷ es) h k in search rules

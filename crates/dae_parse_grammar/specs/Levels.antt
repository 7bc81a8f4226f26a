-- How strongly the token at the front goes on with an expression, and how weakly an expression's last operand is read.
use Rattle.std.specs.Prelude.{ℕ, List, ◌∷◌}
use Rattle.dae_tree.specs.Marks.{TokenMark, sign, part, comma}
use Rattle.dae_tree.specs.Operators.{under}
use Rattle.dae_tree.specs.Trees.{Expression, Prefix, SizeofExpression, Cast, Binary, Conditional, Assignment, Comma}
use Rattle.dae_parse_grammar.specs.Machine.{operation, reach}

abbrev pub front : List TokenMark → ℕ
front (sign g p ∷ ts) = reach (operation g)
front (part comma ∷ ts) = 16
front _ = 17

abbrev pub tail : Expression → ℕ
tail (Prefix p o a) = 3
tail (SizeofExpression p a) = 3
tail (Cast p ws d a) = 3
tail (Binary a p o b) = under o
tail (Conditional a p b c) = 14
tail (Assignment a p o b) = 15
tail (Comma a b) = 15
tail _ = 0

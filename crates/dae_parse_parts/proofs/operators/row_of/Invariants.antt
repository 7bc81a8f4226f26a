use Rattle.std.proofs.Common.{◌≡◌, drop}
use Rattle.dae_tree.specs.Operators as operators
use Rattle.dae_parse_parts.proofs.operators.row_of.Given as goal

-- the first row of the operator is behind the rows so far
abbrev pub invariant-loop-row : goal.invariant-loop-row
invariant-loop-row g l = operators.row_of g.T.PartialEq.eq (drop l.row-index l.rows) l.operator ≡ operators.row_of g.T.PartialEq.eq l.rows l.operator

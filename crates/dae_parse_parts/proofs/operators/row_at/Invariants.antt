use Rattle.std.proofs.Common.{◌≡◌, drop}
use Rattle.dae_tree.specs.Operators as operators
use Rattle.dae_parse_parts.proofs.operators.row_at.Given as goal

-- the first row of the sign is behind the rows so far
abbrev pub invariant-loop-row : goal.invariant-loop-row
invariant-loop-row g l = operators.row_at (drop l.row-index l.rows) l.sign ≡ operators.row_at l.rows l.sign

use Rattle.std.proofs.Common.{◌≡◌, drop}
use Rattle.dae_unit.specs.Linkage.{rows_from, rows_of}
use Rattle.dae_unit.proofs.rows.rows_of.Given as goal

abbrev pub invariant-loop-number : goal.invariant-loop-number
invariant-loop-number l = rows_from l.rows.items l.number (drop l.number l.files) ≡ rows_of l.files

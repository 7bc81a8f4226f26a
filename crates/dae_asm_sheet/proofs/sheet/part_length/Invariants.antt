use Rattle.std.proofs.Common.{◌≡◌, ◌+◌, ◌-◌, ◌≤◌, length}
use Rattle.dae_asm_sheet.specs.Rows.{rows_seen, part_length}
use Rattle.dae_asm_sheet.proofs.sheet.part_length.Given as goal

abbrev pub invariant-loop-rest : goal.invariant-loop-rest
invariant-loop-rest l = record {
  within : length l.rest ≤ length l.rows;
  counted : (length l.rows - length l.rest) + part_length l.part (rows_seen l.rest) ≡ part_length l.part (rows_seen l.rows);
}

abbrev pub decreases-loop-rest : goal.decreases-loop-rest
decreases-loop-rest l = length l.rest

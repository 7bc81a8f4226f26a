use Rattle.std.proofs.Common.{◌≡◌, ◌+◌, drop, length}
use Rattle.dae_asm_sheet.specs.Rows.{rows_seen, names_in}
use Rattle.dae_asm_data.proofs.names.count_names.Given as goal

abbrev pub invariant-loop-row : goal.invariant-loop-row
invariant-loop-row l = l.count + length (names_in (rows_seen (drop l.row-index l.rows))) ≡ length (names_in (rows_seen l.rows))

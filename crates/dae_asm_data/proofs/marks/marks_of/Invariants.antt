use Rattle.std.proofs.Common.{drop}
use Rattle.dae_asm_sheet.specs.Rows.{rows_seen}
use Rattle.dae_asm_data.proofs.Marking.{Marking}
use Rattle.dae_asm_data.proofs.marks.marks_of.Given as goal

abbrev pub invariant-loop-row : goal.invariant-loop-row
invariant-loop-row l = Marking l.counts (rows_seen l.rows) (rows_seen (drop l.row-index l.rows)) l.last l.marks.items

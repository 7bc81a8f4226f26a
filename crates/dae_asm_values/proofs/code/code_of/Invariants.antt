use Rattle.std.proofs.Common.{drop}
use Rattle.dae_asm_sheet.specs.Rows.{rows_seen}
use Rattle.dae_asm_labels.specs.Labels.{looks}
use Rattle.dae_asm_values.proofs.Walked.{Walk}
use Rattle.dae_asm_values.proofs.code.code_of.Given as goal

abbrev pub invariant-loop-row : goal.invariant-loop-row
invariant-loop-row l = Walk (looks l.table) (rows_seen l.rows) (rows_seen (drop l.row-index l.rows)) l.here l.code.items

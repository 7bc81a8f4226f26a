use Rattle.std.proofs.Common.{◌≡◌, drop}
use Rattle.dae_asm_sheet.specs.Rows.{rows_seen}
use Rattle.dae_asm_labels.specs.Labels.{looks, first_false, label_tests}
use Rattle.dae_asm_labels.proofs.faults.code_fault.Given as goal

abbrev pub invariant-loop-row : goal.invariant-loop-row
invariant-loop-row l = first_false (label_tests (looks l.table) (rows_seen (drop l.row-index l.rows))) ≡ first_false (label_tests (looks l.table) (rows_seen l.rows))

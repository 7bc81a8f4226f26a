use Rattle.std.proofs.Common.{◌≡◌, ◌+◌, drop}
use Rattle.dae_asm_sheet.specs.Rows.{rows_seen}
use Rattle.dae_asm_labels.specs.Labels.{words}
use Rattle.dae_asm_values.proofs.code.count_words.Given as goal

abbrev pub invariant-loop-row : goal.invariant-loop-row
invariant-loop-row l = l.count + words (rows_seen (drop l.row-index l.rows)) ≡ words (rows_seen l.rows)

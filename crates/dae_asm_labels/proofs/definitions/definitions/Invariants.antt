use Rattle.std.proofs.Common.{◌≡◌, ℕ, ◌+◌, ◌*◌, List, drop}
use Rattle.dae_asm_sheet.specs.Rows.{rows_seen}
use Rattle.dae_asm_labels.specs.Labels.{words, found, labels_from}
use Rattle.dae_asm_labels.specs.Tables.{found_or}
use Rattle.dae_asm_labels.proofs.definitions.definitions.Given as goal

abbrev pub invariant-loop-row : goal.invariant-loop-row
invariant-loop-row l = record {
  same : (name : List ℕ) → found_or name l.table l.address (rows_seen (drop l.row-index l.rows)) ≡ found name (labels_from 0 (rows_seen l.rows));
  many : l.address + 4 * words (rows_seen (drop l.row-index l.rows)) ≡ 4 * words (rows_seen l.rows);
}

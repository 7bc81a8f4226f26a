use Rattle.std.proofs.Common.{◌+◌, ◌≤◌, List, length}
use Rattle.dae_asm_order.specs.Sheets.{Row, AreItems, lines_of}
use Rattle.dae_asm_sheet.specs.Rows.{rows_seen}
use Rattle.dae_asm_sheet.proofs.Collected.{Rest}
use Rattle.dae_asm_sheet.proofs.rows.rows_of.Given as goal

abbrev pub invariant-loop-item : goal.invariant-loop-item
invariant-loop-item l = record {
  walked : (all : List Row) → AreItems 1 (lines_of l.text) all → Rest all (rows_seen l.rows.items) l.lines;
  fits : l.lines.before + length l.lines.text.now ≤ 134217728;
}

abbrev pub decreases-loop-item : goal.decreases-loop-item
decreases-loop-item l = length l.lines.text.now

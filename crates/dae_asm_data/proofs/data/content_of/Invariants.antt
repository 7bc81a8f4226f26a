use Rattle.std.proofs.Common.{drop}
use Rattle.dae_asm_sheet.specs.Rows.{rows_seen}
use Rattle.dae_asm_data.proofs.Bytes.{Filling}
use Rattle.dae_asm_data.proofs.data.content_of.Given as goal

abbrev pub invariant-loop-row : goal.invariant-loop-row
invariant-loop-row l = Filling l.memory (rows_seen l.rows) (rows_seen (drop l.row-index l.rows)) l.content.items

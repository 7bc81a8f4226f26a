use Rattle.std.proofs.Common.{drop}
use Rattle.dae_asm_sheet.specs.Rows.{rows_seen}
use Rattle.dae_asm_data.proofs.Naming.{Naming}
use Rattle.dae_asm_data.proofs.names.names_of.Given as goal

abbrev pub invariant-loop-row : goal.invariant-loop-row
invariant-loop-row l = Naming (rows_seen l.rows) (rows_seen (drop l.row-index l.rows)) l.names.items

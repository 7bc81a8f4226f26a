use Rattle.std.proofs.Common.{◌≡◌, drop}
use Rattle.dae_tree.specs.Tables.{row_of}
use Rattle.dae_tree.specs.Tables.{rows_of}
use Rattle.dae_lex_scan.proofs.tables.exact_row.Given as goal

abbrev pub invariant-loop-spelling : goal.invariant-loop-spelling
invariant-loop-spelling g l = row_of (rows_of (drop l.spelling-index l.rows)) l.name ≡ row_of (rows_of l.rows) l.name

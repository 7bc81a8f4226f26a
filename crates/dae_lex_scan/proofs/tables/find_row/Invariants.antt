use Rattle.std.proofs.Common.{◌≡◌, drop}
use Rattle.dae_tree.specs.Tables.{first_row, rows_of}
use Rattle.dae_lex_scan.proofs.tables.find_row.Given as goal

abbrev pub invariant-loop-spelling : goal.invariant-loop-spelling
invariant-loop-spelling g l = first_row (rows_of (drop l.spelling-index l.rows)) l.bytes ≡ first_row (rows_of l.rows) l.bytes

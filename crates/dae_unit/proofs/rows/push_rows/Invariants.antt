use Rattle.std.proofs.Common.{◌≡◌, drop}
use Rattle.dae_unit.specs.Linkage.{rows_of_file}
use Rattle.dae_unit.proofs.rows.push_rows.Given as goal

abbrev pub invariant-loop-declaration : goal.invariant-loop-declaration
invariant-loop-declaration l =
    rows_of_file l.rows.items l.file (drop l.declaration-index l.declarations) ≡ rows_of_file l.initial.rows.items l.file l.declarations

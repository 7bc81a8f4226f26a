use Rattle.std.proofs.Common.{◌≡◌, drop}
use Rattle.std.specs.List.{list_any}
use Rattle.dae_unit.specs.Clashes.{is_main}
use Rattle.dae_unit.proofs.clashes.has_main.Given as goal

abbrev pub invariant-loop-row : goal.invariant-loop-row
invariant-loop-row l =
    list_any (is_main l.files) (drop l.row-index l.rows) ≡ list_any (is_main l.files) l.rows

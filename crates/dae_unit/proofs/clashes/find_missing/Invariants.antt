use Rattle.std.proofs.Common.{◌≡◌, drop, find}
use Rattle.dae_unit.specs.Clashes.{is_missing}
use Rattle.dae_unit.proofs.clashes.find_missing.Given as goal

abbrev pub invariant-loop-used : goal.invariant-loop-used
invariant-loop-used l =
    find (is_missing l.files l.rows l.file) (drop l.used-index l.uses) ≡ find (is_missing l.files l.rows l.file) l.uses

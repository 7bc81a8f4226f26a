use Rattle.std.proofs.Common.{◌≡◌, drop}
use Rattle.dae_unit.specs.Clashes.{first_missing}
use Rattle.dae_unit.proofs.clashes.first_missing.Given as goal

abbrev pub invariant-loop-number : goal.invariant-loop-number
invariant-loop-number l =
    first_missing l.files l.rows l.number (drop l.number l.files) ≡ first_missing l.files l.rows 0 l.files

use Rattle.std.proofs.Common.{◌≡◌, drop}
use Rattle.dae_unit.specs.Meanings.{main_from}
use Rattle.dae_unit_join.proofs.meanings.main_of.Given as goal

abbrev pub invariant-loop-number : goal.invariant-loop-number
invariant-loop-number l =
    main_from l.files l.number (drop l.number l.bodies) ≡ main_from l.files 0 l.bodies

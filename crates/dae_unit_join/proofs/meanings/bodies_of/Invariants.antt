use Rattle.std.proofs.Common.{◌≡◌, drop}
use Rattle.dae_unit.specs.Meanings.{bodies_from, bodies_of}
use Rattle.dae_unit_join.proofs.meanings.bodies_of.Given as goal

abbrev pub invariant-loop-number : goal.invariant-loop-number
invariant-loop-number l =
    bodies_from l.bodies.items l.number (drop l.number l.files) ≡ bodies_of l.files

use Rattle.std.proofs.Common.{◌≡◌, drop}
use Rattle.dae_unit.specs.Meanings.{body_rows}
use Rattle.dae_unit_join.proofs.meanings.push_bodies.Given as goal

abbrev pub invariant-loop-function : goal.invariant-loop-function
invariant-loop-function l =
    body_rows l.bodies.items l.file (drop l.function-index l.functions) ≡ body_rows l.initial.bodies.items l.file l.functions

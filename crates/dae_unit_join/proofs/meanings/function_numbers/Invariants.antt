use Rattle.std.proofs.Common.{◌≡◌, drop, []}
use Rattle.dae_unit.specs.Meanings.{function_numbers}
use Rattle.dae_unit_join.proofs.meanings.function_numbers.Given as goal

abbrev pub invariant-loop-number : goal.invariant-loop-number
invariant-loop-number l =
    function_numbers l.files l.bodies.rows.now l.file l.numbers.items l.number (drop l.number l.routines) ≡ function_numbers l.files l.bodies.rows.now l.file [] 0 l.routines

use Rattle.std.proofs.Common.{◌≡◌, drop}
use Rattle.dae_types_typed.specs.Sound.{defined_routines, routines_in}
use Rattle.dae_types_sound.specs.Declarations.{same_numbers}
use Rattle.dae_types_sound.proofs.declarations.are_bodies_of.Given as goal

abbrev pub invariant-loop-d : goal.invariant-loop-d
invariant-loop-d l =
    same_numbers (routines_in l.rest) (defined_routines (drop l.d-index l.declarations)) ≡ same_numbers (routines_in l.functions) (defined_routines l.declarations)

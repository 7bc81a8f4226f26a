use Rattle.std.proofs.Common.{◌≡◌, drop}
use Rattle.dae_types_typed.specs.Sound.{tables_of}
use Rattle.dae_types_sound.specs.Shapes.{are_laid_out}
use Rattle.dae_types_sound.proofs.shapes.are_laid_out.Given as goal

abbrev pub invariant-loop-number : goal.invariant-loop-number
invariant-loop-number l =
    are_laid_out (tables_of l.parts) l.number (drop l.number l.parts.structures) ≡ are_laid_out (tables_of l.parts) 0 l.parts.structures

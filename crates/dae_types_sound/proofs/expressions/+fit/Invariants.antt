use Rattle.std.proofs.Common.{◌≡◌, drop}
use Rattle.dae_program.specs.Views.{view_expressions}
use Rattle.dae_types_sound.specs.Fit.{are_fit}
use Rattle.dae_types_sound.proofs.expressions.+fit.Given as goal

abbrev pub invariant-are_fit-loop-e : goal.invariant-are_fit-loop-e
invariant-are_fit-loop-e l =
    are_fit l.names l.extent (view_expressions (drop l.e-index l.xs)) ≡ are_fit l.names l.extent (view_expressions l.xs)

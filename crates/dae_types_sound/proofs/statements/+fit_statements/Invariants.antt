use Rattle.std.proofs.Common.{◌≡◌, drop}
use Rattle.dae_program.specs.Views.{view_statements, arms_of}
use Rattle.dae_types_sound.specs.Fit.{are_fit_arms, are_fit_statements}
use Rattle.dae_types_sound.proofs.statements.+fit_statements.Given as goal

abbrev pub invariant-are_fit_statements-loop-s : goal.invariant-are_fit_statements-loop-s
invariant-are_fit_statements-loop-s l =
    are_fit_statements l.names l.extent l.jumps (view_statements (drop l.s-index l.statements)) ≡ are_fit_statements l.names l.extent l.jumps (view_statements l.statements)

abbrev pub invariant-are_fit_arms-loop-arm : goal.invariant-are_fit_arms-loop-arm
invariant-are_fit_arms-loop-arm l =
    are_fit_arms l.names l.extent l.jumps (arms_of (drop l.arm-index l.arms)) ≡ are_fit_arms l.names l.extent l.jumps (arms_of l.arms)

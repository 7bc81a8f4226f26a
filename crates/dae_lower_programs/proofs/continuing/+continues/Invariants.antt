use Rattle.std.proofs.Common.{◌≡◌, drop}
use Rattle.dae_lower.specs.Lowering.{arms_continue, continues}
use Rattle.dae_program.specs.Views.{view_statements, arms_of}
use Rattle.dae_lower_programs.proofs.continuing.+continues.Given as goal

abbrev pub invariant-arms_continue-loop-arm : goal.invariant-arms_continue-loop-arm
invariant-arms_continue-loop-arm l = arms_continue (arms_of (drop l.arm-index l.arms)) ≡ arms_continue (arms_of l.arms)

abbrev pub invariant-continues-loop-s : goal.invariant-continues-loop-s
invariant-continues-loop-s l = continues (view_statements (drop l.s-index l.statements)) ≡ continues (view_statements l.statements)

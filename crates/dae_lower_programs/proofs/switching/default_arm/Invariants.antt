use Rattle.dae_lower_programs.proofs.Searching.{Undecided}
use Rattle.dae_lower_programs.proofs.switching.default_arm.Given as goal

abbrev pub invariant-loop-arm : goal.invariant-loop-arm
invariant-loop-arm l = Undecided l.arms l.arm-index l.number

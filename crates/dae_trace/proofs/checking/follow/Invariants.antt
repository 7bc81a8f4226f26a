-- The lines so far were those of a run, which led to the machine.
use Rattle.std.proofs.Common.{length}
use Rattle.dae_trace.proofs.Following.{Followed}
use Rattle.dae_trace.proofs.checking.follow.Given as goal

abbrev pub invariant-loop-rest : goal.invariant-loop-rest
invariant-loop-rest l = Followed l.initial.machine l.trace l.number l.rest l.machine

abbrev pub decreases-loop-rest : goal.decreases-loop-rest
decreases-loop-rest l = length l.rest

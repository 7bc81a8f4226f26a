-- The turns so far reached no breakpoint.
use Rattle.dae_debug.specs.Sessions.{GoesOn}
use Rattle.dae_debug.proofs.going.go_on.Given as goal

abbrev pub invariant-loop : goal.invariant-loop
invariant-loop l = GoesOn l.breaks l.initial.machine l.counter l.machine

use Rattle.dae_cli_time_job.proofs.OnTheWay.{IsOnWay}
use Rattle.dae_cli_time_job.proofs.driving.drive_ticks.Given as goal

abbrev pub invariant-loop : goal.invariant-loop
invariant-loop g l = IsOnWay l.initial.timed l.counter l.timed (g.O.Sink.seen l.initial.out) (g.O.Sink.seen l.out)

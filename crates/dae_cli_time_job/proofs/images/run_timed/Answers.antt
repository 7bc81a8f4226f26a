use Rattle.dae_cli_time_job.proofs.OnTheWay.{drives_so}
use Rattle.dae_cli_time_job.proofs.Executed.{driven_due, stopped_due}
use Rattle.dae_cli_time_job.proofs.images.run_timed.Goals as goal

pub returns-in-SinkFailed-clause-gives : goal.returns-in-SinkFailed-clause-gives
returns-in-SinkFailed-clause-gives g c =
    rw c.requires.costs at (stopped_due c.args.timed.now c.drive_ticks.new.timed c.args.options.now.ticks c.args.options.now.run.show (g.O.Sink.seen c.args.out.now) (g.O.Sink.seen c.drive_ticks.new.out) (g.N.Sink.seen c.args.note.now) c.requires.opened (rw c.in-SinkFailed.is at c.drive_ticks.ensures.drives))

pub returns-in_default-clause-gives : goal.returns-in_default-clause-gives
returns-in_default-clause-gives g c =
    let d = drives_so c.drive_ticks.result c.args.options.now.ticks c.args.timed.now c.drive_ticks.new.timed (g.O.Sink.seen c.args.out.now) (g.O.Sink.seen c.drive_ticks.new.out) c.in_default.not-SinkFailed c.drive_ticks.ensures.drives in
    rw c.requires.costs at (driven_due c.args.timed.now c.drive_ticks.new.timed c.args.options.now.ticks c.args.options.now.run.show (g.O.Sink.seen c.args.out.now) (g.O.Sink.seen c.drive_ticks.new.out) c.drive_ticks.result c.tell_times.result (g.N.Sink.seen c.args.note.now) (g.N.Sink.seen c.tell_times.new.note) d
    (rw (c.drive_ticks.ensures.setup, c.values.ensures.value) at (c.tell_times.ensures.gives (g.O.Sink.seen c.drive_ticks.new.out))))

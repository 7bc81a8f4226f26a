use Rattle.dae_cli_trace_jobs.proofs.Traced.{stopped_due, traced_due, traces_so}
use Rattle.dae_cli_trace_jobs.proofs.tracing.trace_opened.Goals as goal

pub returns-in-SinkFailed-clause-gives : goal.returns-in-SinkFailed-clause-gives
returns-in-SinkFailed-clause-gives g c =
    stopped_due c.args.machine.now.setup c.args.machine.now.state c.drive_trace.new.machine.state c.args.options.now _ _ c.requires.begun (g.N.Sink.seen c.args.note.now)
    c.requires.counted c.requires.unhalted (rw c.in-SinkFailed.is at c.drive_trace.ensures.traces)

pub returns-in_default-clause-gives : goal.returns-in_default-clause-gives
returns-in_default-clause-gives g c =
    let t = traces_so c.drive_trace.result _ _ _ _ _ _ c.in_default.not-SinkFailed c.drive_trace.ensures.traces in
    traced_due c.args.machine.now.setup c.args.machine.now.state c.drive_trace.new.machine.state c.args.options.now _ _ c.requires.begun c.drive_trace.result c.tell_end.result
    (g.N.Sink.seen c.args.note.now) (g.N.Sink.seen c.tell_end.new.note) t (rw c.drive_trace.ensures.setup at (c.tell_end.ensures.gives (g.O.Sink.seen c.drive_trace.new.out)))

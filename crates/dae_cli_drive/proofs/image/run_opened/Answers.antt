use Rattle.dae_cli_drive.proofs.OnTheWay.{drives_so}
use Rattle.dae_cli_drive.proofs.Executed.{driven_due, stopped_due}
use Rattle.dae_cli_drive.proofs.image.run_opened.Goals as goal

pub returns-in-SinkFailed-clause-gives : goal.returns-in-SinkFailed-clause-gives
returns-in-SinkFailed-clause-gives g c =
    stopped_due c.args.machine.now.setup c.args.machine.now.state c.drive.new.machine.state c.args.options.now _ _ _ _ c.requires.begun (rw c.values-values.ensures.value at c.of-words.ensures) (g.N.Sink.seen c.args.note.now) c.requires.counted c.requires.unhalted (rw c.in-SinkFailed.is at c.drive.ensures.drives)

pub returns-in_default-clause-gives : goal.returns-in_default-clause-gives
returns-in_default-clause-gives g c =
    let d = drives_so c.drive.result _ _ _ _ _ _ _ _ c.in_default.not-SinkFailed c.drive.ensures.drives in
    driven_due c.args.machine.now.setup c.args.machine.now.state c.drive.new.machine.state c.args.options.now _ _ _ _ c.requires.begun (rw c.values-values.ensures.value at c.of-words.ensures) c.drive.result c.tell_end.result (g.N.Sink.seen c.args.note.now) (g.N.Sink.seen c.tell_end.new.note) d (rw (c.drive.ensures.setup, c.values-values.ensures.value) at (c.tell_end.ensures.gives (g.O.Sink.seen c.drive.new.out)))

use Rattle.std.proofs.Common.{List, ◌++◌}
use Rattle.dae_io.specs.Sinks.{SinkState}
use Rattle.dae_cli_drive.specs.Notes.{end_puts}
use Rattle.dae_cli_drive.specs.Puts.{AreNoted, AreNotedInPart, Put}
use Rattle.dae_cli_drive.proofs.Laws.{on_err}
use Rattle.dae_cli_time_job.specs.Lines.{time_puts}
use Rattle.dae_cli_time_job.proofs.Noted.{noted_in_part, noted_no_more, noted_then, on_err_then, on_ok_then}
use Rattle.dae_cli_time_job.proofs.images.note_times.Goals as goal

pub returns-in_err-note_end-clause-cut : goal.returns-in_err-note_end-clause-cut
returns-in_err-note_end-clause-cut g c =
    let h = c.args.timed.now in
    let n : SinkState = g.N.Sink.seen c.args.note.now in
    let m : SinkState = g.N.Sink.seen c.note_end.new.note in
    let ends : List Put = end_puts c.args.driven h.setup (let k = h.clock in k.state) c.args.show in
    on_err c.from_residual.result (AreNotedInPart (ends ++ time_puts h.clock) n m) (noted_no_more ends (time_puts h.clock) n m (rw (c.machine.ensures.setup, c.machine.ensures.state) at c.in_err-note_end.ensures.cut))

pub returns-clause-made : goal.returns-clause-made
returns-clause-made g c =
    let h = c.args.timed.now in
    let n : SinkState = g.N.Sink.seen c.args.note.now in
    let m : SinkState = g.N.Sink.seen c.note_end.new.note in
    let o : SinkState = g.N.Sink.seen c.note_clock.new.note in
    let ends : List Put = end_puts c.args.driven h.setup (let k = h.clock in k.state) c.args.show in
    on_ok_then c.note_clock.result (AreNoted (time_puts h.clock) m o) (AreNoted (ends ++ time_puts h.clock) n o) (noted_then ends (time_puts h.clock) n m o (rw (c.machine.ensures.setup, c.machine.ensures.state) at c.in_ok-note_end.ensures.made)) c.note_clock.ensures.made

pub returns-clause-cut : goal.returns-clause-cut
returns-clause-cut g c =
    let h = c.args.timed.now in
    let n : SinkState = g.N.Sink.seen c.args.note.now in
    let m : SinkState = g.N.Sink.seen c.note_end.new.note in
    let o : SinkState = g.N.Sink.seen c.note_clock.new.note in
    let ends : List Put = end_puts c.args.driven h.setup (let k = h.clock in k.state) c.args.show in
    on_err_then c.note_clock.result (AreNotedInPart (time_puts h.clock) m o) (AreNotedInPart (ends ++ time_puts h.clock) n o) (noted_in_part ends (time_puts h.clock) n m o (rw (c.machine.ensures.setup, c.machine.ensures.state) at c.in_ok-note_end.ensures.made)) c.note_clock.ensures.cut

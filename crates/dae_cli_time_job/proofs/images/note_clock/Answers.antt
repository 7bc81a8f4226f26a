use Rattle.std.proofs.Common.{rules, ◌≡◌, ◌∙◌, List, ℕ, subst}
use Rattle.dae_io.specs.Sinks.{SinkState, IsPut, IsPutFailed}
use Rattle.dae_base.specs.declared.Side.TheVariants.{A, E}
use Rattle.dae_cli_drive.specs.Puts.{AreNotedInPart}
use Rattle.dae_cli_drive.proofs.Laws.{on_err}
use Rattle.dae_cli_time_job.specs.Lines.{ticks_line, time_puts, waits_line}
use Rattle.dae_cli_time_job.proofs.Noted.{all_noted, first_failed, second_failed, third_failed}
use Rattle.dae_cli_time_job.proofs.images.note_clock.Goals as goal

pub returns-in_err-put-clause-cut : goal.returns-in_err-put-clause-cut
returns-in_err-put-clause-cut g c =
    let k = c.args.timed.now.clock in
    let n : SinkState = g.N.Sink.seen c.args.note.now in
    let m : SinkState = g.N.Sink.seen c.put.new.self in
    let f : IsPutFailed (ticks_line k.ticks) n m = search rules in
    on_err c.from_residual.result (AreNotedInPart (time_puts k) n m) (first_failed (ticks_line k.ticks) (waits_line A k.waits_a) (waits_line E k.waits_e) n m m m f)

pub returns-in_err-put-2-clause-cut : goal.returns-in_err-put-2-clause-cut
returns-in_err-put-2-clause-cut g c =
    let k = c.args.timed.now.clock in
    let n : SinkState = g.N.Sink.seen c.args.note.now in
    let m : SinkState = g.N.Sink.seen c.put.new.self in
    let o : SinkState = g.N.Sink.seen c.put-2.new.self in
    let a : IsPut (ticks_line k.ticks) n m = search rules in
    let f : IsPutFailed (waits_line A k.waits_a) m o = search rules in
    on_err c.from_residual-in_err-put-2.result (AreNotedInPart (time_puts k) n o) (second_failed (ticks_line k.ticks) (waits_line A k.waits_a) (waits_line E k.waits_e) n m o o a f)

pub returns-in_err-put-3-clause-cut : goal.returns-in_err-put-3-clause-cut
returns-in_err-put-3-clause-cut g c =
    let k = c.args.timed.now.clock in
    let n : SinkState = g.N.Sink.seen c.args.note.now in
    let m : SinkState = g.N.Sink.seen c.put.new.self in
    let o : SinkState = g.N.Sink.seen c.put-2.new.self in
    let p : SinkState = g.N.Sink.seen c.put-3.new.self in
    let line_a : c.as_slice-2.result.now ≡ waits_line A k.waits_a = c.as_slice-2.ensures ∙ c.waits_line.ensures in
    let line_e : c.as_slice-3.result.now ≡ waits_line E k.waits_e = c.as_slice-3.ensures ∙ c.waits_line-2.ensures in
    let a : IsPut (ticks_line k.ticks) n m = search rules in
    let b : IsPut (waits_line A k.waits_a) m o = subst (λ (l : List ℕ). IsPut l m o) line_a c.in_ok-put-2.ensures.whole in
    let f : IsPutFailed (waits_line E k.waits_e) o p = subst (λ (l : List ℕ). IsPutFailed l o p) line_e c.in_err-put-3.ensures.part in
    on_err c.from_residual-in_err-put-3.result (AreNotedInPart (time_puts k) n p) (third_failed (ticks_line k.ticks) (waits_line A k.waits_a) (waits_line E k.waits_e) n m o p a b f)

pub returns-clause-made : goal.returns-clause-made
returns-clause-made g c =
    let k = c.args.timed.now.clock in
    let n : SinkState = g.N.Sink.seen c.args.note.now in
    let m : SinkState = g.N.Sink.seen c.put.new.self in
    let o : SinkState = g.N.Sink.seen c.put-2.new.self in
    let p : SinkState = g.N.Sink.seen c.put-3.new.self in
    let line_a : c.as_slice-2.result.now ≡ waits_line A k.waits_a = c.as_slice-2.ensures ∙ c.waits_line.ensures in
    let line_e : c.as_slice-3.result.now ≡ waits_line E k.waits_e = c.as_slice-3.ensures ∙ c.waits_line-2.ensures in
    let a : IsPut (ticks_line k.ticks) n m = search rules in
    let b : IsPut (waits_line A k.waits_a) m o = subst (λ (l : List ℕ). IsPut l m o) line_a c.in_ok-put-2.ensures.whole in
    let d : IsPut (waits_line E k.waits_e) o p = subst (λ (l : List ℕ). IsPut l o p) line_e c.in_ok-put-3.ensures.whole in
    all_noted (ticks_line k.ticks) (waits_line A k.waits_a) (waits_line E k.waits_e) n m o p a b d

use Rattle.dae_cli_options.proofs.Laws.{can_hold}
use Rattle.dae_cli_drive.specs.Images.{due_opened, due_not_opened}
use Rattle.dae_cli_drive.proofs.Laws.{gives_budgeted, gives_unbudgeted, some_opened}
use Rattle.dae_cli_debug_job.specs.Debugging.{DueOfScript, due_script}
use Rattle.dae_cli_debug_job.proofs.job.debug_image.Goals as goal

pub open_session-requires : goal.open_session-requires
open_session-requires g c = can_hold c.depths.ensures.in_range

pub serve_opened-requires : goal.serve_opened-requires
serve_opened-requires g c = record { opened = (c.args.image, c.depths.result, c.in-Ok-open_session.ensures.session) }

pub returns-in-Err-clause-gives : goal.returns-in-Err-clause-gives
returns-in-Err-clause-gives g c =
    gives_unbudgeted (g.O.Sink.seen c.args.out.now) (g.N.Sink.seen c.args.note.now) (g.N.Sink.seen c.put_budget.new.note)
    (some_opened c.args.image c.args.depths.now (DueOfScript c.args.image c.args.depths.now c.args.script.now))
    c.in-Err.ensures.err

pub returns-in-Ok-open_session-clause-gives : goal.returns-in-Ok-open_session-clause-gives
returns-in-Ok-open_session-clause-gives g c =
    let r = c.serve_opened.ensures.gives in
    gives_budgeted (g.O.Sink.seen c.args.out.now) (g.O.Sink.seen c.serve_opened.new.out) (g.N.Sink.seen c.args.note.now) (g.N.Sink.seen c.put_budget.new.note) (g.N.Sink.seen c.serve_opened.new.note) c.in-Ok.ensures.ok (
      r.0,
      due_opened (rw c.depths.ensures.value at c.in-Ok-open_session.ensures.reaches)
          (due_script c.in-Ok-open_session.opened.commands.items c.in-Ok-open_session.ensures.commands (rw (c.in-Ok-open_session.ensures.session, c.depths.ensures.value) at r.1)),
      r.2,
    )

pub returns-clause-gives : goal.returns-clause-gives
returns-clause-gives g c =
    let t = c.tell_refusal.ensures c.args.image c.args.depths.now (rw c.depths.ensures.value at c.in-Err-open_session.ensures.err) (g.O.Sink.seen c.args.out.now) in
    gives_budgeted (g.O.Sink.seen c.args.out.now) (g.O.Sink.seen c.args.out.now) (g.N.Sink.seen c.args.note.now) (g.N.Sink.seen c.put_budget.new.note) (g.N.Sink.seen c.tell_refusal.new.note) c.in-Ok.ensures.ok
    (t.0, due_not_opened t.1, t.2)

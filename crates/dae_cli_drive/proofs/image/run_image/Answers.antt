use Rattle.dae_machine.specs.Opened.{opened, setup_of}
use Rattle.dae_cli_options.proofs.Laws.{can_hold}
use Rattle.dae_cli_drive.specs.Images.{DueOfRun, due_opened, due_not_opened}
use Rattle.dae_cli_drive.proofs.Budgeted.{gives_budgeted, gives_unbudgeted, some_opened}
use Rattle.dae_cli_drive.proofs.image.run_image.Goals as goal

pub open-requires : goal.open-requires
open-requires g c = can_hold c.values.ensures.in_range.depths

pub returns-in-Err-clause-gives : goal.returns-in-Err-clause-gives
returns-in-Err-clause-gives g c =
    gives_unbudgeted (g.O.Sink.seen c.args.out.now) (g.N.Sink.seen c.args.note.now) (g.N.Sink.seen c.put_budget.new.note)
    (some_opened c.args.image.now c.args.options.now.depths (DueOfRun (setup_of c.args.image.now c.args.options.now.depths) (opened c.args.image.now) c.args.options.now))
    c.in-Err.ensures.err

pub returns-in-Ok-open-clause-gives : goal.returns-in-Ok-open-clause-gives
returns-in-Ok-open-clause-gives g c =
    let r = c.run_opened.ensures.gives in
    gives_budgeted (g.O.Sink.seen c.args.out.now) (g.O.Sink.seen c.run_opened.new.out) (g.N.Sink.seen c.args.note.now) (g.N.Sink.seen c.put_budget.new.note) (g.N.Sink.seen c.run_opened.new.note) c.in-Ok.ensures.ok
    (r.0, due_opened (rw c.values.ensures.value at c.in-Ok-open.ensures.reaches) (rw (c.in-Ok-open.ensures.setup, c.in-Ok-open.ensures.state, c.values.ensures.value) at r.1), r.2)

pub returns-clause-gives : goal.returns-clause-gives
returns-clause-gives g c =
    let t = c.tell_refusal.ensures c.args.image.now c.args.options.now.depths (rw c.values.ensures.value at c.in-Err-open.ensures.err) (g.O.Sink.seen c.args.out.now) in
    gives_budgeted (g.O.Sink.seen c.args.out.now) (g.O.Sink.seen c.args.out.now) (g.N.Sink.seen c.args.note.now) (g.N.Sink.seen c.put_budget.new.note) (g.N.Sink.seen c.tell_refusal.new.note) c.in-Ok.ensures.ok
    (t.0, due_not_opened t.1, t.2)

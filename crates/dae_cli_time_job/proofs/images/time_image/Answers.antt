use Rattle.dae_machine.specs.Opened.{opened, setup_of}
use Rattle.dae_cli_options.proofs.Laws.{can_hold}
use Rattle.dae_cli_drive.specs.Images.{due_opened, due_not_opened}
use Rattle.dae_cli_drive.proofs.Laws.{gives_budgeted, gives_unbudgeted, some_opened}
use Rattle.dae_timing.specs.Clocks.{first_clock}
use Rattle.dae_cli_time_job.specs.Due.{DueOfTicks}
use Rattle.dae_cli_time_job.proofs.images.time_image.Goals as goal

pub open-requires : goal.open-requires
open-requires g c = can_hold c.values.ensures.in_range.depths

pub run_timed-requires : goal.run_timed-requires
run_timed-requires g c = record {
  costs = c.in-Ok-open.ensures.costs;
  opened = (c.args.image.now, c.in-Ok-open.ensures.clock);
  few = (let r = c.args.options.now.in_range in r.most_is);
}

pub returns-in-Err-clause-gives : goal.returns-in-Err-clause-gives
returns-in-Err-clause-gives g c =
    gives_unbudgeted (g.O.Sink.seen c.args.out.now) (g.N.Sink.seen c.args.note.now) (g.N.Sink.seen c.put_budget.new.note)
    (some_opened c.args.image.now c.args.options.now.run.depths (DueOfTicks (setup_of c.args.image.now c.args.options.now.run.depths) c.args.options.now.costs (first_clock (opened c.args.image.now)) c.args.options.now.ticks c.args.options.now.run.show))
    c.in-Err.ensures.err

pub returns-in-Ok-open-clause-gives : goal.returns-in-Ok-open-clause-gives
returns-in-Ok-open-clause-gives g c =
    let r = c.run_timed.ensures.gives in
    gives_budgeted (g.O.Sink.seen c.args.out.now) (g.O.Sink.seen c.run_timed.new.out) (g.N.Sink.seen c.args.note.now) (g.N.Sink.seen c.put_budget.new.note) (g.N.Sink.seen c.run_timed.new.note) c.in-Ok.ensures.ok
    (r.0, due_opened (rw c.values.ensures.value at c.in-Ok-open.ensures.reaches) (rw (c.in-Ok-open.ensures.setup, c.in-Ok-open.ensures.clock, c.values.ensures.value) at r.1), r.2)

pub returns-clause-gives : goal.returns-clause-gives
returns-clause-gives g c =
    let t = c.tell_refusal.ensures c.args.image.now c.args.options.now.run.depths (rw c.values.ensures.value at c.in-Err-open.ensures.err) (g.O.Sink.seen c.args.out.now) in
    gives_budgeted (g.O.Sink.seen c.args.out.now) (g.O.Sink.seen c.args.out.now) (g.N.Sink.seen c.args.note.now) (g.N.Sink.seen c.put_budget.new.note) (g.N.Sink.seen c.tell_refusal.new.note) c.in-Ok.ensures.ok
    (t.0, due_not_opened t.1, t.2)

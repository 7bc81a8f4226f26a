use Rattle.dae_cli_debug_job.proofs.Served.{not_failed, served_due, stopped_due}
use Rattle.dae_cli_debug_job.proofs.job.serve_opened.Goals as goal

pub tell_end-requires : goal.tell_end-requires
tell_end-requires g c = let s = c.in-Ok.ensures.whole in record { whole = not_failed c.in-Ok.driven c.serve.new.session s.stands }

pub returns-in-Ok-clause-gives : goal.returns-in-Ok-clause-gives
returns-in-Ok-clause-gives g c =
    served_due c.args.opened.now.session c.serve.new.session c.args.opened.now.commands.items c.machine.result.now c.in-Ok.driven c.tell_end.result
    (g.O.Sink.seen c.args.out.now) (g.O.Sink.seen c.serve.new.out) (g.N.Sink.seen c.args.note.now) (g.N.Sink.seen c.tell_end.new.note) c.machine.ensures
    (rw c.as_slice.ensures.value at c.in-Ok.ensures.whole) (c.tell_end.ensures.gives (g.O.Sink.seen c.serve.new.out))

pub returns-in-Err-clause-gives : goal.returns-in-Err-clause-gives
returns-in-Err-clause-gives g c =
    stopped_due c.args.opened.now.session c.args.opened.now.commands.items (g.O.Sink.seen c.args.out.now) (g.O.Sink.seen c.serve.new.out) (g.N.Sink.seen c.args.note.now)
    (rw c.as_slice.ensures.value at c.in-Err.ensures.part)

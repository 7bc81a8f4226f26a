use Rattle.dae_cli_drive.specs.Puts.{stop_answer}
use Rattle.dae_cli_source_jobs.specs.Reporting.{due_compiled, due_not_compiled}
use Rattle.dae_cli_source_jobs.proofs.reporting.report.Goals as goal

pub returns-in-Ok-clause-gives : goal.returns-in-Ok-clause-gives
returns-in-Ok-clause-gives g c =
    let r = c.put_report.ensures.gives in
    (r.0, due_compiled c.in-Ok.compiled c.in-Ok.ensures.ok r.1, r.2)

pub returns-in-Err-clause-gives : goal.returns-in-Err-clause-gives
returns-in-Err-clause-gives g c = (stop_answer c.in-Err.stop, due_not_compiled c.in-Err.ensures.err, c.tell.ensures (g.O.Sink.seen c.args.out.now))

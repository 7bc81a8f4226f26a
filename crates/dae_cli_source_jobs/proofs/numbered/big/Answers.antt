use Rattle.dae_cli_drive.specs.Puts.{stop_answer}
use Rattle.dae_cli_source_jobs.proofs.Laws.{texts_with, texts_without}
use Rattle.dae_cli_source_jobs.proofs.numbered.big.Goals as goal

pub returns-in-Ok-clause-gives : goal.returns-in-Ok-clause-gives
returns-in-Ok-clause-gives g c =
    let r = c.run_image.ensures.gives in
    (r.0, texts_with c.in-Ok.ensures.ok r.1, r.2)

pub returns-in-Err-clause-gives : goal.returns-in-Err-clause-gives
returns-in-Err-clause-gives g c = (stop_answer c.in-Err.stop, texts_without c.in-Err.ensures.err, c.tell.ensures (g.O.Sink.seen c.args.out.now))

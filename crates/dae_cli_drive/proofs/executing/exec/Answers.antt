use Rattle.dae_cli_drive.specs.Puts.{stop_answer}
use Rattle.dae_cli_drive.proofs.LawsOfFiles.{due_of_no_image, due_of_image}
use Rattle.dae_cli_drive.proofs.executing.exec.Goals as goal

pub returns-in-Ok-clause-gives : goal.returns-in-Ok-clause-gives
returns-in-Ok-clause-gives g c =
    let r = c.run_image.ensures.gives in
    (r.0, due_of_image c.in-Ok.ensures.ok r.1, r.2)

pub returns-in-Err-clause-gives : goal.returns-in-Err-clause-gives
returns-in-Err-clause-gives g c = (
  stop_answer c.in-Err.stop,
  due_of_no_image c.in-Err.ensures.err,
  c.tell.ensures (g.O.Sink.seen c.args.out.now),
)

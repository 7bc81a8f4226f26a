use Rattle.dae_cli_drive.specs.Puts.{stop_answer}
use Rattle.dae_cli_drive.proofs.LawsOfFiles.{due_of_both, due_of_not_both}
use Rattle.dae_cli_trace_jobs.proofs.checking.check.Goals as goal

pub returns-in-Ok-clause-gives : goal.returns-in-Ok-clause-gives
returns-in-Ok-clause-gives g c = λ out.
    let r = c.check_text.ensures out in
    (r.0, due_of_both c.in-Ok.ensures.ok (rw c.as_slice.ensures.value at r.1), r.2)

pub returns-in-Err-clause-gives : goal.returns-in-Err-clause-gives
returns-in-Err-clause-gives g c = λ out. (stop_answer c.in-Err.stop, due_of_not_both c.in-Err.ensures.err, c.tell.ensures out)

use Rattle.std.proofs.lemmas.Result.{IfErr-weaker, err_from_is_err_and}
use Rattle.dae_cli_drive.proofs.LawsOfFiles.{due_of_no_text, due_of_text}
use Rattle.dae_cli_asm_job.proofs.assembling.image_of_file.Goals as goal

pub returns-in_err-text-clause-err : goal.returns-in_err-text-clause-err
returns-in_err-text-clause-err g c =
    let p = err_from_is_err_and c.from_residual.result c.from_residual.ensures.1 in
    rw (p.1, p.2) (due_of_no_text c.in_err-text.ensures.err)

pub returns-clause-err : goal.returns-clause-err
returns-clause-err g c = IfErr-weaker c.image_of_text.result _ _ (λ stop h. due_of_text c.in_ok-text.ensures.ok (rw c.as_slice.ensures.value at h)) c.image_of_text.ensures.err

use Rattle.std.proofs.lemmas.Result.{IfErr-weaker, IfOk-weaker, err_from_is_err_and}
use Rattle.dae_cli_drive.proofs.Contents.{file_is_image, file_no_image, file_not_got}
use Rattle.dae_cli_drive.proofs.Longest.{front_of}
use Rattle.dae_cli_drive.proofs.images.image_of_file.Goals as goal

pub returns-in_err-bytes-clause-err : goal.returns-in_err-bytes-clause-err
returns-in_err-bytes-clause-err g c =
    let p = err_from_is_err_and c.from_residual.result c.from_residual.ensures.1 in
    rw (p.1, p.2) (file_not_got c.in_err-bytes.ensures.err)

pub returns-clause-ok : goal.returns-clause-ok
returns-clause-ok g c = IfOk-weaker c.image_of.result _ _ (λ image h. file_is_image image (front_of _ _ c.in_ok-bytes.ensures.bytes c.in_ok-bytes.ensures.short) (rw c.as_slice.ensures.value at h)) c.image_of.ensures.ok

pub returns-clause-err : goal.returns-clause-err
returns-clause-err g c = IfErr-weaker c.image_of.result _ _ (λ stop h. file_no_image (front_of _ _ c.in_ok-bytes.ensures.bytes c.in_ok-bytes.ensures.short) (rw c.as_slice.ensures.value at h)) c.image_of.ensures.err

use Rattle.std.proofs.lemmas.Result.{err_from_is_err_and}
use Rattle.dae_cli_drive.proofs.Contents.{file_is_image, first_no_image, first_not_got, second_not_got}
use Rattle.dae_cli_drive.proofs.Longest.{front_of}
use Rattle.dae_cli_drive.proofs.Seen.{nothing_kept, text_before, text_is_before}
use Rattle.dae_cli_drive.proofs.both.image_and_text.Goals as goal

pub returns-in_err-bytes-clause-err : goal.returns-in_err-bytes-clause-err
returns-in_err-bytes-clause-err g c =
    let p = err_from_is_err_and c.from_residual.result c.from_residual.ensures.1 in
    rw (p.1, p.2) (first_not_got c.in_err-bytes.ensures.err)

pub returns-in_err-text-clause-err : goal.returns-in_err-text-clause-err
returns-in_err-text-clause-err g c =
    let p = err_from_is_err_and c.from_residual-in_err-text.result c.from_residual-in_err-text.ensures.1 in
    let front = front_of _ _ c.in_ok-bytes.ensures.bytes c.in_ok-bytes.ensures.short in
    rw (p.1, p.2) (second_not_got front (text_before _ _ _ _ _ _ _ _ _ _ _ _ c.in_ok-bytes.ensures.held c.in_ok-bytes.ensures.counted _ _ _ c.in_err-text.ensures.err))

pub returns-in_err-text-clause-kept : goal.returns-in_err-text-clause-kept
returns-in_err-text-clause-kept g c = nothing_kept c.in_ok-bytes.ensures.held c.in_ok-bytes.ensures.given c.in_err-text.ensures.kept.told c.in_err-text.ensures.kept.given

pub returns-in_err-image-clause-err : goal.returns-in_err-image-clause-err
returns-in_err-image-clause-err g c =
    let p = err_from_is_err_and c.from_residual-in_err-image.result c.from_residual-in_err-image.ensures.1 in
    let front = front_of _ _ c.in_ok-bytes.ensures.bytes c.in_ok-bytes.ensures.short in
    rw (p.1, p.2) (first_no_image front (text_is_before c.in_ok-bytes.ensures.held c.in_ok-text.ensures.ok) (rw c.as_slice.ensures.value at c.in_err-image.ensures.err))

pub returns-in_err-image-clause-kept : goal.returns-in_err-image-clause-kept
returns-in_err-image-clause-kept g c = nothing_kept c.in_ok-bytes.ensures.held c.in_ok-bytes.ensures.given c.in_ok-text.ensures.kept.told c.in_ok-text.ensures.kept.given

pub returns-clause-ok : goal.returns-clause-ok
returns-clause-ok g c =
    let front = front_of _ _ c.in_ok-bytes.ensures.bytes c.in_ok-bytes.ensures.short in
    record {
      image_is = file_is_image c.in_ok-image.image front (rw c.as_slice.ensures.value at c.in_ok-image.ensures.ok);
      text_is = text_is_before c.in_ok-bytes.ensures.held c.in_ok-text.ensures.ok;
    }

pub returns-clause-kept : goal.returns-clause-kept
returns-clause-kept g c = nothing_kept c.in_ok-bytes.ensures.held c.in_ok-bytes.ensures.given c.in_ok-text.ensures.kept.told c.in_ok-text.ensures.kept.given

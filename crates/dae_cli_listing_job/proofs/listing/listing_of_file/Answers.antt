use Rattle.std.proofs.lemmas.Result.{err_from_is_err_and}
use Rattle.dae_cli_drive.proofs.LawsOfFiles.{due_of_no_bytes, due_of_no_text, due_of_text}
use Rattle.dae_cli_drive.specs.ImageFiles.{due_image}
use Rattle.dae_cli_listing_job.specs.Listings.{due_listing, due_memory_to_list}
use Rattle.dae_cli_listing_job.proofs.listing.listing_of_file.Goals as goal

pub returns-in_err-bytes-clause-err : goal.returns-in_err-bytes-clause-err
returns-in_err-bytes-clause-err g c =
    let p = err_from_is_err_and c.from_residual.result c.from_residual.ensures.1 in
    rw (p.1, p.2) (due_of_no_text c.in_err-bytes.ensures.err)

pub returns-in_err-image-clause-err : goal.returns-in_err-image-clause-err
returns-in_err-image-clause-err g c =
    let p = err_from_is_err_and c.from_residual-in_err-image.result c.from_residual-in_err-image.ensures.1 in
    rw (p.1, p.2) (due_of_text c.in_ok-bytes.ensures.ok (due_of_no_bytes (rw c.as_slice.ensures.value at c.in_err-image.ensures.err)))

pub returns-in-Ok-clause-ok : goal.returns-in-Ok-clause-ok
returns-in-Ok-clause-ok g c = due_of_text c.in_ok-bytes.ensures.ok (due_image c.in_ok-image.image (rw c.as_slice.ensures.value at c.in_ok-image.ensures.ok) (rw c.in-Ok.ensures due_listing))

pub returns-clause-err : goal.returns-clause-err
returns-clause-err g c = due_of_text c.in_ok-bytes.ensures.ok (due_image c.in_ok-image.image (rw c.as_slice.ensures.value at c.in_ok-image.ensures.ok) due_memory_to_list)

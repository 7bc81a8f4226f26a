-- What other crates may use of what is due for a listing.
use Rattle.std.proofs.Common.{refl}
use Rattle.dae_image.specs.declared.Image.{Image}
use Rattle.dae_cli_drive.specs.Images.{IsSingle}
use Rattle.dae_cli_listing_job.specs.Listings.{DueOfListing, due_listing, due_memory_to_list}

-- for a listing at most one answer is due
pub single_listing : (image : Image) → IsSingle (DueOfListing image)
single_listing image a b due_listing due_listing n m = refl
single_listing image a b due_listing due_memory_to_list n m = absurd (m refl)
single_listing image a b due_memory_to_list d n m = absurd (n refl)

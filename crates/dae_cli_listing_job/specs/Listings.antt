-- What is due for an image that is to be listed, and for its file, which has a limit.
use Rattle.std.specs.Prelude.{ℕ, List, [], ◌∷◌, codes}
use Rattle.dae_image.specs.declared.Image.{Image}
use Rattle.dae_image.specs.Images.{contents}
use Rattle.dae_listing.specs.Canon.{canon}
use Rattle.dae_cli_drive.specs.Lines.{memory_line}
use Rattle.dae_cli_drive.specs.Puts.{Answer, Out, answer, told}
use Rattle.dae_cli_drive.specs.ImageFiles.{DueOfBytes}
use Rattle.dae_cli_drive.specs.Shelves.{ShelfSeen}
use Rattle.dae_cli_drive.specs.TextFiles.{DueOfTextFile}

-- so many bytes may the file of an image have that is listed
abbrev pub most_listed : ℕ
most_listed = 16777216

abbrev pub long_image_line : List ℕ
long_image_line = codes "refused image-too-long\n"

-- what is due for the file of an image with this limit: it isn't got; or it is longer, whether or not it is an image; or what is
-- due for its bytes
abbrev pub DueOfShortImageFile : (name : List ℕ) → ShelfSeen → (Image → Answer → Type 0) → Answer
    → Type 0
DueOfShortImageFile name s DueOf =
    DueOfTextFile name most_listed long_image_line s (λ bytes. DueOfBytes bytes DueOf)

-- what is due for an image that is listed: its listing on out, whole in one put; or memory was wanting
pub data DueOfListing (image : Image) : Answer → Type 0 where
  due_listing : DueOfListing image (answer 0 (Out (canon (contents image)) ∷ []))
  due_memory_to_list : DueOfListing image (told 7 memory_line)

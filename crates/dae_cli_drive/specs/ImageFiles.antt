-- What is due for the bytes of an image's file, and for the file, by what is due for the image.
use Rattle.std.specs.Prelude.{◌≡◌, ◌≢◌, ℕ, List, take, Option, Ok, Err}
use Rattle.dae_image.specs.declared.Image.{Image}
use Rattle.dae_image.specs.declared.fault.ImageError.{ImageError}
use Rattle.dae_image.specs.declared.fault.ImageError.TheVariants as errors
use Rattle.dae_image.specs.Images.{contents}
use Rattle.dae_image.specs.Reading.{image_at}
use Rattle.dae_image.specs.Spelling as image
use Rattle.dae_cli_drive.specs.Lines.{memory_line, read_line}
use Rattle.dae_cli_drive.specs.Notes.{image_line}
use Rattle.dae_cli_drive.specs.Puts.{Answer, told}
use Rattle.dae_cli_drive.specs.Shelves.{FailsToFetch, IsTold, ShelfSeen}

-- so many bytes of an image's file are read, which is more than any image has
abbrev pub most_bytes : ℕ
most_bytes = 536870912

-- the bytes spell the image, which is read
pub record IsImageIn (bytes : List ℕ) (i : Image) : Type 0 where
  pub spells : image.Spells bytes (contents i)
  pub read : image_at (take most_bytes bytes) ≡ Ok (contents i)

-- no image is spelled by the bytes, and this is the first fault
pub record IsNoImage (bytes : List ℕ) (e : ImageError) : Type 0 where
  pub other : e ≢ errors.Memory
  pub read : image_at (take most_bytes bytes) ≡ Err e
  pub none : (i : Image) → ¬ (image.Spells bytes (contents i))

-- what is due for the bytes of an image's file: for the image that they spell; or they spell none, and the first fault is told;
-- or memory was wanting
pub data DueOfBytes (bytes : List ℕ) (DueOf : Image → Answer → Type 0) : Answer → Type 0 where
  due_image : {a : Answer} (i : Image) → IsImageIn bytes i → DueOf i a → DueOfBytes bytes DueOf a
  due_no_image : (e : ImageError) → IsNoImage bytes e → DueOfBytes bytes DueOf (told 8 (image_line e))
  due_memory_to_decode : DueOfBytes bytes DueOf (told 7 memory_line)

-- what is due for an image's file: for the bytes that the shelf tells of its name; for its fetch, where that failed; or memory
-- was wanting
pub data DueOfImageFile (name : List ℕ) (s : ShelfSeen) (DueOf : Image → Answer → Type 0)
    : Answer → Type 0 where
  due_bytes : {a : Answer} (bytes : List ℕ) → IsTold s.told name bytes
      → DueOfBytes bytes DueOf a → DueOfImageFile name s DueOf a
  due_no_bytes : FailsToFetch s name → DueOfImageFile name s DueOf (told 5 (read_line name))
  due_memory_for_bytes : DueOfImageFile name s DueOf (told 7 memory_line)

-- the image is that of the file with this name
pub record IsImageOfFile (held : List ℕ → Option (List ℕ)) (name : List ℕ) (i : Image)
    : Type 0 where
  pub bytes : List ℕ
  pub told : IsTold held name bytes
  pub is_image : IsImageIn bytes i

-- nothing is due for an image: what is due where there is none
abbrev pub NoneOf : Image → Answer → Type 0
NoneOf i a = ⊥

-- What is due for a file whose text may have so many bytes, and for an image's file with such a text, by what is due for them.
use Rattle.std.specs.Prelude.{ℕ, ◌<◌, ◌≤◌, List, Option, length}
use Rattle.dae_image.specs.declared.Image.{Image}
use Rattle.dae_cli_drive.specs.Lines.{memory_line, read_line}
use Rattle.dae_cli_drive.specs.Puts.{Answer, told}
use Rattle.dae_cli_drive.specs.ImageFiles.{DueOfBytes, IsImageOfFile}
use Rattle.dae_cli_drive.specs.Shelves.{FailsToFetch, IsTold, ShelfSeen}

-- the text is that of the file with this name, and has at most so many bytes
pub record IsTextOfFile (held : List ℕ → Option (List ℕ)) (name : List ℕ) (most : ℕ)
    (text : List ℕ) : Type 0 where
  pub told : IsTold held name text
  pub short : length text ≤ most

-- what is due for a text of at most so many bytes: for the text; or it isn't got; or it is longer, and this line tells so; or
-- memory was wanting
pub data DueOfTextFile (name : List ℕ) (most : ℕ) (long : List ℕ) (s : ShelfSeen)
    (DueOf : List ℕ → Answer → Type 0) : Answer → Type 0 where
  due_text : {a : Answer} (text : List ℕ) → IsTextOfFile s.told name most text → DueOf text a
      → DueOfTextFile name most long s DueOf a
  due_not_got : FailsToFetch s name
      → DueOfTextFile name most long s DueOf (told 5 (read_line name))
  due_long : (text : List ℕ) → IsTold s.told name text → most < length text
      → DueOfTextFile name most long s DueOf (told 2 long)
  due_memory_for_text : DueOfTextFile name most long s DueOf (told 7 memory_line)

-- what is due for an image's file and a text: the image's file is fetched first, then the text, and then the image is read
pub data DueOfImageAndText (name text_name : List ℕ) (most : ℕ) (long : List ℕ) (s : ShelfSeen)
    (DueOf : Image → List ℕ → Answer → Type 0) : Answer → Type 0 where
  due_no_bytes_first : FailsToFetch s name
      → DueOfImageAndText name text_name most long s DueOf (told 5 (read_line name))
  due_both : {a : Answer} (bytes : List ℕ) → IsTold s.told name bytes
      → DueOfTextFile text_name most long s
      (λ text. DueOfBytes bytes (λ image. DueOf image text)) a
      → DueOfImageAndText name text_name most long s DueOf a
  due_memory_for_bytes_first : DueOfImageAndText name text_name most long s DueOf
      (told 7 memory_line)

-- both are those of the files with these names
pub record AreOfFiles (held : List ℕ → Option (List ℕ)) (name text_name : List ℕ) (most : ℕ)
    (image : Image) (text : List ℕ) : Type 0 where
  pub image_is : IsImageOfFile held name image
  pub text_is : IsTextOfFile held text_name most text

-- nothing is due for a text, and for both: what is due where they aren't got

abbrev pub NoneOfText : List ℕ → Answer → Type 0
NoneOfText text a = ⊥

abbrev pub NoneOfBoth : Image → List ℕ → Answer → Type 0
NoneOfBoth image text a = ⊥

-- Laws that crates above cite: what is due where a file is got or isn't, by what is due for it; what was seen of a shelf before;
-- and what comes of keeping bytes.
use Rattle.std.proofs.Common.{ℕ, List}
use Rattle.dae_image.specs.declared.Image.{Image}
use Rattle.dae_cli_drive.specs.Puts.{Answer}
use Rattle.dae_cli_drive.specs.ImageFiles.{DueOfBytes, due_image, due_no_image, due_memory_to_decode, DueOfImageFile, due_bytes, due_no_bytes, due_memory_for_bytes, IsImageOfFile, NoneOf}
use Rattle.dae_cli_drive.specs.Shelves.{ShelfSeen}
use Rattle.dae_cli_drive.specs.TextFiles.{AreOfFiles, DueOfImageAndText, due_no_bytes_first, due_both, due_memory_for_bytes_first, DueOfTextFile, due_text, due_not_got, due_long, due_memory_for_text, IsTextOfFile, NoneOfBoth, NoneOfText}
pub use Rattle.dae_cli_drive.proofs.Seen.{fails_before, seen_by, text_before, told_before}
pub use Rattle.dae_cli_drive.proofs.Limits.{longer_text, whole_text}
pub use Rattle.dae_cli_drive.proofs.Kept.{held_before, keeping_before, none_kept, not_begun, once_before, once_kept, one_noted, then_kept}

-- ---- an image's bytes and its file

pub due_of_no_bytes : {bytes : List ℕ} {DueOf : Image → Answer → Type 0} {a : Answer} → DueOfBytes bytes NoneOf a → DueOfBytes bytes DueOf a
due_of_no_bytes (due_image i is d) = absurd d
due_of_no_bytes (due_no_image e is) = due_no_image e is
due_of_no_bytes due_memory_to_decode = due_memory_to_decode

pub due_of_no_image : {name : List ℕ} {s : ShelfSeen} {DueOf : Image → Answer → Type 0} {a : Answer} → DueOfImageFile name s NoneOf a → DueOfImageFile name s DueOf a
due_of_no_image (due_bytes bytes t d) = due_bytes bytes t (due_of_no_bytes d)
due_of_no_image (due_no_bytes f) = due_no_bytes f
due_of_no_image due_memory_for_bytes = due_memory_for_bytes

pub due_of_image : {name : List ℕ} {s : ShelfSeen} {DueOf : Image → Answer → Type 0} {a : Answer} {i : Image} → IsImageOfFile s.told name i → DueOf i a → DueOfImageFile name s DueOf a
due_of_image {i = i} h d = due_bytes h.bytes h.told (due_image i h.is_image d)

-- ---- a text with a limit

pub due_of_no_text : {name long : List ℕ} {most : ℕ} {s : ShelfSeen} {DueOf : List ℕ → Answer → Type 0} {a : Answer} → DueOfTextFile name most long s NoneOfText a → DueOfTextFile name most long s DueOf a
due_of_no_text (due_text text is d) = absurd d
due_of_no_text (due_not_got f) = due_not_got f
due_of_no_text (due_long text t more) = due_long text t more
due_of_no_text due_memory_for_text = due_memory_for_text

pub due_of_text : {name long : List ℕ} {most : ℕ} {s : ShelfSeen} {DueOf : List ℕ → Answer → Type 0} {a : Answer} {text : List ℕ} → IsTextOfFile s.told name most text → DueOf text a → DueOfTextFile name most long s DueOf a
due_of_text {text = text} is d = due_text text is d

-- ---- both

no_bytes_of_both : {bytes : List ℕ} {a : Answer} (DueOf : Image → List ℕ → Answer → Type 0) (text : List ℕ) → DueOfBytes bytes (λ image. NoneOfBoth image text) a → DueOfBytes bytes (λ image. DueOf image text) a
no_bytes_of_both DueOf text (due_image i is d) = absurd d
no_bytes_of_both DueOf text (due_no_image e is) = due_no_image e is
no_bytes_of_both DueOf text due_memory_to_decode = due_memory_to_decode

no_text_of_both : {name long bytes : List ℕ} {most : ℕ} {s : ShelfSeen} {a : Answer} (DueOf : Image → List ℕ → Answer → Type 0) → DueOfTextFile name most long s (λ text. DueOfBytes bytes (λ image. NoneOfBoth image text)) a
    → DueOfTextFile name most long s (λ text. DueOfBytes bytes (λ image. DueOf image text)) a
no_text_of_both DueOf (due_text text is d) = due_text text is (no_bytes_of_both DueOf text d)
no_text_of_both DueOf (due_not_got f) = due_not_got f
no_text_of_both DueOf (due_long text t more) = due_long text t more
no_text_of_both DueOf due_memory_for_text = due_memory_for_text

pub due_of_not_both : {name text_name long : List ℕ} {most : ℕ} {s : ShelfSeen} {DueOf : Image → List ℕ → Answer → Type 0} {a : Answer} → DueOfImageAndText name text_name most long s NoneOfBoth a → DueOfImageAndText name text_name most long s DueOf a
due_of_not_both (due_no_bytes_first f) = due_no_bytes_first f
due_of_not_both {DueOf = DueOf} (due_both bytes t d) = due_both bytes t (no_text_of_both DueOf d)
due_of_not_both due_memory_for_bytes_first = due_memory_for_bytes_first

pub due_of_both : {name text_name long text : List ℕ} {most : ℕ} {s : ShelfSeen} {DueOf : Image → List ℕ → Answer → Type 0} {a : Answer} {i : Image} → AreOfFiles s.told name text_name most i text → DueOf i text a
    → DueOfImageAndText name text_name most long s DueOf a
due_of_both {text = text} {i = i} h d = let image = h.image_is in due_both image.bytes image.told (due_text text h.text_is (due_image i image.is_image d))

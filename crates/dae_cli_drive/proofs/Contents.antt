-- What is due for an image's file and a text, where one of them isn't got.
use Rattle.std.proofs.Common.{◌≡◌, ◌⊎◌, inl, inr, ℕ, List, sym, subst}
use Rattle.std.specs.Prelude.{Option}
use Rattle.dae_image.specs.declared.Image.{Image}
use Rattle.dae_cli_drive.specs.Lines.{memory_line, read_line}
use Rattle.dae_cli_drive.specs.Puts.{Answer, told}
use Rattle.dae_cli_drive.specs.ImageFiles.{DueOfBytes, due_image, due_no_image, due_memory_to_decode, DueOfImageFile, due_bytes, due_no_bytes, due_memory_for_bytes, IsImageIn, IsImageOfFile, NoneOf}
use Rattle.dae_cli_drive.specs.Shelves.{FailsToFetch, ShelfSeen}
use Rattle.dae_cli_drive.specs.TextFiles.{DueOfImageAndText, due_no_bytes_first, due_both, due_memory_for_bytes_first, DueOfTextFile, due_text, due_not_got, due_long, due_memory_for_text, IsTextOfFile, NoneOfBoth, NoneOfText}
use Rattle.dae_cli_drive.proofs.Longest.{IsFrontOf, due_whole, is_image_whole}

-- ---- the image's file

pub file_not_got : {name : List ℕ} {s : ShelfSeen} {x : Answer} → (x ≡ told 7 memory_line) ⊎ ((x ≡ told 5 (read_line name)) × FailsToFetch s name) → DueOfImageFile name s NoneOf x
file_not_got {name} {s} (inl e) = subst (λ (a : Answer). DueOfImageFile name s NoneOf a) (sym e) due_memory_for_bytes
file_not_got {name} {s} (inr f) = subst (λ (a : Answer). DueOfImageFile name s NoneOf a) (sym f.0) (due_no_bytes f.1)

pub file_no_image : {name text : List ℕ} {s : ShelfSeen} {x : Answer} → IsFrontOf (s.told name) text → DueOfBytes text NoneOf x → DueOfImageFile name s NoneOf x
file_no_image {text = text} front d = due_bytes front.bytes front.held (due_whole front.bytes text front.front d)

pub file_is_image : {held : List ℕ → Option (List ℕ)} {name text : List ℕ} (i : Image) → IsFrontOf (held name) text → IsImageIn text i → IsImageOfFile held name i
file_is_image {text = text} i front is = record { bytes = front.bytes; told = front.held; is_image = is_image_whole front.bytes text i front.front is }

-- ---- both

pub first_not_got : {name text_name long : List ℕ} {most : ℕ} {s : ShelfSeen} {x : Answer} → (x ≡ told 7 memory_line) ⊎ ((x ≡ told 5 (read_line name)) × FailsToFetch s name) → DueOfImageAndText name text_name most long s NoneOfBoth x
first_not_got {name} {text_name} {long} {most} {s} (inl e) = subst (λ (a : Answer). DueOfImageAndText name text_name most long s NoneOfBoth a) (sym e) due_memory_for_bytes_first
first_not_got {name} {text_name} {long} {most} {s} (inr f) = subst (λ (a : Answer). DueOfImageAndText name text_name most long s NoneOfBoth a) (sym f.0) (due_no_bytes_first f.1)

no_text : {name long bytes : List ℕ} {most : ℕ} {s : ShelfSeen} {x : Answer} → DueOfTextFile name most long s NoneOfText x → DueOfTextFile name most long s (λ text. DueOfBytes bytes (λ image. NoneOfBoth image text)) x
no_text (due_text text is d) = absurd d
no_text (due_not_got f) = due_not_got f
no_text (due_long text t more) = due_long text t more
no_text due_memory_for_text = due_memory_for_text

pub second_not_got : {name text_name long fetched : List ℕ} {most : ℕ} {s : ShelfSeen} {x : Answer} → IsFrontOf (s.told name) fetched → DueOfTextFile text_name most long s NoneOfText x → DueOfImageAndText name text_name most long s NoneOfBoth x
second_not_got front d = due_both front.bytes front.held (no_text d)

no_bytes : {bytes : List ℕ} {x : Answer} (text : List ℕ) → DueOfBytes bytes NoneOf x → DueOfBytes bytes (λ image. NoneOfBoth image text) x
no_bytes text (due_image i is d) = absurd d
no_bytes text (due_no_image e is) = due_no_image e is
no_bytes text due_memory_to_decode = due_memory_to_decode

pub first_no_image : {name text_name long fetched text : List ℕ} {most : ℕ} {s : ShelfSeen} {x : Answer} → IsFrontOf (s.told name) fetched → IsTextOfFile s.told text_name most text → DueOfBytes fetched NoneOf x
    → DueOfImageAndText name text_name most long s NoneOfBoth x
first_no_image {fetched = fetched} {text = text} front is d = due_both front.bytes front.held (due_text text is (no_bytes text (due_whole front.bytes fetched front.front d)))

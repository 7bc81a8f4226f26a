-- For a file at most one answer is due, but for want of memory, where at most one is for what it holds.
use Rattle.std.proofs.Common.{◌≡◌, ℕ, ◌≤◌, List, length, refl, ap, sym, ◌∙◌, subst, arith}
use Rattle.std.specs.Prelude.{Option, Some, IfSome}
use Rattle.dae_image.specs.declared.Image.{Image}
use Rattle.dae_image.specs.declared.fault.ImageError.{ImageError}
use Rattle.dae_image.proofs.Laws.{same_image}
use Rattle.dae_cli_drive.specs.Images.{IsSingle}
use Rattle.dae_cli_drive.specs.Notes.{image_line}
use Rattle.dae_cli_drive.specs.Puts.{Answer, Put, told}
use Rattle.dae_cli_drive.specs.ImageFiles.{DueOfBytes, due_image, due_no_image, due_memory_to_decode, DueOfImageFile, due_bytes, due_no_bytes, due_memory_for_bytes}
use Rattle.dae_cli_drive.specs.Keeping.{DueOfKeeping, due_kept, due_not_kept, due_memory_to_keep}
use Rattle.dae_cli_drive.specs.Shelves.{IsTold, ShelfSeen}
use Rattle.dae_cli_drive.specs.TextFiles.{DueOfImageAndText, due_no_bytes_first, due_both, due_memory_for_bytes_first, DueOfTextFile, due_text, due_not_got, due_long, due_memory_for_text}
use Rattle.dae_cli_answers.specs.One.{IsSeenWhole}

-- ---- images

at_text : {held : Option (List ℕ)} {text t : List ℕ} → held ≡ Some text → IfSome held (λ x. x ≡ t) → t ≡ text
at_text {held} {text} {t} e h = sym (subst (λ (o : Option (List ℕ)). IfSome o (λ x. x ≡ t)) e h)

pub same_text : (s : ShelfSeen) → IsSeenWhole s → (n t u : List ℕ) → IsTold s.told n t → IsTold s.told n u → t ≡ u
same_text s whole n t u h k = at_text (whole.told n) h ∙ sym (at_text (whole.told n) k)

pub one_of_bytes : {bytes : List ℕ} {D : Image → Answer → Type 0} → ((i : Image) → IsSingle (D i)) → IsSingle (DueOfBytes bytes D)
one_of_bytes {bytes} {D} single a b (due_image i is d) (due_image j is' d') m n =
    let same : i ≡ j = same_image i j (let u = sym is.read ∙ is'.read in cc) in
    single j a b (subst (λ (x : Image). D x a) same d) d' m n
one_of_bytes single a b (due_image i is d) (due_no_image f none) m n = absurd (none.none i is.spells)
one_of_bytes single a b (due_image i is d) due_memory_to_decode m n = absurd (n refl)
one_of_bytes single a b (due_no_image f none) (due_image i is d) m n = absurd (none.none i is.spells)
one_of_bytes single a b (due_no_image f none) (due_no_image g none') m n = let same : f ≡ g = (let u = sym none.read ∙ none'.read in cc) in ap (λ (x : ImageError). told 8 (image_line x)) same
one_of_bytes single a b (due_no_image f none) due_memory_to_decode m n = absurd (n refl)
one_of_bytes single a b due_memory_to_decode d m n = absurd (m refl)

pub one_of_image_file : {name : List ℕ} {s : ShelfSeen} {D : Image → Answer → Type 0} → IsSeenWhole s → ((i : Image) → IsSingle (D i)) → IsSingle (DueOfImageFile name s D)
one_of_image_file {name} {s} {D} whole single a b (due_bytes t h d) (due_bytes u k d') m n =
    let same : t ≡ u = same_text s whole name t u h k in
    one_of_bytes single a b (subst (λ (x : List ℕ). DueOfBytes x D a) same d) d' m n
one_of_image_file whole single a b (due_bytes t h d) (due_no_bytes f) m n = absurd (whole.calm f.0)
one_of_image_file whole single a b (due_bytes t h d) due_memory_for_bytes m n = absurd (n refl)
one_of_image_file whole single a b (due_no_bytes f) d m n = absurd (whole.calm f.0)
one_of_image_file whole single a b due_memory_for_bytes d m n = absurd (m refl)

-- ---- texts with a limit

pub one_of_text : {name long : List ℕ} {most : ℕ} {s : ShelfSeen} {D : List ℕ → Answer → Type 0} → IsSeenWhole s → ((text : List ℕ) → length text ≤ most → IsSingle (D text)) → IsSingle (DueOfTextFile name most long s D)
one_of_text {name = name} {s = s} {D = D} whole single a b (due_text t h d) (due_text u k d') m n =
    let same : t ≡ u = same_text s whole name t u h.told k.told in
    single u k.short a b (subst (λ (x : List ℕ). D x a) same d) d' m n
one_of_text whole single a b (due_text t h d) (due_not_got f) m n = absurd (whole.calm f.0)
one_of_text {name = name} {s = s} whole single a b (due_text t h d) (due_long u k more) m n = absurd (let same = same_text s whole name t u h.told k in let short = h.short in omega (arith, ap length same, short, more))
one_of_text whole single a b (due_text t h d) due_memory_for_text m n = absurd (n refl)
one_of_text whole single a b (due_not_got f) d m n = absurd (whole.calm f.0)
one_of_text {name = name} {s = s} whole single a b (due_long t h more) (due_text u k d) m n = absurd (let same = same_text s whole name t u h k.told in let short = k.short in omega (arith, ap length same, short, more))
one_of_text whole single a b (due_long t h more) (due_not_got f) m n = absurd (whole.calm f.0)
one_of_text whole single a b (due_long t h more) (due_long u k more') m n = refl
one_of_text whole single a b (due_long t h more) due_memory_for_text m n = absurd (n refl)
one_of_text whole single a b due_memory_for_text d m n = absurd (m refl)

pub one_of_both : {name text_name long : List ℕ} {most : ℕ} {s : ShelfSeen} {D : Image → List ℕ → Answer → Type 0} → IsSeenWhole s → ((i : Image) (text : List ℕ) → length text ≤ most → IsSingle (D i text)) → IsSingle (DueOfImageAndText name text_name most long s D)
one_of_both {name = name} {text_name = text_name} {long = long} {most = most} {s = s} {D = D} whole single a b (due_both t h d) (due_both u k d') m n =
    let same : t ≡ u = same_text s whole name t u h k in
    one_of_text whole (λ text short. one_of_bytes (λ i. single i text short)) a b (subst (λ (x : List ℕ). DueOfTextFile text_name most long s (λ text. DueOfBytes x (λ i. D i text)) a) same d) d' m n
one_of_both whole single a b (due_both t h d) (due_no_bytes_first f) m n = absurd (whole.calm f.0)
one_of_both whole single a b (due_both t h d) due_memory_for_bytes_first m n = absurd (n refl)
one_of_both whole single a b (due_no_bytes_first f) d m n = absurd (whole.calm f.0)
one_of_both whole single a b due_memory_for_bytes_first d m n = absurd (m refl)

-- ---- an image that is kept

-- a shelf without a fault keeps it, so that one answer is due
pub one_of_keeping : {lines : List Put} {s : ShelfSeen} {status : ℕ} {to : List ℕ} {image : Image} → IsSeenWhole s → IsSingle (DueOfKeeping lines s status to image)
one_of_keeping whole a b (due_kept h) (due_kept k) m n = refl
one_of_keeping whole a b (due_kept h) (due_not_kept k) m n = absurd (whole.calm k.rose)
one_of_keeping whole a b (due_kept h) due_memory_to_keep m n = absurd (n refl)
one_of_keeping whole a b (due_not_kept h) d m n = absurd (whole.calm h.rose)
one_of_keeping whole a b due_memory_to_keep d m n = absurd (m refl)

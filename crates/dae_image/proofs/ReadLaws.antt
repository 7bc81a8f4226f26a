-- What the two laws say of the answer of a reader.
use Rattle.std.proofs.Common.{◌≡◌, ℕ, List, Result, Ok, Err, length, refl, sym, ap, subst, ◌∙◌}
use Rattle.std.specs.Prelude.{IfOk}
use Rattle.std.proofs.Props.{props}
use Rattle.dae_image.specs.declared.Image.{Image}
use Rattle.dae_image.specs.declared.fault.ImageError.{ImageError}
use Rattle.dae_image.specs.declared.fault.ImageError.TheVariants.{Short, BadField, Trailing, Memory}
use Rattle.dae_image.specs.Contents.{ImageContents, Fits}
use Rattle.dae_image.specs.Spelling.{Spells}
use Rattle.dae_image.specs.Reading.{Gives, Fails, image_at}
use Rattle.dae_image.specs.Images.{contents, IsOrMemory, IsSpelledBefore}
use Rattle.dae_image.proofs.FieldLaws.{IsBytes, ok_is}
use Rattle.dae_image.proofs.ImageLaws.{image_takes, image_again}
use Rattle.dae_image.proofs.FaultLaws.{image_fails, image_trails}

pub is_found : (bytes : List ℕ) (r : Result Image ImageError) → IsBytes bytes → Gives contents r (image_at bytes) → IfOk r (λ image. Spells bytes (contents image))
is_found bytes (Ok image) fits given = (image_takes bytes (contents image) fits given).1
is_found bytes (Err e) fits given = tt

-- an image is what it holds
abbrev made : (c : ImageContents) → Fits c → Image
made c fits = record { budget = c.budget; memory = c.memory; calls = c.calls; private_a = c.private_a; private_e = c.private_e; entry_a = c.entry_a; entry_e = c.entry_e; code_a = c.code_a; code_e = c.code_e; content = c.content; lines = c.lines; names = c.names; fits = fits }

Fits-prop : (c : ImageContents) → IsProp (Fits c)
Fits-prop c = hlevel props

pub same_image : (x y : Image) → contents x ≡ contents y → x ≡ y
same_image x y e = subst (λ (c : ImageContents). (f : Fits c) → x ≡ made c f) e (λ f. ap (made (contents x)) (Fits-prop (contents x) x.fits f)) y.fits

fails_only : (image : Image) (e : ImageError) → Fails e (Ok (contents image)) → e ≡ Memory
fails_only image (Short n) h = absurd cc
fails_only image (BadField field n) h = absurd cc
fails_only image (Trailing n) h = absurd cc
fails_only image Memory h = refl

pub is_only : (bytes : List ℕ) (r : Result Image ImageError) (image : Image) → Gives contents r (image_at bytes) → Spells bytes (contents image) → IsOrMemory image r
is_only bytes (Ok read) image given spelled = same_image read image (ok_is (contents read) (contents image) (sym given ∙ image_again bytes (contents image) image.fits spelled))
is_only bytes (Err e) image given spelled = fails_only image e (subst (λ (read : Result ImageContents ImageError). Fails e read) (image_again bytes (contents image) image.fits spelled) given)

failing : {r : Result Image ImageError} (e : ImageError) (read : Result ImageContents ImageError) → r ≡ Err e → Gives contents r read → Fails e read
failing {r} e read h given = subst (λ (k : Result Image ImageError). Gives contents k read) h given

pub is_short : (bytes : List ℕ) (r : Result Image ImageError) → IsBytes bytes → Gives contents r (image_at bytes) → (n : ℕ) → r ≡ Err (Short n) → n ≡ length bytes
is_short bytes r fits given n h = image_fails bytes (Short n) fits (failing (Short n) (image_at bytes) h given)

pub is_trailing : (bytes : List ℕ) (r : Result Image ImageError) → IsBytes bytes → Gives contents r (image_at bytes) → (n : ℕ) → r ≡ Err (Trailing n) → IsSpelledBefore n bytes
is_trailing bytes r fits given n h =
    let fault = image_fails bytes (Trailing n) fits (failing (Trailing n) (image_at bytes) h given) in
    (fault.0, (made fault.1.0 fault.1.1, fault.1.2))

pub is_only_trailing : (bytes : List ℕ) (r : Result Image ImageError) → Gives contents r (image_at bytes) → (n : ℕ) → IsSpelledBefore n bytes → Gives contents r (Err (Trailing n))
is_only_trailing bytes r given n spelled = subst (λ (k : Result ImageContents ImageError). Gives contents r k) (image_trails bytes n (contents spelled.1.0) spelled.1.0.fits spelled.0 spelled.1.1) given

-- What is due for bytes that are no image.
use Rattle.std.proofs.Common.{◌≡◌, ◌⊎◌, inl, inr, ℕ, List, take, refl, sym, subst}
use Rattle.std.specs.Prelude.{◌≢◌, Err}
use Rattle.dae_image.specs.declared.Image.{Image}
use Rattle.dae_image.specs.declared.fault.ImageError.{ImageError}
use Rattle.dae_image.specs.declared.fault.ImageError.TheVariants as errors
use Rattle.dae_image.specs.Images.{contents}
use Rattle.dae_image.specs.Reading.{Fails, image_at}
use Rattle.dae_image.specs.Spelling.{Spells}
use Rattle.dae_cli_drive.specs.Lines.{memory_line}
use Rattle.dae_cli_drive.specs.Notes.{image_line}
use Rattle.dae_cli_drive.specs.Puts.{Answer, told}
use Rattle.dae_cli_drive.specs.ImageFiles.{DueOfBytes, due_no_image, due_memory_to_decode, IsNoImage}

module _ (bytes : List ℕ) (all : take 536870912 bytes ≡ bytes) where
  fault_is : (e : ImageError) → e ≢ errors.Memory → image_at bytes ≡ Err e → ((i : Image) → Spells bytes (contents i) → e ≡ errors.Memory) → IsNoImage bytes e
  fault_is e never exact only = record { other = never; read = rw all exact; none = λ i s. never (only i s) }

  pub refused_bytes : (e : ImageError) → e ≢ errors.Memory → Fails e (image_at bytes) → ((i : Image) → Spells bytes (contents i) → e ≡ errors.Memory) → IsNoImage bytes e
  refused_bytes (errors.Short k) never fails only = fault_is (errors.Short k) never fails only
  refused_bytes (errors.BadField field k) never fails only = fault_is (errors.BadField field k) never fails only
  refused_bytes (errors.Trailing k) never fails only = fault_is (errors.Trailing k) never fails only
  refused_bytes errors.Memory never fails only = absurd (never refl)

-- the stop that tells a fault, or that memory was wanting for its line
pub bytes_stop : {bytes : List ℕ} {DueOf : Image → Answer → Type 0} {x : Answer} (e : ImageError) → IsNoImage bytes e → (x ≡ told 8 (image_line e)) ⊎ (x ≡ told 7 memory_line) → DueOfBytes bytes DueOf x
bytes_stop {bytes} {DueOf} e is (inl same) = subst (λ (a : Answer). DueOfBytes bytes DueOf a) (sym same) (due_no_image e is)
bytes_stop {bytes} {DueOf} e is (inr same) = subst (λ (a : Answer). DueOfBytes bytes DueOf a) (sym same) due_memory_to_decode

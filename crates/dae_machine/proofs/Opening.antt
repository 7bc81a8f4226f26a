-- A machine before its first step.
use Rattle.std.proofs.Common.{◌≡◌, ℕ, ◌+◌, ◌-◌, ◌≤◌, List, ◌++◌, length, refl, arith, length-append}
use Rattle.std.specs.Prelude.{replicate}
use Rattle.std.proofs.lemmas.List.{length-replicate}
use Rattle.dae_image.specs.declared.Image.{Image}
use Rattle.dae_core.specs.Queues.{empty_queues}
use Rattle.dae_machine.specs.Held.{AreCounted, DataFit}
use Rattle.dae_machine.specs.Machine.{IsCounted}
use Rattle.dae_machine.specs.Opened.{opened}

pub memory_length : (content : List ℕ) (size : ℕ) → 16 + length content ≤ size → length (replicate 16 0 ++ (content ++ replicate (size - (16 + length content)) 0)) ≡ size
memory_length content size fit =
    let inner = length-append content (replicate (size - (16 + length content)) 0) in
    let outer = length-append (replicate 16 0) (content ++ replicate (size - (16 + length content)) 0) in
    let zeros = length-replicate {A = ℕ} (size - (16 + length content)) 0 in
    omega (arith, inner, outer, zeros)

pub none_counted : AreCounted empty_queues 0
none_counted = record {
  counts = record { ld = record { numbers = refl; stamps = tt }; al = record { numbers = refl; stamps = tt }; sa = refl };
  ld = omega arith;
  al = omega arith;
  stores = omega arith;
}

-- an image's data fit its memory
pub data_fit : (image : Image) → DataFit image
data_fit image = let c = image.fits.head.content.1 in let m = image.fits.head.memory.0 in omega (arith, c, m)

pub opened_counted : (image : Image) → IsCounted (opened image)
opened_counted image = record { ld = record { numbers = refl; stamps = tt }; al = record { numbers = refl; stamps = tt }; sa = refl }

-- Images as what they hold.
use Rattle.std.specs.Prelude.{◌≡◌, ◌<◌, List, ℕ, length, take, Result, Ok, Err}
use Rattle.dae_image.specs.declared.Image.{Image}
use Rattle.dae_image.specs.declared.fault.ImageError.{ImageError}
use Rattle.dae_image.specs.declared.fault.ImageError.TheVariants.{Memory}
use Rattle.dae_image.specs.Contents.{ImageContents}
use Rattle.dae_image.specs.declared.header.ImageHeader.{ImageHeader}
use Rattle.dae_image.specs.Spelling.{Spells}
use Rattle.dae_image.specs.Reading.{header_at}

abbrev pub contents : Image → ImageContents
contents i = record {
  budget = i.budget;
  memory = i.memory;
  calls = i.calls;
  private_a = i.private_a;
  private_e = i.private_e;
  entry_a = i.entry_a;
  entry_e = i.entry_e;
  code_a = i.code_a;
  code_e = i.code_e;
  content = i.content;
  lines = i.lines;
  names = i.names;
}

-- the answer is this image, unless memory ran out
abbrev pub IsOrMemory : Image → Result Image ImageError → Type 0
IsOrMemory image (Ok read) = read ≡ image
IsOrMemory image (Err e) = e ≡ Memory

-- an image ends after the first n bytes, and others follow
abbrev pub IsSpelledBefore : ℕ → List ℕ → Type 0
IsSpelledBefore n bytes = (n < length bytes) × ((image : Image) × Spells (take n bytes) (contents image))

-- the bytes begin with the numbers of an image's head, all in their ranges
abbrev pub HasHeader : List ℕ → Type 0
HasHeader bytes = (head : ImageHeader × List ℕ) × (header_at (length bytes) bytes ≡ Ok head)

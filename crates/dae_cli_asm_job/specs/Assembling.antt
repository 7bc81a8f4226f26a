-- What is due for an assembly text and for its file, by what is due for the image that it says, and for a job that keeps it.
use Rattle.std.specs.Prelude.{◌≢◌, ◌⊎◌, ℕ, List, [], ◌++◌, Option, codes, decimal}
use Rattle.dae_asm.specs.Assembly.{Asm, IsCauseOf}
use Rattle.dae_asm.specs.declared.errors.AsmError.{AsmError}
use Rattle.dae_asm.specs.declared.errors.AsmError.TheVariants as errors
use Rattle.dae_image.specs.declared.Image.{Image}
use Rattle.dae_image.specs.Images.{contents}
use Rattle.dae_image.specs.Spelling.{spelling_2}
use Rattle.dae_io.specs.Sinks.{SinkState}
use Rattle.dae_cli_drive.specs.Lines.{memory_line}
use Rattle.dae_cli_drive.specs.Puts.{Answer, told}
use Rattle.dae_cli_drive.specs.Keeping.{DueOfKeeping, KeepsAtMostOnce}
use Rattle.dae_cli_drive.specs.Shelves.{KeepsNothing, ShelfSeen}
use Rattle.dae_cli_drive.specs.TextFiles.{DueOfTextFile, IsTextOfFile}

-- an assembly text may have so many bytes
abbrev pub most_assembly : ℕ
most_assembly = 134217728

abbrev pub long_assembly_line : List ℕ
long_assembly_line = codes "refused text-too-long\n"

-- a kind of fault, and the number of the line that has it
abbrev pub fault_line : List ℕ → ℕ → List ℕ
fault_line kind number =
    codes "refused asm-" ++ (kind ++ (codes " " ++ (decimal number ++ codes "\n")))

-- why a text says no image
abbrev pub error_line : AsmError → List ℕ
error_line (errors.BadLine number) = fault_line (codes "line") number
error_line (errors.Label number) = fault_line (codes "label") number
error_line (errors.BadValue number) = fault_line (codes "value") number
error_line errors.Memory = memory_line

-- what is due for an assembly text: for the image that it says; or it says none, and its fault is told; or memory was wanting
pub data DueOfAssembly (text : List ℕ) (DueOf : Image → Answer → Type 0) : Answer → Type 0 where
  due_said : {a : Answer} (image : Image) → Asm text image → DueOf image a → DueOfAssembly text DueOf a
  due_fault : (e : AsmError) → e ≢ errors.Memory → IsCauseOf text e
      → DueOfAssembly text DueOf (told 2 (error_line e))
  due_memory_to_assemble : DueOfAssembly text DueOf (told 7 memory_line)

-- what is due for the file of an assembly text: it isn't got; or it is longer; or what is due for its text
abbrev pub DueOfAssemblyFile : (name : List ℕ) → ShelfSeen → (Image → Answer → Type 0) → Answer → Type 0
DueOfAssemblyFile name s DueOf =
    DueOfTextFile name most_assembly long_assembly_line s (λ text. DueOfAssembly text DueOf)

-- what is due where the image that the file says is to be kept under a name: no line stands before that on the keep
abbrev pub DueOfAssembling : (name : List ℕ) → ShelfSeen → (status : ℕ) → (to : List ℕ) → Answer → Type 0
DueOfAssembling name s status to = DueOfAssemblyFile name s (DueOfKeeping [] s status to)

-- the text of the file with this name says the image
pub record IsAssembledOf (held : List ℕ → Option (List ℕ)) (name : List ℕ) (image : Image)
    : Type 0 where
  pub text : List ℕ
  pub is : IsTextOfFile held name most_assembly text
  pub says : Asm text image

-- nothing is kept; or the bytes of the image that the file says, once
abbrev pub KeepsAssembledOnce : (name : List ℕ) → ShelfSeen → (to : List ℕ) → (status : ℕ)
    → (note note_now : SinkState) → Type 0
KeepsAssembledOnce name s to status note note_now =
    KeepsNothing s
    ⊎ ((image : Image) × IsAssembledOf s.told name image
    × KeepsAtMostOnce [] s to (spelling_2 (contents image)) status note note_now)

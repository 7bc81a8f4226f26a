-- What is due for files whose image is to be kept, and what is kept of them.
use Rattle.std.specs.Prelude.{◌⊎◌, ℕ, List, [], ◌∷◌}
use Rattle.dae_image.specs.declared.Image.{Image}
use Rattle.dae_image.specs.Images.{contents}
use Rattle.dae_image.specs.Spelling.{spelling_2}
use Rattle.dae_io.specs.Sinks.{SinkState}
use Rattle.dae_cli_options.specs.declared.options.Options.{Options}
use Rattle.dae_cli_drive.specs.Notes.{budget_line}
use Rattle.dae_cli_drive.specs.Puts.{Answer, Note, Put}
use Rattle.dae_cli_drive.specs.Keeping.{DueOfKeeping, KeepsAtMostOnce}
use Rattle.dae_cli_drive.specs.Shelves.{KeepsNothing, ShelfSeen}
use Rattle.dae_cli_source_jobs.specs.Sources.{IsImageOfFiles}

-- the line with an image's budget
abbrev pub budget_put : Image → List Put
budget_put image = Note (budget_line image.budget) ∷ []

-- what is due for a compiled image: it is kept under a name behind the line with its budget
abbrev pub DueOfKept : ShelfSeen → (status : ℕ) → (to : List ℕ) → Image → Answer → Type 0
DueOfKept s status to image = DueOfKeeping (budget_put image) s status to image

-- nothing is kept; or the bytes that spell an image, once, behind the line with its budget
abbrev pub KeepsImageOnce : ShelfSeen → (to : List ℕ) → (status : ℕ)
    → (note note_now : SinkState) → Image → Type 0
KeepsImageOnce s to status note note_now image =
    KeepsAtMostOnce (budget_put image) s to (spelling_2 (contents image)) status note note_now

-- the same of an image of files: without one nothing is kept
abbrev pub KeepsFilesOnce : (names : List (List ℕ)) → ShelfSeen → Options → (to : List ℕ)
    → (status : ℕ) → (note note_now : SinkState) → Type 0
KeepsFilesOnce names s c to status note note_now =
    KeepsNothing s
    ⊎ ((image : Image) × IsImageOfFiles s.told names c image
    × KeepsImageOnce s to status note note_now image)

-- What is due for an image that is to be kept, and what comes of keeping it.
use Rattle.std.specs.Prelude.{◌≡◌, ◌≢◌, ◌⊎◌, ℕ, List, [], ◌∷◌, ◌++◌, Option, codes}
use Rattle.dae_image.specs.declared.Image.{Image}
use Rattle.dae_image.specs.Images.{contents}
use Rattle.dae_image.specs.Spelling.{spelling_2}
use Rattle.dae_io.specs.Told.{IsSilent, TellsSame, TellsSameOfOthers}
use Rattle.dae_io.specs.Sinks.{SinkState}
use Rattle.dae_cli_drive.specs.Lines.{memory_line}
use Rattle.dae_cli_drive.specs.Puts.{Answer, AreNoted, GivesNotes, Note, Put, answer, told}
use Rattle.dae_cli_drive.specs.Shelves.{FailsToKeep, Keeps, KeepsNothing, KeepsOnce, ShelfSeen}

abbrev pub kept_line : List ℕ → List ℕ
kept_line to = codes "kept " ++ (to ++ codes "\n")

-- the bytes are kept under the name; or one of the lines before that couldn't be put, and the job ends so with status 6
abbrev pub KeepsOrEnds : (lines : List Put) → ShelfSeen → (status : ℕ) → (to bytes : List ℕ) → Type 0
KeepsOrEnds lines s status to bytes =
    Keeps s to bytes ⊎ ((lines ≢ []) × (status ≡ 6) × TellsSame s.told s.told_after)

-- what comes of keeping bytes, by the status, and by what is seen of note before and after: they are kept, and the line on that
-- is put or fails; or they can't be kept
abbrev pub KeptOrNot : ShelfSeen → (to bytes : List ℕ) → (status : ℕ)
    → (note note_now : SinkState) → Type 0
KeptOrNot s to bytes status note note_now =
    (Keeps s to bytes × GivesNotes (told 0 (kept_line to)) status note note_now)
    ⊎ (FailsToKeep s to × (status ≡ 6) × (note_now ≡ note))

-- nothing is kept; or these lines are put, each whole, and then just these bytes are kept under the name, once
pub data KeepsAtMostOnce (lines : List Put) (s : ShelfSeen) (to bytes : List ℕ) (status : ℕ)
    (note note_now : SinkState) : Type 0 where
  keeps_nothing : KeepsNothing s → KeepsAtMostOnce lines s to bytes status note note_now
  keeps_once : (between : SinkState) → AreNoted lines note between → KeepsOnce s bytes
      → KeptOrNot s to bytes status between note_now
      → KeepsAtMostOnce lines s to bytes status note note_now

-- what is due for an image that is to be kept under a name behind these lines, in a job that ends with this status: the lines are
-- put, and its bytes are kept; or they can't be kept; or memory was wanting, before anything was put or kept
pub data DueOfKeeping (lines : List Put) (s : ShelfSeen) (status : ℕ) (to : List ℕ) (image : Image)
    : Answer → Type 0 where
  due_kept : KeepsOrEnds lines s status to (spelling_2 (contents image)) →
      DueOfKeeping lines s status to image (answer 0 (lines ++ (Note (kept_line to) ∷ [])))
  due_not_kept : FailsToKeep s to
      → DueOfKeeping lines s status to image (answer 6 lines)
  due_memory_to_keep : DueOfKeeping lines s status to image (told 7 memory_line)

-- of every name but one the shelf tells the same, or it tells nothing any more
abbrev pub TellsBut : List ℕ → (before after : List ℕ → Option (List ℕ)) → Type 0
TellsBut to before after = IsSilent after ⊎ TellsSameOfOthers to before after

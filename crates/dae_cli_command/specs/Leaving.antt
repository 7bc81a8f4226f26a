-- What a job leaves of the texts that a shelf holds, and what it keeps.
use Rattle.std.specs.Prelude.{◌≡◌, ◌⊎◌, ℕ, List, Option, None, Some}
use Rattle.dae_io.specs.Sinks.{SinkState}
use Rattle.dae_io.specs.Told.{TellsSame}
use Rattle.dae_cli_asm_job.specs.Assembling.{KeepsAssembledOnce}
use Rattle.dae_cli_drive.specs.Keeping.{TellsBut}
use Rattle.dae_cli_drive.specs.Shelves.{KeepsNothing, ShelfSeen}
use Rattle.dae_cli_source_jobs.specs.Kept.{KeepsFilesOnce}
use Rattle.dae_cli_words.specs.Asked.{Asked, Compile, Asm}
use Rattle.dae_cli_words.specs.Words.{SpellsJob}

-- the name under which a job keeps an image
abbrev pub kept_by : Asked → Option (List ℕ)
kept_by (Compile c to files) = Some to
kept_by (Asm to name) = Some to
kept_by _ = None

-- all names tell what they told, but for the name under which the words ask to keep an image
abbrev pub Leaves : (words : List (List ℕ)) → (before after : List ℕ → Option (List ℕ)) → Type 0
Leaves words before after =
    TellsSame before after
    ⊎ ((job : Asked) × (to : List ℕ) × SpellsJob words job × (kept_by job ≡ Some to)
    × TellsBut to before after)

-- what a job keeps, that ends with this status, by what is seen of note before and after: nothing, but for one that is asked to
-- keep an image
abbrev pub KeepsOfJob : Asked → ShelfSeen → (status : ℕ) → (note note_now : SinkState) → Type 0
KeepsOfJob (Compile c to files) s status note note_now =
    KeepsFilesOnce files s c to status note note_now
KeepsOfJob (Asm to name) s status note note_now =
    KeepsAssembledOnce name s to status note note_now
KeepsOfJob _ s status note note_now = KeepsNothing s

-- nothing is kept, or what the job keeps that the words spell
abbrev pub KeepsAsAsked : (words : List (List ℕ)) → ShelfSeen → (status : ℕ)
    → (note note_now : SinkState) → Type 0
KeepsAsAsked words s status note note_now =
    KeepsNothing s
    ⊎ ((job : Asked) × SpellsJob words job × KeepsOfJob job s status note note_now)

-- Answers: a status and what is put on the two sinks; and what it means that an answer is given.
use Rattle.std.specs.Prelude.{◌≡◌, ◌⊎◌, ℕ, List, [], ◌∷◌, ◌++◌, string_bytes}
use Rattle.dae_io.specs.Sinks.{SinkState, IsPut, IsPutFailed}
use Rattle.dae_cli_drive.specs.declared.stop.Stop.{Stop}
use Rattle.dae_cli_drive.specs.declared.stop.Stop.TheVariants.{Told, Memory}
use Rattle.dae_cli_drive.specs.Lines.{memory_line}

-- one put: a printed piece on out, or a line on note
pub data Put : Type 0 where
  Out : (piece : List ℕ) → Put
  Note : (line : List ℕ) → Put

-- a status, and the puts in their order
pub record Answer : Type 0 where
  pub status : ℕ
  pub puts : List Put

abbrev pub answer : ℕ → List Put → Answer
answer status puts = record { status = status; puts = puts }

-- the answer of one line on note
abbrev pub told : ℕ → List ℕ → Answer
told status line = answer status (Note line ∷ [])

-- the answer of a job that ends before a machine is opened
abbrev pub stop_answer : Stop → Answer
stop_answer (Told status line) = told status (string_bytes line)
stop_answer Memory = told 7 memory_line

-- what is seen of the two sinks
pub record Sinks : Type 0 where
  pub out : SinkState
  pub note : SinkState

abbrev pub sinks : SinkState → SinkState → Sinks
sinks out note = record { out = out; note = note }

-- the put was made whole, and the other sink stays as it is
abbrev pub IsMade : Put → Sinks → Sinks → Type 0
IsMade (Out piece) before after = IsPut piece before.out after.out × (after.note ≡ before.note)
IsMade (Note line) before after = IsPut line before.note after.note × (after.out ≡ before.out)

-- the put failed, and the other sink stays as it is
abbrev pub IsFailed : Put → Sinks → Sinks → Type 0
IsFailed (Out piece) before after = IsPutFailed piece before.out after.out × (after.note ≡ before.note)
IsFailed (Note line) before after = IsPutFailed line before.note after.note × (after.out ≡ before.out)

-- these puts were made, each whole, in their order, and no others
abbrev pub AreMade : List Put → Sinks → Sinks → Type 0
AreMade [] before after = after ≡ before
AreMade (p ∷ ps) before after = (between : Sinks) × IsMade p before between × AreMade ps between after

-- the first of these puts were made, the next one failed, and it was the last
pub record AreCut (puts : List Put) (before after : Sinks) : Type 0 where
  pub made : List Put
  pub failed : Put
  pub left : List Put
  pub puts_are : puts ≡ made ++ failed ∷ left
  pub between : Sinks
  pub are_made : AreMade made before between
  pub is_failed : IsFailed failed between after

-- the status was given and all the puts were made; or a put failed, with status 6
pub data Gives (due : Answer) (status : ℕ) (before after : Sinks) : Type 0 where
  gives_whole : status ≡ due.status → AreMade due.puts before after → Gives due status before after
  gives_part : status ≡ 6 → AreCut due.puts before after → Gives due status before after

-- some answer is due, and it is given
abbrev pub GivesDue : (Answer → Type 0) → ℕ → Sinks → Sinks → Type 0
GivesDue IsDue status before after = (due : Answer) × IsDue due × Gives due status before after

-- the same of an answer that puts lines on note alone, whatever stands on out
abbrev pub GivesNotes : Answer → ℕ → SinkState → SinkState → Type 0
GivesNotes due status note note_now = (out : SinkState) → Gives due status (sinks out note) (sinks out note_now)

-- some answer is due, and it is given on note alone, whatever stands on out
abbrev pub GivesNotesDue : (Answer → Type 0) → ℕ → SinkState → SinkState → Type 0
GivesNotesDue IsDue status note note_now =
    (out : SinkState) → GivesDue IsDue status (sinks out note) (sinks out note_now)

-- these puts were made on note, whatever stands on out
abbrev pub AreNoted : List Put → SinkState → SinkState → Type 0
AreNoted puts note note_now = (out : SinkState) → AreMade puts (sinks out note) (sinks out note_now)

-- the first of these puts were made on note and the next one failed, whatever stands on out
abbrev pub AreNotedInPart : List Put → SinkState → SinkState → Type 0
AreNotedInPart puts note note_now = (out : SinkState) → AreCut puts (sinks out note) (sinks out note_now)

-- the stop tells this line with this status, or memory was wanting
abbrev pub TellsOrWants : Stop → ℕ → List ℕ → Type 0
TellsOrWants stop status line = (stop_answer stop ≡ told status line) ⊎ (stop_answer stop ≡ told 7 memory_line)

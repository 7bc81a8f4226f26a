-- What is due for an image: behind the line with its budget, where a machine is opened on it, and for its run.
use Rattle.std.specs.Prelude.{◌≡◌, ◌≢◌, ◌⊎◌, ℕ, ◌∷◌, ◌++◌, Some}
use Rattle.dae_base.specs.declared.Depths.{Depths}
use Rattle.dae_base.specs.declared.Queue.{Queue}
use Rattle.dae_base.specs.Budgets.{depth, first_below, Reaches}
use Rattle.dae_image.specs.declared.Image.{Image}
use Rattle.dae_machine.specs.Machine.{Setup, State}
use Rattle.dae_machine.specs.Opened.{opened, setup_of}
use Rattle.dae_machine.specs.Schedules.{word_of}
use Rattle.dae_machine.specs.declared.End.TheVariants.{Ended, Trapped}
use Rattle.dae_cli_drive.specs.declared.driving.Driven.{Driven}
use Rattle.dae_cli_drive.specs.declared.driving.Driven.TheVariants.{Final, Stuck, Spent, SinkFailed}
use Rattle.dae_cli_options.specs.declared.options.RunOptions.{RunOptions}
use Rattle.dae_cli_drive.specs.Turns.{Rested, RunsTurns, puts_of_turns}
use Rattle.dae_cli_drive.specs.Lines.{memory_line}
use Rattle.dae_cli_drive.specs.Notes.{budget_line, depth_line, end_puts}
use Rattle.dae_io.specs.Sinks.{IsPutFailed, SinkState}
use Rattle.dae_cli_drive.specs.Puts.{Answer, GivesNotes, Note, answer, told}

-- the status of how a machine came out
abbrev pub status_of : Driven → ℕ
status_of (Final (Ended status)) = 0
status_of (Final (Trapped code)) = 1
status_of Stuck = 9
status_of Spent = 3
status_of SinkFailed = 6

-- what is due for a machine that makes the turns of its schedule up to the stated number of steps: a put for each piece
-- that it prints, and then the lines on how it came out
pub data DueOfRun (setup : Setup) (start : State) (o : RunOptions) : Answer → Type 0 where
  due_end : (end : State) (how : Driven) → RunsTurns setup start (word_of o.schedule) o.steps end → Rested how o.steps setup end →
      DueOfRun setup start o (answer (status_of how) (puts_of_turns setup start (word_of o.schedule) o.steps ++ end_puts how setup end o.show))

-- what is due behind the line with a budget where no machine is opened: a depth is below the budget, the first of which is told;
-- or memory was wanting
pub data DueOfNoMachine (image : Image) (d : Depths) : Answer → Type 0 where
  due_depth : (queue : Queue) → first_below d image.budget ≡ Some queue
      → DueOfNoMachine image d
      (told 4 (depth_line queue (depth queue image.budget) (depth queue d)))
  due_memory_for_machine : Reaches d image.budget → DueOfNoMachine image d (told 7 memory_line)

-- what is due where something is opened on an image: no depth is below the budget, and this is due; or it isn't opened
pub data WhenOpened (image : Image) (d : Depths) (Due : Answer → Type 0) : Answer → Type 0 where
  due_opened : {a : Answer} → Reaches d image.budget → Due a → WhenOpened image d Due a
  due_not_opened : {a : Answer} → DueOfNoMachine image d a → WhenOpened image d Due a

-- the line with an image's budget, and then what is due behind it; or memory was wanting before
pub data BehindBudget (image : Image) (Due : Answer → Type 0) : Answer → Type 0 where
  due_budget : {a : Answer} → Due a
      → BehindBudget image Due (answer a.status (Note (budget_line image.budget) ∷ a.puts))
  due_memory_for_lines : BehindBudget image Due (told 7 memory_line)

-- what is due for an image that is run
abbrev pub DueOfImage : Image → RunOptions → Answer → Type 0
DueOfImage image o =
    BehindBudget image
    (WhenOpened image o.depths (DueOfRun (setup_of image o.depths) (opened image) o))

-- the line with an image's budget wasn't put: its put failed; or memory was wanting, and that is told
abbrev pub IsNotBudgeted : Image → (status : ℕ) → (note note_now : SinkState) → Type 0
IsNotBudgeted image status note note_now =
    ((status ≡ 6) × IsPutFailed (budget_line image.budget) note note_now)
    ⊎ GivesNotes (told 7 memory_line) status note note_now

-- at most one answer of these is due, but for want of memory
abbrev pub IsSingle : (Answer → Type 0) → Type 0
IsSingle Due = (a b : Answer) → Due a → Due b → a.status ≢ 7 → b.status ≢ 7 → a ≡ b

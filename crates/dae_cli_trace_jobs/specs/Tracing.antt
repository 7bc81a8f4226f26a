-- What is due where the steps of an image are traced.
use Rattle.std.specs.Prelude.{◌≡◌, ℕ, ◌-◌, ◌≤◌, suc, List, [], ◌∷◌, ◌++◌, length, map, None}
use Rattle.dae_io.specs.Sinks.{SinkState, IsPutFailed}
use Rattle.dae_image.specs.declared.Image.{Image}
use Rattle.dae_machine.specs.Machine.{Setup, State}
use Rattle.dae_machine.specs.Opened.{opened, setup_of}
use Rattle.dae_machine.specs.Schedules.{scheduled, word_of}
use Rattle.dae_trace.specs.Traces.{lines}
use Rattle.dae_cli_options.specs.declared.options.RunOptions.{RunOptions}
use Rattle.dae_cli_drive.specs.declared.driving.Driven.{Driven}
use Rattle.dae_cli_drive.specs.declared.driving.Driven.TheVariants.{Final, Stuck, Spent, SinkFailed}
use Rattle.dae_cli_drive.specs.Images.{BehindBudget, WhenOpened, status_of}
use Rattle.dae_cli_drive.specs.Notes.{end_puts}
use Rattle.dae_cli_drive.specs.Pieces.{unprinted}
use Rattle.dae_cli_drive.specs.Puts.{Answer, Out, Put, answer}
use Rattle.dae_cli_drive.specs.Turns.{AreOut, Rested, RunsTurns}

-- the lines of so many turns by these words, each in a put of its own
abbrev pub puts_of_lines : Setup → State → (ℕ → ℕ) → ℕ → List Put
puts_of_lines setup s words k = map Out (lines setup s (scheduled setup s words k))

-- what is due for a machine whose turns are traced up to the stated number of steps: a put for each step's line, and then the
-- lines on how it came out
pub data DueOfLines (setup : Setup) (start : State) (o : RunOptions) : Answer → Type 0 where
  due_traced : (end : State) (how : Driven) → RunsTurns setup start (word_of o.schedule) o.steps end
      → Rested how o.steps setup end
      → DueOfLines setup start o (answer (status_of how)
      (puts_of_lines setup start (word_of o.schedule) o.steps ++ end_puts how setup end None))

-- what is due for an image whose steps are traced
abbrev pub DueOfTracing : Image → RunOptions → Answer → Type 0
DueOfTracing image o =
    BehindBudget image
    (WhenOpened image o.depths (DueOfLines (setup_of image o.depths) (opened image) o))

-- ---- a machine whose turns are traced

-- all turns up to the stated number of steps were made, and the line of each step was put
pub record TracesAll (how : Driven) (setup : Setup) (s now : State) (o : RunOptions)
    (out out_now : SinkState) : Type 0 where
  pub last : State
  pub made : RunsTurns setup s (word_of o.schedule) (o.steps - s.steps) last
  pub kept : now ≡ unprinted last
  pub rested : Rested how o.steps setup last
  pub put : AreOut (puts_of_lines setup s (word_of o.schedule) (o.steps - s.steps)) out out_now

-- each turn so far was a step, and the put of the last one's line failed
pub record TracesInPart (setup : Setup) (s : State) (o : RunOptions) (out out_now : SinkState)
    : Type 0 where
  pub last : State
  pub turns : ℕ
  pub few : suc turns ≤ o.steps - s.steps
  pub made : RunsTurns setup s (word_of o.schedule) (suc turns) last
  pub all : length (scheduled setup s (word_of o.schedule) (suc turns)) ≡ suc turns
  pub text : List ℕ
  pub lines_are : puts_of_lines setup s (word_of o.schedule) (suc turns)
      ≡ puts_of_lines setup s (word_of o.schedule) turns ++ Out text ∷ []
  pub between : SinkState
  pub put : AreOut (puts_of_lines setup s (word_of o.schedule) turns) out between
  pub put_part : IsPutFailed text between out_now

abbrev pub TracesTo : Driven → Setup → State → State → RunOptions → SinkState → SinkState → Type 0
TracesTo SinkFailed setup s now o out out_now = TracesInPart setup s o out out_now
TracesTo (Final end) setup s now o out out_now =
    TracesAll (Final end) setup s now o out out_now
TracesTo Stuck setup s now o out out_now = TracesAll Stuck setup s now o out out_now
TracesTo Spent setup s now o out out_now = TracesAll Spent setup s now o out out_now

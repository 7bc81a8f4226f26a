-- What the turns of a schedule come to on a machine whose prints are put out.
use Rattle.std.specs.Prelude.{◌≡◌, ℕ, ◌+◌, ◌-◌, ◌≤◌, min, suc, List, [], ◌∷◌, ◌++◌, map, length, Some}
use Rattle.dae_io.specs.Sinks.{SinkState, IsPutFailed}
use Rattle.dae_machine.specs.declared.Pick.{Pick}
use Rattle.dae_machine.specs.Machine.{Setup, State, step, Runs, IsFinal, IsStuck}
use Rattle.dae_machine.specs.Rests.{end_of}
use Rattle.dae_machine.specs.Schedules.{Standing, coming, scheduled}
use Rattle.dae_cli_drive.specs.declared.driving.Driven.{Driven}
use Rattle.dae_cli_drive.specs.declared.driving.Driven.TheVariants.{Final, Stuck, Spent, SinkFailed}
use Rattle.dae_cli_drive.specs.Pieces.{pieces, unprinted}
use Rattle.dae_cli_drive.specs.Puts.{Put, Out, sinks, AreMade}

-- so many turns by these words lead to this state, or fewer where no pick is enabled any more
abbrev pub RunsTurns : Setup → State → (ℕ → ℕ) → ℕ → State → Type 0
RunsTurns setup s words k t = Runs setup s (scheduled setup s words k) t

-- what the steps of so many turns print, each piece in a put of its own
abbrev pub puts_of_turns : Setup → State → (ℕ → ℕ) → ℕ → List Put
puts_of_turns setup s words k = map Out (pieces setup s (scheduled setup s words k))

-- these puts were made on out, whatever stands on note
abbrev pub AreOut : List Put → SinkState → SinkState → Type 0
AreOut puts out out_now = (note : SinkState) → AreMade puts (sinks out note) (sinks out_now note)

-- how the state that was reached rests, or that all the stated steps were taken
abbrev pub Rested : Driven → ℕ → Setup → State → Type 0
Rested (Final end) steps setup t = IsFinal setup t × (end_of t.e.halt ≡ Some end)
Rested Stuck steps setup t = IsStuck setup t
Rested Spent steps setup t = (t.steps ≡ steps) × ((p : Pick) × (u : State) × (step setup t p ≡ Some u))
Rested SinkFailed steps setup t = ⊥

-- the words stand so many turns later
abbrev pub StandsLater : ℕ → Standing → Standing → Type 0
StandsLater turns before after = (i : ℕ) → coming after i ≡ coming before (i + turns)

-- how many words are taken for so many steps, of at most so many turns: one for each step, and one more exactly where the
-- machine rests before the turns are spent
abbrev pub words_taken : List Pick → ℕ → ℕ
words_taken picks turns = min (suc (length picks)) turns

-- all turns up to the stated number of steps were made, and all that they printed was put out, a put for each piece
pub record DrivesOn (result : Driven) (steps : ℕ) (setup : Setup) (s now : State) (words words_now : Standing) (out out_now : SinkState) : Type 0 where
  pub last : State
  pub made : RunsTurns setup s (coming words) (steps - s.steps) last
  pub kept : now ≡ unprinted last
  pub rested : Rested result steps setup last
  pub put : AreOut (puts_of_turns setup s (coming words) (steps - s.steps)) out out_now
  pub stands : StandsLater (words_taken (scheduled setup s (coming words) (steps - s.steps)) (steps - s.steps)) words words_now

-- each turn so far was a step, and the last of them printed a piece whose put failed
pub record StopsAt (steps : ℕ) (setup : Setup) (s now : State) (words words_now : Standing) (out out_now : SinkState) : Type 0 where
  pub last : State
  pub turns : ℕ
  pub few : suc turns ≤ steps - s.steps
  pub made : RunsTurns setup s (coming words) (suc turns) last
  pub all : length (scheduled setup s (coming words) (suc turns)) ≡ suc turns
  pub kept : now ≡ unprinted last
  pub piece : List ℕ
  pub prints : puts_of_turns setup s (coming words) (suc turns) ≡ puts_of_turns setup s (coming words) turns ++ Out piece ∷ []
  pub between : SinkState
  pub put : AreOut (puts_of_turns setup s (coming words) turns) out between
  pub put_part : IsPutFailed piece between out_now
  pub stands : StandsLater (suc turns) words words_now

abbrev pub Drives : Driven → ℕ → Setup → State → State → Standing → Standing → SinkState → SinkState → Type 0
Drives SinkFailed steps setup s now words words_now out out_now = StopsAt steps setup s now words words_now out out_now
Drives (Final end) steps setup s now words words_now out out_now = DrivesOn (Final end) steps setup s now words words_now out out_now
Drives Stuck steps setup s now words words_now out out_now = DrivesOn Stuck steps setup s now words words_now out out_now
Drives Spent steps setup s now words words_now out out_now = DrivesOn Spent steps setup s now words words_now out out_now

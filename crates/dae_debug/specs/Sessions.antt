-- A session: what it replies to a command, and the session after it.
use Rattle.std.specs.Prelude.{◌≡◌, ℕ, suc, ◌+◌, ◌/◌, ◌%◌, ◌^◌, ◌<◌, ◌≤◌, Bool, true, false, not, ◌&&◌, ◌==◌, List, [], ◌∷◌, codes, Option, Some, None, is_some, refl}
use Rattle.dae_base.specs.declared.Depths.{Depths}
use Rattle.dae_base.specs.declared.Side.{Side}
use Rattle.dae_base.specs.declared.Side.TheVariants.{A, E}
use Rattle.dae_image.specs.declared.Image.{Image}
use Rattle.dae_encode.specs.Processor.{Processor}
use Rattle.dae_core.specs.declared.CoreAnswer.{CoreAnswer}
use Rattle.dae_core.specs.declared.CoreAnswer.TheVariants.{Did, Waits, Halted, Faulted}
use Rattle.dae_machine.specs.declared.Pick.{Pick}
use Rattle.dae_machine.specs.declared.Pick.TheVariants.{A as MoveA, E as MoveE, Fill, Drain}
use Rattle.dae_machine.specs.Answers.{processor}
use Rattle.dae_machine.specs.Held.{HeldMachine}
use Rattle.dae_machine.specs.Machine.{State, IsQuiet, step}
use Rattle.dae_machine.specs.Opened.{opened, setup_of}
use Rattle.dae_machine.specs.Tries.{Stepped}
use Rattle.dae_machine.specs.Turns.{pick_of}
use Rattle.dae_trace.specs.Lines.{line}
use Rattle.dae_cli_drive.specs.Notes.{shown_line}
use Rattle.dae_debug_commands.specs.declared.DebugCommand.{DebugCommand}
use Rattle.dae_debug_commands.specs.declared.DebugCommand.TheVariants.{Step, Go, Break, Registers, Queues, Stores, Memory, Quit}
use Rattle.dae_debug.specs.Breaks.{HeldBreaks, AddsBreak, has_break, no_breaks}
use Rattle.dae_debug.specs.Texts.{queues_text, registers_text, stores_text, taken_text}

-- a machine, which keeps no print, and the breakpoints that were set
pub record HeldSession : Type 0 where
  pub machine : HeldMachine
  pub breaks : HeldBreaks

abbrev pub session : HeldMachine → HeldBreaks → HeldSession
session machine breaks = record { machine = machine; breaks = breaks }

-- a session on an image before its first command, with queues of these depths
abbrev pub opened_session : Image → Depths → HeldSession
opened_session image depths =
    session (record { setup = setup_of image depths; state = opened image; silent = refl }) (no_breaks image)

-- a session takes at most so many steps
abbrev pub most_steps : ℕ
most_steps = 1000000000000

-- ---- breakpoints

-- a processor has no step since it has halted
abbrev pub is_halt : CoreAnswer → Bool
is_halt (Did piece) = false
is_halt (Waits queue) = false
is_halt Halted = true
is_halt (Faulted fault) = false

-- the processor's next word is that of a breakpoint. A halted one has no next word
abbrev pub is_at_break : HeldBreaks → Side → Processor → Bool
is_at_break breaks side p =
    not (is_some p.halt) && (p.counter % 4 == 0 && has_break breaks side (p.counter / 4))

-- the step of this pick, which led to this state, brought its processor to a breakpoint
abbrev pub reaches_break : HeldBreaks → Pick → State → Bool
reaches_break breaks MoveA t = is_at_break breaks A t.a
reaches_break breaks MoveE t = is_at_break breaks E t.e
reaches_break breaks (Fill side number) t = false
reaches_break breaks Drain t = false

-- ---- turns by the round

-- the turn whose word is the number of steps that were taken
pub record TakesTurn (m : HeldMachine) (pick : Pick) (n : HeldMachine) : Type 0 where
  pub few : m.state.steps < most_steps
  pub picks : pick_of m.setup m.state (m.state.steps % 2 ^ 32) ≡ Some pick
  pub piece : List ℕ
  pub steps : Stepped pick piece m n

-- so many turns were taken, of which none brought a processor to a breakpoint
pub data GoesOn (breaks : HeldBreaks) (start : HeldMachine) : ℕ → HeldMachine → Type 0 where
  no_turn : GoesOn breaks start 0 start
  one_turn : {k : ℕ} {m n : HeldMachine} {pick : Pick} → GoesOn breaks start k m
      → TakesTurn m pick n → reaches_break breaks pick n.state ≡ false
      → GoesOn breaks start (suc k) n

-- turns were taken: as many as asked for, up to the most steps, until no pick was enabled, or until one brought its processor to a
-- breakpoint
pub data Went (breaks : HeldBreaks) (turns : ℕ) (start end : HeldMachine) : Type 0 where
  took_all : GoesOn breaks start turns end → Went breaks turns start end
  took_most : {k : ℕ} → k < turns → GoesOn breaks start k end → most_steps ≤ end.state.steps
      → Went breaks turns start end
  rested : {k : ℕ} → k < turns → GoesOn breaks start k end → IsQuiet end.setup end.state
      → Went breaks turns start end
  reached : {k : ℕ} {m : HeldMachine} {pick : Pick} → k < turns → GoesOn breaks start k m
      → TakesTurn m pick end → reaches_break breaks pick end.state ≡ true
      → Went breaks turns start end

-- ---- replies

abbrev pub spent_text : List ℕ
spent_text = codes "spent\n"

-- to a step: the line of the pick, which is enabled; or it isn't; or the most steps were taken, and then there is no further one
pub data StepsTo (s : HeldSession) (pick : Pick) : List ℕ → HeldSession → Type 0 where
  steps : {piece : List ℕ} {n : HeldMachine} → s.machine.state.steps < most_steps
      → Stepped pick piece s.machine n
      → StepsTo s pick (line s.machine.state pick) (session n s.breaks)
  steps_not : s.machine.state.steps < most_steps
      → step s.machine.setup s.machine.state pick ≡ None
      → StepsTo s pick (codes "not enabled\n") s
  no_step_left : most_steps ≤ s.machine.state.steps → StepsTo s pick spent_text s

-- to a number of turns: how many steps there are in all
pub data GoesTo (s : HeldSession) (turns : ℕ) : List ℕ → HeldSession → Type 0 where
  goes : {n : HeldMachine} → s.machine.state.steps < most_steps
      → Went s.breaks turns s.machine n
      → GoesTo s turns (taken_text n.state.steps) (session n s.breaks)
  no_turn_left : most_steps ≤ s.machine.state.steps → GoesTo s turns spent_text s

-- the text is the reply to a command, and the second session is the first one after it. There is none to the end of a script
abbrev pub Answers : DebugCommand → HeldSession → List ℕ → HeldSession → Type 0
Answers (Step pick) s text t = StepsTo s pick text t
Answers (Go turns) s text t = GoesTo s turns text t
Answers (Break place) s text t =
    (text ≡ codes "ok\n") × (t.machine ≡ s.machine) × AddsBreak place s.breaks t.breaks
Answers (Registers side) s text t =
    (text ≡ registers_text (processor side s.machine.state)) × (t ≡ s)
Answers Queues s text t = (text ≡ queues_text s.machine.state.queues) × (t ≡ s)
Answers Stores s text t = (text ≡ stores_text s.machine.state.queues) × (t ≡ s)
Answers (Memory shown) s text t = (text ≡ shown_line shown s.machine.state.memory) × (t ≡ s)
Answers Quit s text t = ⊥

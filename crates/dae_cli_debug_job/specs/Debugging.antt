-- What is due for a session by the commands of a script.
use Rattle.std.specs.Prelude.{◌≡◌, ℕ, List, ◌++◌, map, Option, None, Some, codes}
use Rattle.dae_base.specs.declared.Depths.{Depths}
use Rattle.dae_io.specs.Sinks.{SinkState}
use Rattle.dae_image.specs.declared.Image.{Image}
use Rattle.dae_debug_commands.specs.declared.DebugCommand.{DebugCommand}
use Rattle.dae_debug_commands.specs.Scripts.{AreRead, lines_of}
use Rattle.dae_debug.specs.Scripts.{Replies}
use Rattle.dae_debug.specs.Sessions.{Answers, HeldSession, opened_session}
use Rattle.dae_cli_drive.specs.declared.driving.Driven.{Driven}
use Rattle.dae_cli_drive.specs.Images.{BehindBudget, WhenOpened, status_of}
use Rattle.dae_cli_drive.specs.Notes.{end_puts}
use Rattle.dae_cli_drive.specs.Puts.{Answer, AreCut, Out, answer, sinks}
use Rattle.dae_cli_drive.specs.Turns.{AreOut, Rested}

-- a script has at most so many bytes
abbrev pub most_script : ℕ
most_script = 1048576

abbrev pub long_line : List ℕ
long_line = codes "refused script-too-long\n"

-- how the machine of a session rests, or that it can go on
abbrev pub Stands : Driven → HeldSession → Type 0
Stands how s = Rested how s.machine.state.steps s.machine.setup s.machine.state

-- what is due for a session by these commands: a put for each reply, and then the lines on how its machine stands
pub data DueOfCommands (start : HeldSession) (commands : List (Option DebugCommand))
    : Answer → Type 0 where
  due_replies : (texts : List (List ℕ)) (end : HeldSession) (how : Driven)
      → Replies start commands texts end → Stands how end
      → DueOfCommands start commands (answer (status_of how)
      (map Out texts ++ end_puts how end.machine.setup end.machine.state None))

-- what is due for a session on an image by a script: for the commands of its lines
pub data DueOfScript (image : Image) (d : Depths) (script : List ℕ) : Answer → Type 0 where
  due_script : {a : Answer} (commands : List (Option DebugCommand))
      → AreRead (lines_of script) commands
      → DueOfCommands (opened_session image d) commands a → DueOfScript image d script a

-- what is due for a script on an image, with queues of these depths
abbrev pub DueOfDebugging : Image → Depths → List ℕ → Answer → Type 0
DueOfDebugging image d script =
    BehindBudget image (WhenOpened image d (DueOfScript image d script))

-- ---- a session that is served

-- before its first command
abbrev pub IsOpened : HeldSession → Type 0
IsOpened s = (image : Image) × (d : Depths) × (s ≡ opened_session image d)

-- the reply to a line, by the command that it spells, if it spells one
abbrev pub RepliesTo : Option DebugCommand → HeldSession → List ℕ → HeldSession → Type 0
RepliesTo None s text t = (text ≡ codes "bad command\n") × (t ≡ s)
RepliesTo (Some command) s text t = Answers command s text t

-- all replies were put, and the machine stands so
pub record ServesAll (how : Driven) (commands : List (Option DebugCommand)) (start now : HeldSession)
    (out out_now : SinkState) : Type 0 where
  pub texts : List (List ℕ)
  pub replied : Replies start commands texts now
  pub put : AreOut (map Out texts) out out_now
  pub stands : Stands how now

-- the replies were put up to one whose put failed
pub record ServesInPart (commands : List (Option DebugCommand)) (start : HeldSession)
    (out out_now : SinkState) : Type 0 where
  pub texts : List (List ℕ)
  pub end : HeldSession
  pub how : Driven
  pub replied : Replies start commands texts end
  pub stands : Stands how end
  pub cut : (note : SinkState) → AreCut (map Out texts) (sinks out note) (sinks out_now note)

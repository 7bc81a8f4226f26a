-- The replies to the commands of a script.
use Rattle.std.specs.Prelude.{◌≢◌, ℕ, List, [], ◌∷◌, codes, Option, Some, None}
use Rattle.dae_debug_commands.specs.declared.DebugCommand.{DebugCommand}
use Rattle.dae_debug_commands.specs.declared.DebugCommand.TheVariants.{Quit}
use Rattle.dae_debug.specs.Sessions.{HeldSession, Answers}

-- the replies to the commands of lines, and the session after them: up to the end of the script, or to the command that ends it. A
-- line that spells no command changes nothing
pub data Replies : HeldSession → List (Option DebugCommand) → List (List ℕ) → HeldSession → Type 0 where
  no_line : {s : HeldSession} → Replies s [] [] s
  quits : {s : HeldSession} {later : List (Option DebugCommand)} → Replies s (Some Quit ∷ later) [] s
  no_command : {s t : HeldSession} {later : List (Option DebugCommand)} {texts : List (List ℕ)}
      → Replies s later texts t
      → Replies s (None ∷ later) (codes "bad command\n" ∷ texts) t
  replies : {s t u : HeldSession} {command : DebugCommand} {later : List (Option DebugCommand)}
      {text : List ℕ} {texts : List (List ℕ)} → Answers command s text t
      → Replies t later texts u → Replies s (Some command ∷ later) (text ∷ texts) u

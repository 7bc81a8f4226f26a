-- A script: its lines, and the commands that they spell.
use Rattle.std.specs.Prelude.{ℕ, ◌==◌, if◌then◌else◌, List, [], ◌∷◌, Option}
use Rattle.std.specs.List.{AllZip}
use Rattle.dae_base.specs.Ones.{IsTheOne}
use Rattle.dae_debug_commands.specs.declared.DebugCommand.{DebugCommand}
use Rattle.dae_debug_commands.specs.Commands.{SpellsCommand}

-- a byte in front of the first line
abbrev pub in_front : ℕ → List (List ℕ) → List (List ℕ)
in_front byte [] = (byte ∷ []) ∷ []
in_front byte (line ∷ lines) = (byte ∷ line) ∷ lines

-- the lines without their line feeds. The last one may lack its own
abbrev pub lines_of : List ℕ → List (List ℕ)
lines_of [] = []
lines_of (byte ∷ bytes) = if byte == 10 then [] ∷ lines_of bytes else in_front byte (lines_of bytes)

-- for each line the command that it spells, or None where it spells none
abbrev pub AreRead : (lines : List (List ℕ)) → List (Option DebugCommand) → Type 0
AreRead lines commands = AllZip (λ line found. IsTheOne (SpellsCommand line) found) lines commands

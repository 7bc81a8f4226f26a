-- The one spelling of each command.
use Rattle.std.specs.Prelude.{◌≡◌, ℕ, ◌<◌, ◌^◌, List, ◌++◌, codes, decimal}
use Rattle.dae_base.specs.declared.Side.{Side}
use Rattle.dae_machine.specs.declared.Pick.{Pick}
use Rattle.dae_machine.specs.declared.Pick.TheVariants.{A, E, Fill, Drain}
use Rattle.dae_trace.specs.Lines.{side_text}
use Rattle.dae_cli_options.specs.Ranges.{IsFromTo}
use Rattle.dae_cli_options.specs.declared.options.Shown.{Shown}
use Rattle.dae_debug_commands.specs.declared.Breakpoint.{Breakpoint}
use Rattle.dae_debug_commands.specs.declared.DebugCommand.{DebugCommand}
use Rattle.dae_debug_commands.specs.declared.DebugCommand.TheVariants.{Step, Go, Break, Registers, Queues, Stores, Memory, Quit}

-- ---- texts: words and decimal numbers, with one blank between them

abbrev pub pick_text : Pick → List ℕ
pick_text A = codes "A"
pick_text E = codes "E"
pick_text (Fill side number) = codes "F " ++ (side_text side ++ (codes " " ++ decimal number))
pick_text Drain = codes "D"

-- two numbers
abbrev pub pair_text : ℕ → ℕ → List ℕ
pair_text first second = decimal first ++ (codes " " ++ decimal second)

abbrev pub command_text : DebugCommand → List ℕ
command_text (Step pick) = codes "step " ++ pick_text pick
command_text (Go turns) = codes "go " ++ decimal turns
command_text (Break at) = codes "break " ++ (side_text at.side ++ (codes " " ++ pair_text at.file at.line))
command_text (Registers side) = codes "regs " ++ side_text side
command_text Queues = codes "queues"
command_text Stores = codes "stores"
command_text (Memory shown) = codes "memory " ++ pair_text shown.address shown.count
command_text Quit = codes "quit"

-- ---- ranges

-- a slot's number is below 2^40
abbrev pub IsPick : Pick → Type 0
IsPick (Fill side number) = number < 2 ^ 40
IsPick _ = Unit {0}

-- 1 to 1,000,000 turns, 1 to 64 bytes, and every other number is below 2^32
abbrev pub IsInRange : DebugCommand → Type 0
IsInRange (Step pick) = IsPick pick
IsInRange (Go turns) = IsFromTo 1 1000000 turns
IsInRange (Break at) = (at.file < 2 ^ 32) × (at.line < 2 ^ 32)
IsInRange (Memory shown) = (shown.address < 2 ^ 32) × IsFromTo 1 64 shown.count
IsInRange _ = Unit {0}

-- the line is the spelling of this command
pub record SpellsCommand (line : List ℕ) (command : DebugCommand) : Type 0 where
  pub text_is : line ≡ command_text command
  pub in_range : IsInRange command

-- ---- the parts of a line, as they are read

-- two numbers, each in its range
pub record SpellsPair (most_first least most : ℕ) (text : List ℕ) (pair : ℕ × ℕ) : Type 0 where
  pub text_is : text ≡ pair_text pair.0 pair.1
  pub first : IsFromTo 0 most_first pair.0
  pub second : IsFromTo least most pair.1

-- what stands behind the word of a command
abbrev pub SpellsPick : List ℕ → Pick → Type 0
SpellsPick text pick = (text ≡ pick_text pick) × IsPick pick

abbrev pub SpellsBreakOn : Side → List ℕ → Breakpoint → Type 0
SpellsBreakOn side text at =
    (at.side ≡ side) × (text ≡ pair_text at.file at.line) × (at.file < 2 ^ 32) × (at.line < 2 ^ 32)

abbrev pub SpellsBreak : List ℕ → Breakpoint → Type 0
SpellsBreak text at =
    (text ≡ side_text at.side ++ (codes " " ++ pair_text at.file at.line))
    × (at.file < 2 ^ 32) × (at.line < 2 ^ 32)

abbrev pub SpellsShown : List ℕ → Shown → Type 0
SpellsShown text shown =
    (text ≡ pair_text shown.address shown.count) × (shown.address < 2 ^ 32)
    × IsFromTo 1 64 shown.count

-- The lines of a text as what they say.
use Rattle.std.specs.Prelude.{◌≡◌, ℕ, ℤ, List, [], ◌∷◌, Option, Some, None}
use Rattle.std.specs.Str.{IsAscii}
use Rattle.dae_asm_lines.specs.declared.LineItem as code
use Rattle.dae_asm_lines.specs.declared.LineItem.TheVariants as codes
use Rattle.dae_asm_lines.specs.declared.Line as code_line
use Rattle.dae_asm_lines.specs.declared.Line.TheVariants as code_lines
use Rattle.dae_asm_lines.specs.declared.Operands.{Operands}
use Rattle.dae_asm_lines.specs.declared.Operands.TheVariants.{Registers, Immediate, Based, Branch, Upper, Jump, Alone}
use Rattle.dae_asm_lines.specs.declared.JumpTarget as code_target
use Rattle.dae_asm_lines.specs.Tokens.{LineToken, Word, Number, Sign, Other, tokens_of, before_comment}
use Rattle.dae_asm_lines.specs.Targets.{JumpTarget, target_seen}
use Rattle.dae_asm_lines.specs.Items.{LineItem, Budget, Memory, Calls, Private, Entry, Code, Data, Label, Instruction, Plain, Bytes, Mark, Name, Says}

-- ---- what code holds of an item

abbrev pub operands_seen : Operands code_target.JumpTarget → Operands JumpTarget
operands_seen (Registers a b c) = Registers a b c
operands_seen (Immediate a b n) = Immediate a b n
operands_seen (Based a n b) = Based a n b
operands_seen (Branch a b t) = Branch a b (target_seen t)
operands_seen (Upper a n) = Upper a n
operands_seen (Jump a t) = Jump a (target_seen t)
operands_seen Alone = Alone

-- the numbers among tokens
abbrev pub numbers_in : List LineToken → List ℤ
numbers_in [] = []
numbers_in (Word w ∷ ts) = numbers_in ts
numbers_in (Number z ∷ ts) = z ∷ numbers_in ts
numbers_in (Sign b ∷ ts) = numbers_in ts
numbers_in (Other ∷ ts) = numbers_in ts

abbrev pub seen : code.LineItem → LineItem
seen (codes.Budget ns) = Budget ns
seen (codes.Memory n) = Memory n
seen (codes.Calls n) = Calls n
seen (codes.Private a e) = Private a e
seen (codes.Entry a e) = Entry (target_seen a) (target_seen e)
seen (codes.Code side) = Code side
seen codes.Data = Data
seen (codes.Label name) = Label name.now
seen (codes.Instruction i operands) = Instruction i (operands_seen operands)
seen (codes.Plain n) = Plain n
seen (codes.Bytes rest) = Bytes (numbers_in (tokens_of rest.now))
seen (codes.Mark side word file line) = Mark side word file line
seen (codes.Name rest) = Name (numbers_in (tokens_of rest.now))

-- ---- lines

-- a line without its line feed, which is ASCII, up to its comment
abbrev pub spoken : List ℕ → List LineToken
spoken line = tokens_of (before_comment line)

-- no tokens, or those of an item
pub data IsLine (line : List ℕ) : Option LineItem → Type 0 where
  empty : IsAscii line → spoken line ≡ [] → IsLine line None
  says : (i : LineItem) → IsAscii line → Says (spoken line) i → IsLine line (Some i)

-- what code found of a line
abbrev pub IsFound : List ℕ → code_line.Line → Type 0
IsFound line code_lines.Empty = IsLine line None
IsFound line (code_lines.Says i) = IsLine line (Some (seen i))
IsFound line code_lines.Bad = (o : Option LineItem) → IsLine line o → ⊥

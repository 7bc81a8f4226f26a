-- What lines of data, marks and names say.
use Rattle.std.specs.Prelude.{◌≡◌, ℕ, ◌+◌, ◌<◌, ◌≤◌, ◌^◌, ℤ, pos, List, map, length, Option, Some, None, IsTrue, All}
use Rattle.std.specs.List.{flat_map}
use Rattle.dae_base.specs.declared.Side.{Side}
use Rattle.dae_base.specs.declared.Side.TheVariants.{A, E}
use Rattle.dae_image.specs.declared.LineMark.{LineMark}
use Rattle.dae_image.specs.Contents.{follows, is_name}
use Rattle.dae_asm_data.specs.declared.marks.TextCounts.{TextCounts}

-- numbers that are bytes
pub record AreBytes (zs : List ℤ) (bs : List ℕ) : Type 0 where
  pub said : zs ≡ map (λ b. pos b) bs
  pub small : All (λ b. b < 256) bs

-- ---- data

-- the number of a line, and the numbers that it says
abbrev pub NumberRow : Type 0
NumberRow = ℕ × List ℤ

-- the numbers of lines, one line after the other
abbrev pub numbers : List NumberRow → List ℤ
numbers rows = flat_map (λ r. r.1) rows

abbrev pub IsAtMost : ℕ → ℤ → Type 0
IsAtMost n z = (m : ℕ) × ((z ≡ pos m) × (n ≤ m))

-- the bytes of a line behind so many others, in a memory of so many bytes; data begin at address 16
pub record IsData (memory : ℤ) (before : ℕ) (zs : List ℤ) (bs : List ℕ) : Type 0 where
  pub bytes : AreBytes zs bs
  pub inside : IsAtMost (16 + before + length bs) memory

-- ---- marks

-- the number of a line; a side, a word, a file and a line of that file
abbrev pub MarkRow : Type 0
MarkRow = ℕ × Side × ℤ × ℤ × ℤ

-- the mark that a line says
pub record SaysMark (row : MarkRow) (m : LineMark) : Type 0 where
  pub side : row.1 ≡ m.side
  pub word : row.2 ≡ pos m.word
  pub file : row.3 ≡ pos m.file
  pub line : row.4 ≡ pos m.line

-- a mark behind that of the line before, if there is one
abbrev pub IsBehind : Option MarkRow → LineMark → Type 0
IsBehind None m = Unit {0}
IsBehind (Some row) m = (last : LineMark) × (SaysMark row last × IsTrue (follows (Some last) m))

abbrev pub words_on : TextCounts → Side → ℕ
words_on counts A = counts.words_a
words_on counts E = counts.words_e

-- a mark behind so many others: of a word of its side's code and of a file that has a name
pub record IsMark (counts : TextCounts) (before : ℕ) (last : Option MarkRow) (row : MarkRow)
    (m : LineMark) : Type 0 where
  pub said : SaysMark row m
  pub few : before < 262144
  pub behind : IsBehind last m
  pub inside : m.word < words_on counts m.side
  pub known : m.file < counts.names
  pub one : 1 ≤ m.line
  pub fits : m.line < 2 ^ 32

-- ---- names

-- from 1 to 4096 bytes of UTF-8
pub record SaysName (zs : List ℤ) (name : List ℕ) : Type 0 where
  pub bytes : AreBytes zs name
  pub text : IsTrue (is_name name)

-- a name behind so many others
pub record IsName (before : ℕ) (zs : List ℤ) (name : List ℕ) : Type 0 where
  pub said : SaysName zs name
  pub few : before < 1024

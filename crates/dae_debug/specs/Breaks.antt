-- The breakpoints of a session, as the words of code at which they stand.
use Rattle.std.specs.Prelude.{◌≡◌, ℕ, ◌<◌, Bool, true, false, ◌&&◌, ◌||◌, nat_eq, List, [], length, replicate, slice_index_or}
use Rattle.std.specs.List.{All, list_any}
use Rattle.dae_base.specs.declared.Side.{Side}
use Rattle.dae_base.specs.declared.Side.TheVariants.{A, E}
use Rattle.dae_image.specs.declared.Image.{Image}
use Rattle.dae_image.specs.declared.LineMark.{LineMark}
use Rattle.dae_debug_commands.specs.declared.Breakpoint.{Breakpoint}

-- the marks of an image, and for each word of the code of A and of E whether a breakpoint stands there
pub record HeldBreaks : Type 0 where
  pub marks : List LineMark
  pub a : List Bool
  pub e : List Bool

abbrev pub seen : List LineMark → List Bool → List Bool → HeldBreaks
seen marks a e = record { marks = marks; a = a; e = e }

abbrev pub words_of : Side → HeldBreaks → List Bool
words_of A breaks = breaks.a
words_of E breaks = breaks.e

-- each mark is that of a word of its side's code
abbrev pub AreInside : HeldBreaks → Type 0
AreInside breaks = All (λ mark. mark.word < length (words_of mark.side breaks)) breaks.marks

abbrev pub no_breaks : Image → HeldBreaks
no_breaks image =
    seen image.lines (replicate (length image.code_a) false) (replicate (length image.code_e) false)

-- a breakpoint stands at this word of a side's code
abbrev pub has_break : HeldBreaks → Side → ℕ → Bool
has_break breaks side word = slice_index_or (words_of side breaks) word false

-- ---- one more

abbrev pub is_side : Side → Side → Bool
is_side A A = true
is_side A E = false
is_side E A = false
is_side E E = true

-- the mark has the side, the file and the line of a breakpoint
abbrev pub is_mark_of : Breakpoint → LineMark → Bool
is_mark_of place mark =
    is_side place.side mark.side && (nat_eq place.file mark.file && nat_eq place.line mark.line)

-- and it is that of this word
abbrev pub is_mark_at : Breakpoint → ℕ → LineMark → Bool
is_mark_at place word mark = is_mark_of place mark && nat_eq mark.word word

abbrev pub other : Side → Side
other A = E
other E = A

-- the breakpoint stands at each word that has a mark with its side, file and line, and all else stays
pub record AddsBreak (place : Breakpoint) (before after : HeldBreaks) : Type 0 where
  pub marks : after.marks ≡ before.marks
  pub long : length (words_of place.side after) ≡ length (words_of place.side before)
  pub words : (word : ℕ) → has_break after place.side word
      ≡ (has_break before place.side word || list_any (is_mark_at place word) before.marks)
  pub others : words_of (other place.side) after ≡ words_of (other place.side) before

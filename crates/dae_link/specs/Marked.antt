-- Marks of lines. A mark is of a word at which the code of an action begins, and it names the line that the action stands on.
use Rattle.std.specs.Prelude.{◌≡◌, ◌⊎◌, ℕ, ◌-◌, ◌^◌, ◌≤◌, ◌<◌, Bool, true, false, not, ◌&&◌, ◌||◌, nat_eq, nat_lt, if◌then◌else◌, List, [], ◌∷◌, ◌++◌, length, take, slice_get, Option, Some, None}
use Rattle.std.specs.List.{All, last_or}
use Rattle.dae_base.specs.declared.Side.{Side}
use Rattle.dae_base.specs.declared.Side.TheVariants.{A, E}
use Rattle.dae_image.specs.Contents.{are_lines, follows}
use Rattle.dae_image.specs.declared.LineMark.{LineMark}
use Rattle.dae_image.specs.declared.header.ImageHeader.{ImageHeader}
use Rattle.dae_select.specs.declared.growing.PlacedWord.{PlacedWord}
use Rattle.dae_link.specs.declared.marks.MarkRoom.{MarkRoom}
use Rattle.dae_link.specs.declared.marks.LineMarks.{LineMarks}

-- the header of an image with so many words and files
pub record HasSizes (room : MarkRoom) (h : ImageHeader) : Type 0 where
  pub words_a : h.words_a ≡ room.words_a
  pub words_e : h.words_e ≡ room.words_e
  pub files : h.names ≡ room.files

abbrev pub words_in : MarkRoom → Side → ℕ
words_in room A = room.words_a
words_in room E = room.words_e

-- a mark behind the last one, of a word and of a file that are there
abbrev pub is_mark : MarkRoom → Option LineMark → LineMark → Bool
is_mark room last m =
    follows last m && (nat_lt m.word (words_in room m.side) && (nat_lt m.file room.files && nat_lt 0 m.line))

-- ---- which line a mark names

-- the mark of a word at which an action begins
abbrev pub mark_at : Side → PlacedWord → LineMark
mark_at side p = record { side = side; word = p.word; file = p.place.file; line = p.place.line }

-- a mark of a word at which an action of this side begins: it names the file and the line on which the action stands
abbrev pub IsMarkFrom : Side → List PlacedWord → LineMark → Type 0
IsMarkFrom side places m = (i : ℕ) × (p : PlacedWord) × (slice_get places i ≡ Some p) × (m ≡ mark_at side p)

abbrev pub IsMarkOf : List PlacedWord → List PlacedWord → LineMark → Type 0
IsMarkOf a e m = IsMarkFrom A a m ⊎ IsMarkFrom E e m

abbrev pub is_other_side : Side → Side → Bool
is_other_side A A = false
is_other_side A E = true
is_other_side E A = true
is_other_side E E = false

-- the last mark is of another line, or of the other side
abbrev pub is_another_line : Option LineMark → LineMark → Bool
is_another_line None m = true
is_another_line (Some last) m =
    is_other_side last.side m.side || (not (nat_eq last.file m.file) || not (nat_eq last.line m.line))

abbrev pub is_marked : MarkRoom → Option LineMark → LineMark → Bool
is_marked room last m = is_another_line last m && is_mark room last m

-- of the words of a side at which actions begin those are marked that are of another line than the mark before
abbrev pub marks_after : MarkRoom → Side → Option LineMark → List PlacedWord → List LineMark
marks_after room side last [] = []
marks_after room side last (p ∷ ps) =
    if is_marked room last (mark_at side p) then mark_at side p ∷ marks_after room side (Some (mark_at side p)) ps
    else marks_after room side last ps

-- further marks, as long as there are fewer than so many
abbrev pub up_to : ℕ → List LineMark → List LineMark → List LineMark
up_to most marks more = marks ++ take (most - length marks) more

-- the marks of A, and behind them those of E, from the words at which actions begin
abbrev pub marks_a : MarkRoom → List PlacedWord → List LineMark
marks_a room a = up_to 131072 [] (marks_after room A None a)

abbrev pub line_marks : MarkRoom → List PlacedWord → List PlacedWord → List LineMark
line_marks room a e = up_to 262144 (marks_a room a) (marks_after room E (last_or None (marks_a room a)) e)

-- ---- marks that an image can have

-- the marks are in order, and of words and files that are there
pub record IsMarked (room : MarkRoom) (marks : LineMarks) : Type 0 where
  pub good : (h : ImageHeader) → HasSizes room h → are_lines h None marks.lines.items ≡ true
  pub last : marks.last ≡ last_or None marks.lines.items
  pub numbers : All (λ m. m.line < 2 ^ 32) marks.lines.items

-- one more mark, where it is to be marked and there are fewer than so many
abbrev pub is_added : MarkRoom → ℕ → LineMark → LineMarks → Bool
is_added room most m old = nat_lt (length old.lines.items) most && is_marked room old.last m

pub record HasMarkMore (room : MarkRoom) (most : ℕ) (m : LineMark) (old new : LineMarks) : Type 0 where
  pub lines : new.lines.items ≡ (if is_added room most m old then old.lines.items ++ m ∷ [] else old.lines.items)
  pub last : new.last ≡ (if is_added room most m old then Some m else old.last)

-- the marks of the words of a side at which actions begin, behind others, as long as there are fewer than so many
abbrev pub HasMarksOf : MarkRoom → ℕ → Side → List PlacedWord → LineMarks → LineMarks → Type 0
HasMarksOf room most side places old new =
    new.lines.items ≡ up_to most old.lines.items (marks_after room side old.last places)

-- and no more than an image can have; and those of the words at which actions begin
pub record AreMarks (room : MarkRoom) (a e : List PlacedWord) (lines : List LineMark) : Type 0 where
  pub good : (h : ImageHeader) → HasSizes room h → are_lines h None lines ≡ true
  pub numbers : All (λ m. m.line < 2 ^ 32) lines
  pub few : length lines ≤ 262144
  pub made : lines ≡ line_marks room a e

-- a code that an image can have
pub record IsRoomy (room : MarkRoom) : Type 0 where
  pub a : room.words_a ≤ 2 ^ 25
  pub e : room.words_e ≤ 2 ^ 25

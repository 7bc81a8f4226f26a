-- The data, the marks and the names that lines say, all in their bounds.
use Rattle.std.specs.Prelude.{◌≡◌, ℕ, ◌+◌, ◌<◌, ◌≤◌, ◌^◌, ℤ, pos, List, map, length, None, IsTrue, All}
use Rattle.std.specs.List.{list_all}
use Rattle.dae_base.specs.declared.Side.{Side}
use Rattle.dae_image.specs.declared.LineMark.{LineMark}
use Rattle.dae_image.specs.declared.header.ImageHeader.{ImageHeader}
use Rattle.dae_image.specs.Contents.{are_lines, is_name}
use Rattle.dae_asm_data.specs.declared.marks.TextCounts.{TextCounts}
use Rattle.dae_asm_data.specs.Data.{NumberRow, numbers, AreBytes, MarkRow}
use Rattle.dae_asm_data.specs.Bounds.{AreKept, data_bounds, mark_bounds, name_bounds}

-- the data of lines in a memory of so many bytes
pub record IsContent (memory : ℕ) (rows : List NumberRow) (bytes : List ℕ) : Type 0 where
  pub said : AreBytes (numbers rows) bytes
  pub inside : 16 + length bytes ≤ memory
  pub kept : AreKept (data_bounds (pos memory) 0 rows)

-- what lines of marks say, and what marks are said by
abbrev pub places : List MarkRow → List (Side × ℤ × ℤ × ℤ)
places rows = map (λ r. (r.1, r.2, r.3, r.4)) rows

abbrev pub spelled : List LineMark → List (Side × ℤ × ℤ × ℤ)
spelled marks = map (λ m. (m.side, pos m.word, pos m.file, pos m.line)) marks

pub record HasCounts (h : ImageHeader) (counts : TextCounts) : Type 0 where
  pub words_a : h.words_a ≡ counts.words_a
  pub words_e : h.words_e ≡ counts.words_e
  pub names : h.names ≡ counts.names

-- the marks of lines, in an image whose head has these counts
pub record AreMarks (counts : TextCounts) (rows : List MarkRow) (marks : List LineMark) : Type 0 where
  pub said : places rows ≡ spelled marks
  pub few : length marks ≤ 262144
  pub lines : (h : ImageHeader) → HasCounts h counts → IsTrue (are_lines h None marks)
  pub numbers : All (λ m. m.line < 2 ^ 32) marks
  pub kept : AreKept (mark_bounds counts 0 None rows)

-- the names of lines
pub record AreNames (rows : List NumberRow) (names : List (List ℕ)) : Type 0 where
  pub said : map (λ r. r.1) rows ≡ map (λ name. map (λ b. pos b) name) names
  pub few : length names ≤ 1024
  pub good : IsTrue (list_all is_name names)
  pub kept : AreKept (name_bounds 0 rows)

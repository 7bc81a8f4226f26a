-- What an image holds, and what its fields keep to.
use Rattle.std.specs.Prelude.{ℕ, ◌^◌, ◌<◌, Bool, true, false, ◌&&◌, nat_lt, List, [], ◌∷◌, length, Option, Some, None, IsTrue}
use Rattle.std.specs.List.{list_all, All}
use Rattle.std.specs.Str.{is_utf8}
use Rattle.dae_base.specs.declared.Side.{Side}
use Rattle.dae_base.specs.declared.Side.TheVariants.{A, E}
use Rattle.dae_base.specs.declared.Depths.{Depths}
use Rattle.dae_image.specs.declared.LineMark.{LineMark}
use Rattle.dae_image.specs.declared.header.ImageHeader.{ImageHeader}
use Rattle.dae_image.specs.Ranges.{IsIn, is_in, depth_range, memory_range, calls_range, private_range, entry_range, words_range, content_range, line_count_range, name_count_range, name_range}

-- an image as plain numbers and lists
pub record ImageContents : Type 0 where
  pub budget : Depths
  pub memory : ℕ
  pub calls : ℕ
  pub private_a : ℕ
  pub private_e : ℕ
  pub entry_a : ℕ
  pub entry_e : ℕ
  pub code_a : List ℕ
  pub code_e : List ℕ
  pub content : List ℕ
  pub lines : List LineMark
  pub names : List (List ℕ)

-- the numbers at its head: its own, and how long its lists are
abbrev pub header : ImageContents → ImageHeader
header c = record {
  budget = c.budget;
  memory = c.memory;
  calls = c.calls;
  private_a = c.private_a;
  private_e = c.private_e;
  entry_a = c.entry_a;
  entry_e = c.entry_e;
  words_a = length c.code_a;
  words_e = length c.code_e;
  content = length c.content;
  lines = length c.lines;
  names = length c.names;
}

pub record HeaderFits (h : ImageHeader) : Type 0 where
  pub ld : IsIn depth_range h.budget.ld
  pub al : IsIn depth_range h.budget.al
  pub sa : IsIn depth_range h.budget.sa
  pub sd : IsIn depth_range h.budget.sd
  pub ab : IsIn depth_range h.budget.ab
  pub eb : IsIn depth_range h.budget.eb
  pub cq : IsIn depth_range h.budget.cq
  pub memory : IsIn memory_range h.memory
  pub calls : IsIn calls_range h.calls
  pub private_a : IsIn private_range h.private_a
  pub private_e : IsIn private_range h.private_e
  pub entry_a : IsIn entry_range h.entry_a
  pub entry_e : IsIn entry_range h.entry_e
  pub words_a : IsIn (words_range h.entry_a) h.words_a
  pub words_e : IsIn (words_range h.entry_e) h.words_e
  pub content : IsIn (content_range h.memory) h.content
  pub lines : IsIn line_count_range h.lines
  pub names : IsIn name_count_range h.names

abbrev pub code_length : ImageHeader → Side → ℕ
code_length h A = h.words_a
code_length h E = h.words_e

-- marks rise by side, A before E, and then by word
abbrev pub is_before : Side → Side → Bool → Bool
is_before A A below = below
is_before A E below = true
is_before E A below = false
is_before E E below = below

abbrev pub follows : Option LineMark → LineMark → Bool
follows None m = true
follows (Some last) m = is_before last.side m.side (nat_lt last.word m.word)

-- a mark of a word of the code and of a named file, behind the last one
abbrev pub is_line : ImageHeader → Option LineMark → LineMark → Bool
is_line h last m = follows last m && (nat_lt m.word (code_length h m.side) && (nat_lt m.file h.names && nat_lt 0 m.line))

abbrev pub are_lines : ImageHeader → Option LineMark → List LineMark → Bool
are_lines h last [] = true
are_lines h last (m ∷ ms) = is_line h last m && are_lines h (Some m) ms

abbrev pub is_name : List ℕ → Bool
is_name name = is_in name_range (length name) && is_utf8 name

-- an image whose fields are in range: words of code are of 32 bits, data are bytes
pub record Fits (c : ImageContents) : Type 0 where
  pub head : HeaderFits (header c)
  pub code_a : All (λ w. w < 2 ^ 32) c.code_a
  pub code_e : All (λ w. w < 2 ^ 32) c.code_e
  pub content : All (λ b. b < 256) c.content
  pub lines : IsTrue (are_lines (header c) None c.lines)
  pub numbers : All (λ m. m.line < 2 ^ 32) c.lines
  pub names : IsTrue (list_all is_name c.names)

-- A text as its items in their order.
use Rattle.std.specs.Prelude.{ℕ, suc, ℤ, ◌==◌, if◌then◌else◌, Bool, true, false, IsTrue, List, ◌∷◌, ◌++◌, map, Some, None, []}
use Rattle.std.specs.List.{list_all}
use Rattle.dae_base.specs.declared.Side.{Side}
use Rattle.dae_base.specs.declared.Side.TheVariants.{A, E}
use Rattle.dae_asm_lines.specs.Targets.{JumpTarget}
use Rattle.dae_asm_lines.specs.Items as items
use Rattle.dae_asm_lines.specs.Items.{LineItem}
use Rattle.dae_asm_lines.specs.Lines.{IsLine}

-- ---- lines

abbrev pub line_then : List ℕ → List (List ℕ) → List (List ℕ)
line_then [] lines = lines
line_then (b ∷ bs) lines = (b ∷ bs) ∷ lines

-- the lines of a line that has begun and of the bytes behind it; each ends with a line feed, but the last need not
abbrev pub lines_behind : List ℕ → List ℕ → List (List ℕ)
lines_behind line [] = line_then line []
lines_behind line (b ∷ bs) = if b == 10 then line ∷ lines_behind [] bs else lines_behind (line ++ b ∷ []) bs

unfoldable pub lines_of : List ℕ → List (List ℕ)
lines_of text = lines_behind [] text

-- an item and the number of its line
abbrev pub Row : Type 0
Row = ℕ × LineItem

-- the items of lines, of which the first has this number; lines without tokens say nothing
pub data AreItems : ℕ → List (List ℕ) → List Row → Type 0 where
  none : {n : ℕ} → AreItems n [] []
  skips : {n : ℕ} {line : List ℕ} {lines : List (List ℕ)} {rows : List Row} → IsLine line None → AreItems (suc n) lines rows → AreItems n (line ∷ lines) rows
  says : {n : ℕ} {line : List ℕ} {lines : List (List ℕ)} {item : LineItem} {rows : List Row} → IsLine line (Some item) → AreItems (suc n) lines rows → AreItems n (line ∷ lines) ((n, item) ∷ rows)

-- lines that say nothing, and how many they are, before others
pub data Skips : List (List ℕ) → ℕ → List (List ℕ) → Type 0 where
  none_skipped : {lines : List (List ℕ)} → Skips lines 0 lines
  one_skipped : {line : List ℕ} {lines behind : List (List ℕ)} {count : ℕ} → IsLine line None → Skips lines count behind → Skips (line ∷ lines) (suc count) behind

-- ---- sheets

-- a label, an instruction or a word
abbrev pub is_code : LineItem → Bool
is_code (items.Label name) = true
is_code (items.Instruction i operands) = true
is_code (items.Plain n) = true
is_code _ = false

-- the items of a text by their places, each with the number of its line
pub record Sheet : Type 0 where
  pub budget : ℕ × List ℤ
  pub memory : ℕ × ℤ
  pub calls : ℕ × ℤ
  pub private : ℕ × ℤ × ℤ
  pub entry : ℕ × JumpTarget × JumpTarget
  pub begin_a : ℕ
  pub code_a : List Row
  pub begin_e : ℕ
  pub code_e : List Row
  pub begin_data : ℕ
  pub bytes : List (ℕ × List ℤ)
  pub marks : List (ℕ × Side × ℤ × ℤ × ℤ)
  pub names : List (ℕ × List ℤ)

abbrev pub code : Sheet → Side → List Row
code s A = s.code_a
code s E = s.code_e

-- the order of items
abbrev pub rows_of : Sheet → List Row
rows_of s =
    (s.budget.0, items.Budget s.budget.1) ∷ (s.memory.0, items.Memory s.memory.1) ∷ (s.calls.0, items.Calls s.calls.1)
    ∷ (s.private.0, items.Private s.private.1 s.private.2) ∷ (s.entry.0, items.Entry s.entry.1 s.entry.2)
    ∷ (s.begin_a, items.Code A) ∷ (s.code_a ++ ((s.begin_e, items.Code E) ∷ (s.code_e ++ ((s.begin_data, items.Data)
    ∷ (map (λ b. (b.0, items.Bytes b.1)) s.bytes
    ++ (map (λ m. (m.0, items.Mark m.1 m.2 m.3 m.4)) s.marks ++ map (λ n. (n.0, items.Name n.1)) s.names))))))

pub record IsSheet (text : List ℕ) (s : Sheet) : Type 0 where
  pub items : AreItems 1 (lines_of text) (rows_of s)
  pub code_a : IsTrue (list_all (λ r. is_code r.1) s.code_a)
  pub code_e : IsTrue (list_all (λ r. is_code r.1) s.code_e)

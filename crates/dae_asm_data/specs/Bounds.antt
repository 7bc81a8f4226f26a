-- The bounds that the numbers of each line keep to, and the first line whose numbers break theirs.
use Rattle.std.specs.Prelude.{◌≡◌, ℕ, suc, ◌+◌, ◌≤◌, ℤ, List, [], ◌∷◌, length, Option, Some, All, ◌⊎◌}
use Rattle.dae_base.specs.declared.Depths.{Depths}
use Rattle.dae_image.specs.declared.LineMark.{LineMark}
use Rattle.dae_image.specs.declared.fields.FieldRange.{FieldRange}
use Rattle.dae_asm_lines.specs.Targets.{JumpTarget}
use Rattle.dae_asm_labels.specs.Labels.{Look}
use Rattle.dae_asm_values.specs.Values.{IsFor, IsBudget, IsEntry}
use Rattle.dae_asm_values.specs.Claims.{Claim, Meets}
use Rattle.dae_asm_data.specs.declared.faults.ValueFault.{ValueFault}
use Rattle.dae_asm_data.specs.declared.faults.ValueFault.TheVariants as faults
use Rattle.dae_asm_data.specs.declared.marks.TextCounts.{TextCounts}
use Rattle.dae_asm_data.specs.Data.{NumberRow, IsData, MarkRow, IsMark, IsName}

pub data Bound : Type 0 where
  -- the seven numbers of a budget
  Budget : List ℤ → Bound
  -- a number of this range
  Number : FieldRange → ℤ → Bound
  -- where a code of so many words is entered
  Entry : Look → ℕ → JumpTarget → Bound
  -- a code of so many words, of which it has one
  HasCode : ℕ → Bound
  -- a word of code
  Code : Claim → Bound
  -- data: the bytes of memory, how many stand before, and the numbers
  Data : ℤ → ℕ → List ℤ → Bound
  -- a mark: how many stand before, the line before, and its own
  Mark : TextCounts → ℕ → Option MarkRow → MarkRow → Bound
  -- a name: how many stand before, and the numbers
  Name : ℕ → List ℤ → Bound

abbrev pub IsKept : Bound → Type 0
IsKept (Budget ns) = (d : Depths) × IsBudget ns d
IsKept (Number range z) = (n : ℕ) × IsFor range z n
IsKept (Entry labels count target) = (n : ℕ) × IsEntry labels count target n
IsKept (HasCode count) = 1 ≤ count
IsKept (Code claim) = (w : ℕ) × Meets claim w
IsKept (Data memory before zs) = (bs : List ℕ) × IsData memory before zs bs
IsKept (Mark counts before last row) = (m : LineMark) × IsMark counts before last row m
IsKept (Name before zs) = (name : List ℕ) × IsName before zs name

abbrev pub AreKept : List (ℕ × Bound) → Type 0
AreKept bounds = All (λ b. IsKept b.1) bounds

-- the first line whose bound is not kept
abbrev pub IsFirstBroken : List (ℕ × Bound) → ℕ → Type 0
IsFirstBroken [] n = ⊥
IsFirstBroken (b ∷ bounds) n =
    ((b.0 ≡ n) × (IsKept b.1 → ⊥)) ⊎ (IsKept b.1 × IsFirstBroken bounds n)

-- ---- the lines behind the codes

-- data in a memory of so many bytes, behind so many of them
abbrev pub data_bounds : ℤ → ℕ → List NumberRow → List (ℕ × Bound)
data_bounds memory before [] = []
data_bounds memory before (row ∷ rows) =
    (row.0, Data memory before row.1) ∷ data_bounds memory (before + length row.1) rows

-- marks behind so many others, of which this is the last
abbrev pub mark_bounds : TextCounts → ℕ → Option MarkRow → List MarkRow → List (ℕ × Bound)
mark_bounds counts before last [] = []
mark_bounds counts before last (row ∷ rows) =
    (row.0, Mark counts before last row) ∷ mark_bounds counts (suc before) (Some row) rows

-- names behind so many others
abbrev pub name_bounds : ℕ → List NumberRow → List (ℕ × Bound)
name_bounds before [] = []
name_bounds before (row ∷ rows) = (row.0, Name before row.1) ∷ name_bounds (suc before) rows

-- why lines with these bounds say nothing; want of memory needs no reason
abbrev pub IsValueFault : List (ℕ × Bound) → ValueFault → Type 0
IsValueFault bounds (faults.Line n) = IsFirstBroken bounds n
IsValueFault bounds faults.Memory = Unit {0}

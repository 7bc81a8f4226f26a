-- How the lines behind the codes are read one by one. What they say is defined by their bounds; only
-- the functions that read them so speak of this.
use Rattle.std.specs.Prelude.{◌≡◌, ℕ, ◌+◌, ◌<◌, ◌≤◌, ℤ, pos, Bool, true, false, ◌&&◌, nat_lt, List, ◌∷◌, ◌++◌, map, length, Option, Some, None, All}
use Rattle.dae_base.specs.declared.Side.{Side}
use Rattle.dae_image.specs.declared.LineMark.{LineMark}
use Rattle.dae_image.specs.Contents.{follows}
use Rattle.dae_asm_order.specs.Sheets.{Row}
use Rattle.dae_asm_sheet.specs.Rows.{bytes_in, marks_in, names_in}
use Rattle.dae_asm_values.specs.Values.{IsWord}
use Rattle.dae_asm_data.specs.declared.faults.Found.{Found}
use Rattle.dae_asm_data.specs.declared.faults.Found.TheVariants as founds
use Rattle.dae_asm_data.specs.declared.marks.TextCounts.{TextCounts}
use Rattle.dae_asm_data.specs.Data.{NumberRow, numbers, AreBytes, MarkRow, SaysMark, words_on, IsMark, SaysName, IsName}
use Rattle.dae_asm_data.specs.Bounds.{Bound, AreKept, IsFirstBroken, data_bounds}

-- bounds of which all are kept, or one is broken first, where that is so of the rest of them
pub record Leads (all rest : List (ℕ × Bound)) : Type 0 where
  pub kept : AreKept rest → AreKept all
  pub broken : (n : ℕ) → IsFirstBroken rest n → IsFirstBroken all n

-- ---- data

-- the bytes that numbers say stand behind others
pub record PutsBytes (old new : List ℕ) (zs : List ℤ) : Type 0 where
  pub bytes : List ℕ
  pub are : AreBytes zs bytes
  pub behind : new ≡ old ++ bytes

abbrev pub IsPut : List ℕ → List ℕ → List ℤ → Bool → Type 0
IsPut old new zs true = PutsBytes old new zs
IsPut old new zs false = (bytes : List ℕ) → AreBytes zs bytes → ⊥

-- the data of a row stand behind others, in a memory of so many bytes
pub record PutRow (memory : ℕ) (old new : List ℕ) (row : Row) : Type 0 where
  pub bytes : List ℕ
  pub small : All (λ b. b < 256) bytes
  pub behind : new ≡ old ++ bytes
  pub said : (rows : List Row)
      → numbers (bytes_in (row ∷ rows)) ≡ map (λ b. pos b) bytes ++ numbers (bytes_in rows)
  pub inside : 16 + length new ≤ memory
  pub leads : (rows : List Row)
      → Leads (data_bounds (pos memory) (length old) (bytes_in (row ∷ rows)))
      (data_bounds (pos memory) (length new) (bytes_in rows))

abbrev pub IsRowPut : ℕ → List ℕ → List ℕ → Row → Bool → Type 0
IsRowPut memory old new row true = PutRow memory old new row
IsRowPut memory old new row false = (rows : List Row)
    → IsFirstBroken (data_bounds (pos memory) (length old) (bytes_in (row ∷ rows))) row.0

-- ---- marks

-- the mark of these numbers
pub record IsSpelled (side : Side) (numbers : ℤ × ℤ × ℤ) (m : LineMark) : Type 0 where
  pub side_is : side ≡ m.side
  pub word : IsWord numbers.0 m.word
  pub file : IsWord numbers.1 m.file
  pub line : IsWord numbers.2 m.line

-- a mark may stand behind so many others, of which this is the last
abbrev pub may_stand : TextCounts → ℕ → Option LineMark → LineMark → Bool
may_stand counts before last m =
    nat_lt before 262144 && (follows last m && (nat_lt m.word (words_on counts m.side)
    && (nat_lt m.file counts.names && nat_lt 0 m.line)))

-- the last mark is that of the row before
abbrev pub IsLast : Option MarkRow → Option LineMark → Type 0
IsLast None None = Unit {0}
IsLast (Some row) (Some m) = SaysMark row m
IsLast None (Some m) = ⊥
IsLast (Some row) None = ⊥

pub record OneMark (row : Row) (its : MarkRow) : Type 0 where
  pub is : (rows : List Row) → marks_in (row ∷ rows) ≡ its ∷ marks_in rows
  pub line : its.0 ≡ row.0

abbrev pub IsMarkFound : TextCounts → ℕ → Option MarkRow → Row → Found LineMark → Type 0
IsMarkFound counts before last row founds.Nothing =
    (rows : List Row) → marks_in (row ∷ rows) ≡ marks_in rows
IsMarkFound counts before last row (founds.Value m) =
    (its : MarkRow) × (OneMark row its × IsMark counts before last its m)
IsMarkFound counts before last row founds.Broken =
    (its : MarkRow) × (OneMark row its × ((m : LineMark) → IsMark counts before last its m → ⊥))

-- ---- names

abbrev pub IsNameFound : List ℤ → Option (List ℕ) → Type 0
IsNameFound zs (Some name) = SaysName zs name
IsNameFound zs None = (name : List ℕ) → SaysName zs name → ⊥

pub record OneName (row : Row) (its : NumberRow) : Type 0 where
  pub is : (rows : List Row) → names_in (row ∷ rows) ≡ its ∷ names_in rows
  pub line : its.0 ≡ row.0

abbrev pub IsNameAt : ℕ → Row → Found (List ℕ) → Type 0
IsNameAt before row founds.Nothing = (rows : List Row) → names_in (row ∷ rows) ≡ names_in rows
IsNameAt before row (founds.Value name) = (its : NumberRow) × (OneName row its × IsName before its.1 name)
IsNameAt before row founds.Broken =
    (its : NumberRow) × (OneName row its × ((name : List ℕ) → IsName before its.1 name → ⊥))

-- The order of the items of a text, and the first line that is out of it.
use Rattle.std.specs.Prelude.{◌≡◌, ℕ, suc, ◌<◌, List, ◌++◌, take, length, IsTrue}
use Rattle.std.specs.List.{list_all}
use Rattle.dae_asm_order.specs.Sheets.{Row, Sheet, IsSheet, AreItems, lines_of, rows_of, is_code}

-- the items of a text are those of a sheet, in order
abbrev pub IsOrdered : List ℕ → Type 0
IsOrdered text = (sheet : Sheet) × IsSheet text sheet

-- rows that others may follow, so that all are those of a sheet
pub record Begin (rows : List Row) : Type 0 where
  pub sheet : Sheet
  pub behind : List Row
  pub whole : rows ++ behind ≡ rows_of sheet
  pub code_a : IsTrue (list_all (λ r. is_code r.1) sheet.code_a)
  pub code_e : IsTrue (list_all (λ r. is_code r.1) sheet.code_e)

-- lines whose items begin those of a sheet
pub record BeginSheet (lines : List (List ℕ)) : Type 0 where
  pub rows : List Row
  pub items : AreItems 1 lines rows
  pub begin : Begin rows

-- the lines before n begin a sheet, and those up to n do not; or n is one past the last, where an item is missing
pub data IsBadLine (text : List ℕ) : ℕ → Type 0 where
  out_of_order : (n : ℕ) → n < length (lines_of text) → BeginSheet (take n (lines_of text))
      → (BeginSheet (take (suc n) (lines_of text)) → ⊥) → IsBadLine text (suc n)
  missing : BeginSheet (lines_of text) → ((sheet : Sheet) → IsSheet text sheet → ⊥)
      → IsBadLine text (suc (length (lines_of text)))

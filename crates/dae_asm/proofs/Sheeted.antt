-- The sheet of a text in order.
use Rattle.std.proofs.Common.{◌≡◌, ℕ, ◌≤◌, List, length, Some, None, sym, ap, ◌∙◌, subst, arith}
use Rattle.dae_asm_order.specs.Sheets.{Row, Sheet, IsSheet, AreItems, lines_of, rows_of}
use Rattle.dae_asm_order.specs.Order.{IsOrdered}
use Rattle.dae_asm_sheet.specs.declared.rows.Row as code_row
use Rattle.dae_asm_sheet.specs.declared.sheet.Sheet as code
use Rattle.dae_asm_sheet.specs.Rows.{rows_seen, sheet_seen, cut}
use Rattle.dae_asm_sheet.proofs.Laws.{cut_again}
use Rattle.dae_asm_values.proofs.Laws.{codes_formed, words_are_few, names_are_few}
use Rattle.dae_asm.specs.Making.{AreFew, AreCodesFormed}

pub cut_is : (text : List ℕ) (s : Sheet) (rows : List Row) → IsSheet text s → rows ≡ rows_of s → cut rows ≡ Some s
cut_is text s rows h e = ap cut e ∙ cut_again s h.code_a h.code_e

-- the sheet that code found
pub found_sheet : (text : List ℕ) (s : Sheet) (rows : List Row) (found : code.Sheet) → IsSheet text s → rows ≡ rows_of s → cut rows ≡ Some (sheet_seen found) → IsSheet text (sheet_seen found)
found_sheet text s rows found h e g =
    let both : Some s ≡ Some (sheet_seen found) = sym (cut_is text s rows h e) ∙ g in
    let same : s ≡ sheet_seen found = some_same s (sheet_seen found) both in
    subst (λ (t : Sheet). IsSheet text t) same h
  where
    some_same : (a b : Sheet) → Some a ≡ Some b → a ≡ b
    some_same a b p = cc

pub sheet_is_there : (text : List ℕ) (s : Sheet) (rows : List Row) → IsSheet text s → rows ≡ rows_of s → cut rows ≡ None → ⊥
sheet_is_there text s rows h e g = let f = cut_is text s rows h e in absurd cc

pub are_few : (text : List ℕ) (s : Sheet) → IsSheet text s → length text ≤ 134217728 → AreFew s
are_few text s h few =
    let w = words_are_few text s h in
    let a = w.0 in
    let e = w.1 in
    let n = names_are_few text s h in
    record { a = omega arith; e = omega arith; names = omega arith }

pub are_formed : (text : List ℕ) (s : Sheet) → IsSheet text s → AreCodesFormed s
are_formed text s h = let f = codes_formed s 1 (lines_of text) h.items in record { a = f.0; e = f.1 }

-- ---- the sheet that sheet_of finds, of the rows that rows_of gives

pub sheet_of_text : (text : List ℕ) (rows slice : List code_row.Row) (found : code.Sheet) → IsOrdered text → ((all : List Row) → AreItems 1 (lines_of text) all → rows_seen rows ≡ all) → slice ≡ rows
    → cut (rows_seen slice) ≡ Some (sheet_seen found) → IsSheet text (sheet_seen found)
sheet_of_text text rows slice found h same e g = found_sheet text h.0 (rows_seen slice) found h.1 (ap rows_seen e ∙ same (rows_of h.0) h.1.items) g

pub no_sheet : (text : List ℕ) (rows slice : List code_row.Row) → IsOrdered text → ((all : List Row) → AreItems 1 (lines_of text) all → rows_seen rows ≡ all) → slice ≡ rows → cut (rows_seen slice) ≡ None → ⊥
no_sheet text rows slice h same e g = sheet_is_there text h.0 (rows_seen slice) h.1 (ap rows_seen e ∙ same (rows_of h.0) h.1.items) g

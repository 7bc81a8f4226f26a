-- The instructions of a text have operands of their own form.
use Rattle.std.proofs.Common.{◌≡◌, ℕ, suc, List, [], ◌∷◌, ◌++◌, map, Some}
use Rattle.dae_base.specs.declared.Side.TheVariants.{E}
use Rattle.dae_asm_lines.specs.Names.{operands_of, AreAlike}
use Rattle.dae_asm_lines.specs.Items as items
use Rattle.dae_asm_lines.specs.Items.{LineItem}
use Rattle.dae_asm_lines.specs.Lines as lines
use Rattle.dae_asm_lines.specs.Lines.{IsLine}
use Rattle.dae_asm_order.specs.Sheets.{Row, Sheet, AreItems, none, skips, says, rows_of}
use Rattle.dae_asm_values.specs.Values.{AreFormed}

abbrev IsFormed : LineItem → Type 0
IsFormed (items.Instruction i operands) = AreAlike (operands_of i) operands
IsFormed item = Unit {0}

line_formed : (line : List ℕ) (item : LineItem) → IsLine line (Some item) → IsFormed item
line_formed line (items.Instruction i o) (lines.says j ascii s) = s.alike
line_formed line item l = tt

formed_more : (n : ℕ) (item : LineItem) (rows : List Row) → IsFormed item → AreFormed rows → AreFormed ((n, item) ∷ rows)
formed_more n (items.Instruction i o) rows h more = (h, more)
formed_more n item rows h more = more

are_formed : (n : ℕ) (text : List (List ℕ)) (rows : List Row) → AreItems n text rows → AreFormed rows
are_formed n [] [] none = tt
are_formed n [] (row ∷ rows) h = elim h [ ]
are_formed n (line ∷ text) rows (skips l h) = are_formed (suc n) text rows h
are_formed n (line ∷ text) ((m, item) ∷ rows) (says l h) = formed_more m item rows (line_formed line item l) (are_formed (suc n) text rows h)

formed_front : (xs ys : List Row) → AreFormed (xs ++ ys) → AreFormed xs
formed_front [] ys h = tt
formed_front ((n, items.Instruction i o) ∷ xs) ys h = (h.0, formed_front xs ys h.1)
formed_front (x ∷ xs) ys h = formed_front xs ys h

formed_back : (xs ys : List Row) → AreFormed (xs ++ ys) → AreFormed ys
formed_back [] ys h = h
formed_back ((n, items.Instruction i o) ∷ xs) ys h = formed_back xs ys h.1
formed_back (x ∷ xs) ys h = formed_back xs ys h

-- the rows behind the code of E, and those behind the code of A
abbrev pub behind_e : Sheet → List Row
behind_e s =
    (s.begin_data, items.Data) ∷ (map (λ b. (b.0, items.Bytes b.1)) s.bytes
    ++ (map (λ m. (m.0, items.Mark m.1 m.2 m.3 m.4)) s.marks ++ map (λ n. (n.0, items.Name n.1)) s.names))

abbrev pub behind_a : Sheet → List Row
behind_a s = (s.begin_e, items.Code E) ∷ (s.code_e ++ behind_e s)

-- both codes of a sheet
pub codes_formed : (s : Sheet) (n : ℕ) (text : List (List ℕ)) → AreItems n text (rows_of s) → AreFormed s.code_a × AreFormed s.code_e
codes_formed s n text h =
    let all : AreFormed (s.code_a ++ behind_a s) = are_formed n text (rows_of s) h in
    (formed_front s.code_a (behind_a s) all, formed_front s.code_e (behind_e s) (formed_back s.code_a (behind_a s) all))

-- The rows of a sheet are taken apart into it.
use Rattle.std.proofs.Common.{◌≡◌, ℕ, suc, ◌+◌, ℤ, Bool, true, false, ◌&&◌, List, [], ◌∷◌, ◌++◌, map, length, take, drop, Option, Some, None, IsTrue, refl, sym, ap, ◌∙◌, arith}
use Rattle.std.specs.List.{list_all, prefix_len}
use Rattle.dae_base.specs.declared.Side.{Side}
use Rattle.dae_base.specs.declared.Side.TheVariants.{A, E}
use Rattle.dae_asm_lines.specs.Items as items
use Rattle.dae_asm_order.specs.Sheets.{Row, Sheet, rows_of, is_code}
use Rattle.dae_asm_order.proofs.Laws.{byte_row, mark_row, name_row}
use Rattle.dae_asm_sheet.specs.declared.sheet.SheetPart.{SheetPart}
use Rattle.dae_asm_sheet.specs.declared.sheet.SheetPart.TheVariants as parts
use Rattle.dae_asm_sheet.specs.Rows.{belongs, part_length, front, back, bytes_in, marks_in, names_in, first, cut}

abbrev Belong : SheetPart → List Row → Type 0
Belong part rows = list_all (λ r. belongs part r.1) rows ≡ true

-- rows that end a part
abbrev Stops : SheetPart → List Row → Type 0
Stops part [] = Unit {0}
Stops part (row ∷ rows) = belongs part row.1 ≡ false

one_more : (part : SheetPart) (x : Row) (xs ys : List Row) (t : Bool) → belongs part x.1 ≡ t → Belong part (x ∷ xs) → (Belong part xs → part_length part (xs ++ ys) ≡ length xs) → part_length part ((x ∷ xs) ++ ys) ≡ length (x ∷ xs)
one_more part x xs ys true e all rest = let more : Belong part xs = rw e at all in let h = rest more in rw e (omega arith)
one_more part x xs ys false e all rest = let no : false ≡ true = rw e at all in absurd cc

counted : (part : SheetPart) (xs ys : List Row) → Belong part xs → Stops part ys → part_length part (xs ++ ys) ≡ length xs
counted part [] [] all stops = refl
counted part [] (y ∷ ys) all stops = rw stops refl
counted part (x ∷ xs) ys all stops = one_more part x xs ys (belongs part x.1) refl all (λ more. counted part xs ys more stops)

take_all : (xs ys : List Row) → take (length xs) (xs ++ ys) ≡ xs
take_all [] [] = refl
take_all [] (y ∷ ys) = refl
take_all (x ∷ xs) ys = ap (λ (zs : List Row). x ∷ zs) (take_all xs ys)

drop_all : (xs ys : List Row) → drop (length xs) (xs ++ ys) ≡ ys
drop_all [] [] = refl
drop_all [] (y ∷ ys) = refl
drop_all (x ∷ xs) ys = drop_all xs ys

front_is : (part : SheetPart) (xs ys : List Row) → Belong part xs → Stops part ys → front part (xs ++ ys) ≡ xs
front_is part xs ys all stops = ap (λ (n : ℕ). take n (xs ++ ys)) (counted part xs ys all stops) ∙ take_all xs ys

back_is : (part : SheetPart) (xs ys : List Row) → Belong part xs → Stops part ys → back part (xs ++ ys) ≡ ys
back_is part xs ys all stops = ap (λ (n : ℕ). drop n (xs ++ ys)) (counted part xs ys all stops) ∙ drop_all xs ys

-- ---- data, marks and names

are_bytes : (bs : List (ℕ × List ℤ)) → Belong parts.Bytes (map byte_row bs)
are_bytes [] = refl
are_bytes (b ∷ bs) = are_bytes bs

are_marks : (ms : List (ℕ × Side × ℤ × ℤ × ℤ)) → Belong parts.Marks (map mark_row ms)
are_marks [] = refl
are_marks (m ∷ ms) = are_marks ms

no_bytes : (ms : List (ℕ × Side × ℤ × ℤ × ℤ)) (ns : List (ℕ × List ℤ)) → Stops parts.Bytes (map mark_row ms ++ map name_row ns)
no_bytes [] [] = tt
no_bytes [] (n ∷ ns) = refl
no_bytes (m ∷ ms) ns = refl

no_marks : (ns : List (ℕ × List ℤ)) → Stops parts.Marks (map name_row ns)
no_marks [] = tt
no_marks (n ∷ ns) = refl

bytes_again : (bs : List (ℕ × List ℤ)) → bytes_in (map byte_row bs) ≡ bs
bytes_again [] = refl
bytes_again (b ∷ bs) = ap (λ (cs : List (ℕ × List ℤ)). b ∷ cs) (bytes_again bs)

marks_again : (ms : List (ℕ × Side × ℤ × ℤ × ℤ)) → marks_in (map mark_row ms) ≡ ms
marks_again [] = refl
marks_again (m ∷ ms) = ap (λ (cs : List (ℕ × Side × ℤ × ℤ × ℤ)). m ∷ cs) (marks_again ms)

names_again : (ns : List (ℕ × List ℤ)) → names_in (map name_row ns) ≡ ns
names_again [] = refl
names_again (n ∷ ns) = ap (λ (cs : List (ℕ × List ℤ)). n ∷ cs) (names_again ns)

-- ---- the sheet

pub cut_again : (s : Sheet) → IsTrue (list_all (λ r. is_code r.1) s.code_a) → IsTrue (list_all (λ r. is_code r.1) s.code_e) → cut (rows_of s) ≡ Some s
unfolding cut first
cut_again s all_a all_e =
    let tail : List Row = map mark_row s.marks ++ map name_row s.names in
    let content : List Row = map byte_row s.bytes ++ tail in
    let begin_content : List Row = (s.begin_data, items.Data) ∷ content in
    let code_e : List Row = s.code_e ++ begin_content in
    let begin_e : List Row = (s.begin_e, items.Code E) ∷ code_e in
    let f1 = front_is parts.Code s.code_a begin_e all_a refl in
    let b1 = back_is parts.Code s.code_a begin_e all_a refl in
    let f2 = front_is parts.Code s.code_e begin_content all_e refl in
    let b2 = back_is parts.Code s.code_e begin_content all_e refl in
    let f3 = front_is parts.Bytes (map byte_row s.bytes) tail (are_bytes s.bytes) (no_bytes s.marks s.names) in
    let b3 = back_is parts.Bytes (map byte_row s.bytes) tail (are_bytes s.bytes) (no_bytes s.marks s.names) in
    let f4 = front_is parts.Marks (map mark_row s.marks) (map name_row s.names) (are_marks s.marks) (no_marks s.names) in
    let b4 = back_is parts.Marks (map mark_row s.marks) (map name_row s.names) (are_marks s.marks) (no_marks s.names) in
    let x = bytes_again s.bytes in
    let y = marks_again s.marks in
    let z = names_again s.names in
    rw (f1, b1, f2, b2, f3, b3, f4, b4, x, y, z) refl

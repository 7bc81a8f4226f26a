-- Names of lines, one by one.
use Rattle.std.proofs.Common.{◌≡◌, ℕ, suc, ◌+◌, ◌<◌, ◌≤◌, ℤ, pos, Bool, true, false, ◌&&◌, nat_le, nat_eq, ◌%◌, List, ◌∷◌, ◌++◌, map, length, drop, get_or, Option, Some, None, refl, sym, ap, ◌∙◌, subst, append_assoc, arith, length-append, []}
use Rattle.std.specs.List.{list_all}
use Rattle.std.proofs.lemmas.List.{append-nil, map-append, drop_all}
use Rattle.std.proofs.lemmas.List.Folds.{list_all-append}
use Rattle.std.specs.Str.{is_utf8}
use Rattle.std.proofs.lemmas.Bool.{and_from, le-leb, eq-eqb}
use Rattle.dae_image.specs.Ranges.{is_in, name_range}
use Rattle.dae_image.specs.Contents.{is_name}
use Rattle.dae_asm_order.specs.Sheets.{Row}
use Rattle.dae_asm_sheet.specs.declared.rows.Row as code
use Rattle.dae_asm_sheet.specs.Rows.{row_seen, rows_seen, names_in}
use Rattle.dae_asm_values.proofs.Laws.{rows_from}
use Rattle.dae_asm_data.specs.declared.faults.Found.{Found}
use Rattle.dae_asm_data.specs.declared.faults.Found.TheVariants as founds
use Rattle.dae_asm_data.specs.Data.{NumberRow, AreBytes, SaysName, IsName}
use Rattle.dae_asm_data.specs.Bounds.{Name, name_bounds}
use Rattle.dae_asm_data.specs.Parts.{AreNames}
use Rattle.dae_asm_data.specs.Walking.{Leads, IsPut, IsNameFound, OneName, IsNameAt}
use Rattle.dae_asm_data.proofs.Bytes.{as_numbers, was_put}
use Rattle.dae_asm_data.proofs.Leading.{passes, ends}

-- ---- one name

same_bytes : (a b : List ℕ) → as_numbers a ≡ as_numbers b → a ≡ b
same_bytes [] [] e = refl
same_bytes [] (y ∷ ys) e = absurd cc
same_bytes (x ∷ xs) [] e = absurd cc
same_bytes (x ∷ xs) (y ∷ ys) e =
    let rest : as_numbers xs ≡ as_numbers ys = cc in
    let first : x ≡ y = cc in
    let others = same_bytes xs ys rest in
    cc

no_remainder : (n : ℕ) → nat_eq (n % 1) 0 ≡ true
no_remainder n = let e : n % 1 ≡ 0 = omega arith in eq-eqb (n % 1) 0 e

pub name_is : (bytes : List ℕ) → 1 ≤ length bytes → length bytes ≤ 4096 → is_utf8 bytes ≡ true → is_name bytes ≡ true
name_is bytes some few good =
    let size : is_in name_range (length bytes) ≡ true =
    and_from (nat_le 1 (length bytes)) (nat_le (length bytes) 4096 && nat_eq (length bytes % 1) 0) (le-leb 1 (length bytes) some)
    (and_from (nat_le (length bytes) 4096) (nat_eq (length bytes % 1) 0) (le-leb (length bytes) 4096 few) (no_remainder (length bytes))) in
    and_from (is_in name_range (length bytes)) (is_utf8 bytes) size good

and_no : (a b : Bool) → b ≡ false → a && b ≡ false
and_no true b e = e
and_no false b e = refl

pub name_is_not : (bytes : List ℕ) → is_utf8 bytes ≡ false → is_name bytes ≡ false
name_is_not bytes bad = and_no (is_in name_range (length bytes)) (is_utf8 bytes) bad

-- bytes that are no name are those of none
pub no_name : (zs : List ℤ) (bytes : List ℕ) → AreBytes zs bytes → is_name bytes ≡ false → (name : List ℕ) → SaysName zs name → ⊥
no_name zs bytes are bad name s =
    let same : name ≡ bytes = same_bytes name bytes (sym s.bytes.said ∙ are.said) in
    let good : is_name bytes ≡ true = subst (λ (n : List ℕ). is_name n ≡ true) same s.text in
    absurd cc

-- bytes that were put behind none, and are no name
pub no_name_put : (zs : List ℤ) (old new bytes : List ℕ) (b : Bool) → old ≡ [] → IsPut old new zs b → b ≡ true → bytes ≡ new → is_name bytes ≡ false → (name : List ℕ) → SaysName zs name → ⊥
no_name_put zs old new bytes b none put e same bad =
    let p = was_put old new zs b put e in
    let whole : bytes ≡ p.bytes = same ∙ p.behind ∙ ap (λ (xs : List ℕ). xs ++ p.bytes) none in
    no_name zs p.bytes p.are (subst (λ (n : List ℕ). is_name n ≡ false) whole bad)

pub none_found : (zs : List ℤ) (o : Option (List ℕ)) → IsNameFound zs o → o ≡ None → (name : List ℕ) → SaysName zs name → ⊥
none_found zs None h e = h
none_found zs (Some x) h e = absurd cc

pub some_found : (zs : List ℤ) (o : Option (List ℕ)) (name : List ℕ) → IsNameFound zs o → o ≡ Some name → SaysName zs name
some_found zs o name h e = subst (λ (p : Option (List ℕ)). IsNameFound zs p) e h

-- ---- all rows

abbrev all_said : List NumberRow → List (List ℤ)
all_said rows = map (λ r. r.1) rows

abbrev all_spelled : List (List ℕ) → List (List ℤ)
all_spelled names = map (λ name. map (λ b. pos b) name) names

pub record Naming (all rest : List Row) (names : List (List ℕ)) : Type 0 where
  pub leads : Leads (name_bounds 0 (names_in all)) (name_bounds (length names) (names_in rest))
  pub said : all_said (names_in all) ≡ all_spelled names ++ all_said (names_in rest)
  pub few : length names ≤ 1024
  pub good : list_all is_name names ≡ true

pub not_named : (all : List Row) (row : Row) (rest : List Row) (names : List (List ℕ)) → Naming all (row ∷ rest) names → ((rows : List Row) → names_in (row ∷ rows) ≡ names_in rows) → Naming all rest names
not_named all row rest names w none = record {
  leads = subst (λ (rows : List NumberRow). Leads (name_bounds 0 (names_in all)) (name_bounds (length names) rows)) (none rest) w.leads;
  said = w.said ∙ ap (λ (rows : List NumberRow). all_spelled names ++ all_said rows) (none rest);
  few = w.few;
  good = w.good;
}

pub named : (all : List Row) (row : Row) (rest : List Row) (names : List (List ℕ)) (name : List ℕ) → Naming all (row ∷ rest) names → IsNameAt (length names) row (founds.Value name) → Naming all rest (names ++ name ∷ [])
named all row rest names name w found =
    let its : NumberRow = found.0 in
    let one : OneName row its = found.1.0 in
    let k : IsName (length names) its.1 name = found.1.1 in
    let few = k.few in
    let long : length (names ++ name ∷ []) ≡ suc (length names) = let f = length-append names (name ∷ []) in omega arith in
    let bounds = name_bounds 0 (names_in all) in
    let here : Leads bounds (name_bounds (length names) (its ∷ names_in rest)) =
    subst (λ (rows : List NumberRow). Leads bounds (name_bounds (length names) rows)) (one.is rest) w.leads in
    let past : Leads bounds (name_bounds (suc (length names)) (names_in rest)) =
    passes bounds (name_bounds (suc (length names)) (names_in rest)) its.0 (Name (length names) its.1) here (name, k) in
    record {
      leads = subst (λ (n : ℕ). Leads bounds (name_bounds n (names_in rest))) (sym long) past;
      said =
          let join : all_spelled (names ++ name ∷ []) ≡ all_spelled names ++ all_spelled (name ∷ []) = map-append (λ (x : List ℕ). map (λ b. pos b) x) names (name ∷ []) in
          w.said ∙ ap (λ (rows : List NumberRow). all_spelled names ++ all_said rows) (one.is rest)
          ∙ ap (λ (zs : List ℤ). all_spelled names ++ (zs ∷ all_said (names_in rest))) k.said.bytes.said
          ∙ sym (append_assoc (all_spelled names) (all_spelled (name ∷ [])) (all_said (names_in rest)))
          ∙ ap (λ (ps : List (List ℤ)). ps ++ all_said (names_in rest)) (sym join);
      few = omega arith;
      good =
          let both : list_all is_name (name ∷ []) ≡ true = and_from (is_name name) true k.said.text refl in
          list_all-append is_name names (name ∷ []) ∙ and_from (list_all is_name names) (list_all is_name (name ∷ [])) w.good both;
    }

pub all_named : (all : List Row) (names : List (List ℕ)) → Naming all [] names → AreNames (names_in all) names
all_named all names w = record {
  said = w.said ∙ append-nil (all_spelled names);
  few = w.few;
  good = w.good;
  kept = ends (name_bounds 0 (names_in all)) w.leads;
}

-- ---- the walk

pub moved : (all rest : List Row) (names more : List (List ℕ)) → names ≡ more → Naming all rest more → Naming all rest names
moved all rest names more e w = rw e w

pub go_past : (rows : List code.Row) (i : ℕ) (d : code.Row) (names : List (List ℕ)) (before : ℕ) → i < length rows → before ≡ length names → Naming (rows_seen rows) (rows_seen (drop i rows)) names
    → (found : Found (List ℕ)) → IsNameAt before (row_seen (get_or rows i d)) found → found ≡ founds.Nothing → Naming (rows_seen rows) (rows_seen (drop (i + 1) rows)) names
go_past rows i d names before within same w o put e =
    let found = subst (λ (f : Found (List ℕ)). IsNameAt before (row_seen (get_or rows i d)) f) e put in
    let here = subst (λ (rest : List Row). Naming (rows_seen rows) rest names) (rows_from rows i d within) w in
    not_named (rows_seen rows) (row_seen (get_or rows i d)) (rows_seen (drop (i + 1) rows)) names here found

pub go_on : (rows : List code.Row) (i : ℕ) (d : code.Row) (names : List (List ℕ)) (before : ℕ) (name : List ℕ) → i < length rows → before ≡ length names → Naming (rows_seen rows) (rows_seen (drop i rows)) names
    → (found : Found (List ℕ)) → IsNameAt before (row_seen (get_or rows i d)) found → found ≡ founds.Value name → Naming (rows_seen rows) (rows_seen (drop (i + 1) rows)) (names ++ name ∷ [])
go_on rows i d names before name within same w o put e =
    let found = subst (λ (f : Found (List ℕ)). IsNameAt before (row_seen (get_or rows i d)) f) e put in
    let here = subst (λ (rest : List Row). Naming (rows_seen rows) rest names) (rows_from rows i d within) w in
    let its = subst (λ (n : ℕ). IsNameAt n (row_seen (get_or rows i d)) (founds.Value name)) same found in
    named (rows_seen rows) (row_seen (get_or rows i d)) (rows_seen (drop (i + 1) rows)) names name here its

pub over : (rows : List code.Row) (i : ℕ) (names : List (List ℕ)) → length rows ≤ i → Naming (rows_seen rows) (rows_seen (drop i rows)) names → AreNames (names_in (rows_seen rows)) names
over rows i names past w =
    let none : rows_seen (drop i rows) ≡ [] = ap rows_seen (drop_all i rows past) in
    all_named (rows_seen rows) names (subst (λ (rest : List Row). Naming (rows_seen rows) rest names) none w)

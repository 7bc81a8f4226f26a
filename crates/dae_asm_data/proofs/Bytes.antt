-- NumberRow as bytes, one by one.
use Rattle.std.proofs.Common.{◌≡◌, ℕ, ◌+◌, ◌-◌, ◌<◌, ◌≤◌, ℤ, pos, List, ◌∷◌, ◌++◌, map, length, drop, get_or, Bool, true, false, Some, All, refl, sym, ap, ◌∙◌, subst, append_assoc, arith, length-append, leb, []}
use Rattle.std.proofs.lemmas.Bool.{leb-true, leb-false}
use Rattle.std.proofs.lemmas.List.{append-nil, length-map, map-append, drop_all}
use Rattle.std.proofs.lemmas.List.Elements.{All-nil, All-head, All-tail, All-append}
use Rattle.dae_asm_lines.specs.Tokens.{LineToken}
use Rattle.dae_asm_lines.specs.Scanning.{first_token}
use Rattle.dae_asm_lines.specs.Lines.{numbers_in}
use Rattle.dae_asm_order.specs.Sheets.{Row}
use Rattle.dae_asm_sheet.specs.declared.rows.Row as code
use Rattle.dae_asm_sheet.specs.Rows.{row_seen, rows_seen, bytes_in}
use Rattle.dae_asm_values.proofs.Laws.{rows_from}
use Rattle.dae_asm_data.specs.Data.{NumberRow, numbers, AreBytes, IsData}
use Rattle.dae_asm_data.specs.Bounds.{Data, IsFirstBroken, data_bounds}
use Rattle.dae_asm_data.specs.Parts.{IsContent}
use Rattle.dae_asm_data.specs.Walking.{Leads, PutsBytes, IsPut, PutRow, IsRowPut}
use Rattle.dae_asm_data.proofs.Leading.{starts, goes_on, passes, breaks, ends}

abbrev pub small : ℕ → Type 0
small b = b < 256

abbrev pub as_numbers : List ℕ → List ℤ
as_numbers bs = map (λ b. pos b) bs

-- ---- tokens

same_pair : (p q : LineToken × List LineToken) → Some p ≡ Some q → p ≡ q
same_pair p q e = cc

pub first_is : (ts us : List LineToken) (t : LineToken) → first_token ts ≡ Some (t, us) → ts ≡ t ∷ us
first_is [] us t e = absurd cc
first_is (x ∷ xs) us t e =
    let p : (x, xs) ≡ (t, us) = same_pair (x, xs) (t, us) e in
    ap (λ (q : LineToken × List LineToken). q.0 ∷ q.1) p

-- the numbers of tokens from one on
pub numbers_from : (ts us : List LineToken) (t : LineToken) → first_token ts ≡ Some (t, us) → numbers_in ts ≡ numbers_in (t ∷ us)
numbers_from ts us t e = ap numbers_in (first_is ts us t e)

pub fewer : (ts us : List LineToken) (t : LineToken) → first_token ts ≡ Some (t, us) → length us < length ts
fewer ts us t e = let f = ap length (first_is ts us t e) in omega arith

-- ---- bytes behind others

pub record Putting (old now : List ℕ) (all rest : List ℤ) : Type 0 where
  pub done : List ℕ
  pub are_small : All small done
  pub said : all ≡ as_numbers done ++ rest
  pub behind : now ≡ old ++ done

record IsByte (z : ℤ) : Type 0 where
  byte : ℕ
  is : z ≡ pos byte
  few : byte < 256

within : (done : List ℕ) (z : ℤ) (rest : List ℤ) (bytes : List ℕ) → as_numbers done ++ (z ∷ rest) ≡ as_numbers bytes → All small bytes → IsByte z
within [] z rest [] e s = absurd cc
within [] z rest (b ∷ bs) e s = record { byte = b; is = cc; few = All-head small b bs s }
within (d ∷ ds) z rest [] e s = absurd cc
within (d ∷ ds) z rest (b ∷ bs) e s =
    let f : as_numbers ds ++ (z ∷ rest) ≡ as_numbers bs = cc in
    within ds z rest bs f (All-tail small b bs s)

pub no_byte : (old now : List ℕ) (all rest : List ℤ) (z : ℤ) → Putting old now all (z ∷ rest) → ((b : ℕ) → b < 256 → z ≡ pos b → ⊥) → (bytes : List ℕ) → AreBytes all bytes → ⊥
no_byte old now all rest z p none bytes are =
    let w = within p.done z rest bytes (sym p.said ∙ are.said) are.small in
    none w.byte w.few w.is

-- the same with the number as code has it
pub no_byte_at : (old now : List ℕ) (all tokens rest : List ℤ) (z y : ℤ) → Putting old now all tokens → tokens ≡ z ∷ rest → ((b : ℕ) → b < 256 → y ≡ pos b → ⊥) → y ≡ z → (bytes : List ℕ) → AreBytes all bytes → ⊥
no_byte_at old now all tokens rest z y p e none same =
    no_byte old now all rest z (subst (λ (zs : List ℤ). Putting old now all zs) e p) (λ b few is. none b few (same ∙ is))

pub was_put : (old new : List ℕ) (zs : List ℤ) (b : Bool) → IsPut old new zs b → b ≡ true → PutsBytes old new zs
was_put old new zs true h e = h
was_put old new zs false h e = absurd cc

-- ---- a row of data

pub no_data : (memory : ℕ) (old : List ℕ) (row : Row) → ((rows : List Row) → bytes_in (row ∷ rows) ≡ bytes_in rows) → 16 + length old ≤ memory → PutRow memory old old row
no_data memory old row none few = record {
  bytes = [];
  small = All-nil small;
  behind = sym (append-nil old);
  said = λ rows. ap numbers (none rows);
  inside = few;
  leads = λ rows. subst (λ (all : List NumberRow). Leads (data_bounds (pos memory) (length old) all) (data_bounds (pos memory) (length old) (bytes_in rows))) (sym (none rows)) (starts (data_bounds (pos memory) (length old) (bytes_in rows)));
}

length_of : (zs : List ℤ) (bytes : List ℕ) → zs ≡ as_numbers bytes → length zs ≡ length bytes
length_of zs bytes e = ap length e ∙ length-map bytes (λ b. pos b)

one_leads : (memory : ℕ) (old new : List ℕ) (its : NumberRow) (rows : List NumberRow) → PutsBytes old new its.1 → 16 + length new ≤ memory → Leads (data_bounds (pos memory) (length old) (its ∷ rows)) (data_bounds (pos memory) (length new) rows)
one_leads memory old new its rows p few =
    let same : length its.1 ≡ length p.bytes = length_of its.1 p.bytes p.are.said in
    let long : length new ≡ length old + length p.bytes = ap length p.behind ∙ length-append old p.bytes in
    let next : length old + length its.1 ≡ length new = omega arith in
    let fits : 16 + length old + length p.bytes ≤ memory = omega arith in
    let all = data_bounds (pos memory) (length old) (its ∷ rows) in
    let past : Leads all (data_bounds (pos memory) (length old + length its.1) rows) =
    passes all (data_bounds (pos memory) (length old + length its.1) rows) its.0 (Data (pos memory) (length old) its.1) (starts all)
    (p.bytes, record { bytes = p.are; inside = (memory, (refl, fits)) }) in
    subst (λ (n : ℕ). Leads all (data_bounds (pos memory) n rows)) next past

pub data_put : (memory : ℕ) (old new : List ℕ) (row : Row) (its : NumberRow) → ((rows : List Row) → bytes_in (row ∷ rows) ≡ its ∷ bytes_in rows) → PutsBytes old new its.1 → 16 + length new ≤ memory → PutRow memory old new row
data_put memory old new row its is p few = record {
  bytes = p.bytes;
  small = p.are.small;
  behind = p.behind;
  said = λ rows. ap numbers (is rows) ∙ ap (λ (zs : List ℤ). zs ++ numbers (bytes_in rows)) p.are.said;
  inside = few;
  leads = λ rows. subst (λ (all : List NumberRow). Leads (data_bounds (pos memory) (length old) all) (data_bounds (pos memory) (length new) (bytes_in rows))) (sym (is rows)) (one_leads memory old new its (bytes_in rows) p few);
}

broken_at : (memory : ℕ) (old : List ℕ) (row : Row) (its : NumberRow) → ((rows : List Row) → bytes_in (row ∷ rows) ≡ its ∷ bytes_in rows) → its.0 ≡ row.0 → ((bs : List ℕ) → IsData (pos memory) (length old) its.1 bs → ⊥)
    → (rows : List Row) → IsFirstBroken (data_bounds (pos memory) (length old) (bytes_in (row ∷ rows))) row.0
broken_at memory old row its is line none rows =
    let all = data_bounds (pos memory) (length old) (its ∷ bytes_in rows) in
    let here : IsFirstBroken all its.0 = breaks all (data_bounds (pos memory) (length old + length its.1) (bytes_in rows)) its.0 (Data (pos memory) (length old) its.1) (starts all) (λ k. none k.0 k.1) in
    let there : IsFirstBroken all row.0 = subst (λ (n : ℕ). IsFirstBroken all n) line here in
    subst (λ (bs : List NumberRow). IsFirstBroken (data_bounds (pos memory) (length old) bs) row.0) (sym (is rows)) there

past_end : (memory : ℕ) (old new : List ℕ) (zs : List ℤ) → PutsBytes old new zs → memory < 16 + length new → (bs : List ℕ) → IsData (pos memory) (length old) zs bs → ⊥
past_end memory old new zs p many bs d =
    let same : length zs ≡ length p.bytes = length_of zs p.bytes p.are.said in
    let also : length zs ≡ length bs = length_of zs bs d.bytes.said in
    let long : length new ≡ length old + length p.bytes = ap length p.behind ∙ length-append old p.bytes in
    let m = d.inside.0 in
    let e : pos memory ≡ pos m = d.inside.1.0 in
    let f : memory ≡ m = cc in
    let few : 16 + length old + length bs ≤ m = d.inside.1.1 in
    absurd (omega arith)

pub too_many : (memory : ℕ) (old new : List ℕ) (row : Row) (its : NumberRow) → ((rows : List Row) → bytes_in (row ∷ rows) ≡ its ∷ bytes_in rows) → its.0 ≡ row.0 → PutsBytes old new its.1 → memory < 16 + length new
    → (rows : List Row) → IsFirstBroken (data_bounds (pos memory) (length old) (bytes_in (row ∷ rows))) row.0
too_many memory old new row its is line p many = broken_at memory old row its is line (past_end memory old new its.1 p many)

row_by : (memory : ℕ) (old new : List ℕ) (row : Row) (its : NumberRow) (len : ℕ) (t : Bool) → ((rows : List Row) → bytes_in (row ∷ rows) ≡ its ∷ bytes_in rows) → its.0 ≡ row.0 → PutsBytes old new its.1 → len ≡ length new → 16 ≤ memory → leb len (memory - 16) ≡ t
    → IsRowPut memory old new row t
row_by memory old new row its len true is line p same some e =
    let few : len ≤ memory - 16 = leb-true len (memory - 16) e in
    data_put memory old new row its is p (omega arith)
row_by memory old new row its len false is line p same some e =
    let many : memory - 16 < len = leb-false len (memory - 16) e in
    too_many memory old new row its is line p (omega arith)

pub row_put : (memory : ℕ) (old new : List ℕ) (row : Row) (its : NumberRow) (len : ℕ) → ((rows : List Row) → bytes_in (row ∷ rows) ≡ its ∷ bytes_in rows) → its.0 ≡ row.0 → PutsBytes old new its.1 → len ≡ length new → 16 ≤ memory
    → IsRowPut memory old new row (leb len (memory - 16))
row_put memory old new row its len is line p same some = row_by memory old new row its len (leb len (memory - 16)) is line p same some refl

-- ---- all rows

pub record Filling (memory : ℕ) (all rest : List Row) (content : List ℕ) : Type 0 where
  pub are_small : All small content
  pub said : numbers (bytes_in all) ≡ as_numbers content ++ numbers (bytes_in rest)
  pub inside : 16 + length content ≤ memory
  pub leads : Leads (data_bounds (pos memory) 0 (bytes_in all)) (data_bounds (pos memory) (length content) (bytes_in rest))

pub filled_row : (memory : ℕ) (all : List Row) (row : Row) (rest : List Row) (old new : List ℕ) → Filling memory all (row ∷ rest) old → PutRow memory old new row → Filling memory all rest new
filled_row memory all row rest old new f p = record {
  are_small = subst (λ (bs : List ℕ). All small bs) (sym p.behind) (All-append small old p.bytes f.are_small p.small);
  said =
      let join : as_numbers (old ++ p.bytes) ≡ as_numbers old ++ as_numbers p.bytes = map-append (λ b. pos b) old p.bytes in
      let now : as_numbers new ≡ as_numbers old ++ as_numbers p.bytes = ap as_numbers p.behind ∙ join in
      let rows : List ℤ = numbers (bytes_in rest) in
      f.said ∙ ap (λ (zs : List ℤ). as_numbers old ++ zs) (p.said rest) ∙ sym (append_assoc (as_numbers old) (as_numbers p.bytes) rows) ∙ ap (λ (zs : List ℤ). zs ++ rows) (sym now);
  inside = p.inside;
  leads = goes_on (data_bounds (pos memory) 0 (bytes_in all)) (data_bounds (pos memory) (length old) (bytes_in (row ∷ rest))) (data_bounds (pos memory) (length new) (bytes_in rest)) f.leads (p.leads rest);
}

pub all_filled : (memory : ℕ) (all : List Row) (content : List ℕ) → Filling memory all [] content → IsContent memory (bytes_in all) content
all_filled memory all content f = record {
  said = record { said = f.said ∙ append-nil (as_numbers content); small = f.are_small };
  inside = f.inside;
  kept = ends (data_bounds (pos memory) 0 (bytes_in all)) f.leads;
}

-- ---- the walk

is_put : (memory : ℕ) (old new : List ℕ) (row : Row) (b : Bool) → IsRowPut memory old new row b → b ≡ true → PutRow memory old new row
is_put memory old new row true h e = h
is_put memory old new row false h e = absurd cc

pub go_on : (memory : ℕ) (rows : List code.Row) (i : ℕ) (d : code.Row) (old new : List ℕ) (b : Bool) → i < length rows → Filling memory (rows_seen rows) (rows_seen (drop i rows)) old → IsRowPut memory old new (row_seen (get_or rows i d)) b → b ≡ true
    → Filling memory (rows_seen rows) (rows_seen (drop (i + 1) rows)) new
go_on memory rows i d old new b lt w put e =
    let here = subst (λ (rest : List Row). Filling memory (rows_seen rows) rest old) (rows_from rows i d lt) w in
    filled_row memory (rows_seen rows) (row_seen (get_or rows i d)) (rows_seen (drop (i + 1) rows)) old new here (is_put memory old new (row_seen (get_or rows i d)) b put e)

pub over : (memory : ℕ) (rows : List code.Row) (i : ℕ) (content : List ℕ) → length rows ≤ i → Filling memory (rows_seen rows) (rows_seen (drop i rows)) content → IsContent memory (bytes_in (rows_seen rows)) content
over memory rows i content past w =
    let none : rows_seen (drop i rows) ≡ [] = ap rows_seen (drop_all i rows past) in
    all_filled memory (rows_seen rows) content (subst (λ (rest : List Row). Filling memory (rows_seen rows) rest content) none w)

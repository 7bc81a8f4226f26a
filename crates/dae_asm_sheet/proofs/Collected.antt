-- The items of a text that are collected.
use Rattle.std.proofs.Common.{◌≡◌, ℕ, zero, suc, ◌+◌, List, [], ◌∷◌, ◌++◌, map, Option, Some, None, refl, sym, ap, ◌∙◌, subst, append_assoc, arith}
use Rattle.std.proofs.lemmas.List.{append-nil}
use Rattle.dae_asm_lines.specs.Items.{LineItem}
use Rattle.dae_asm_lines.specs.Lines.{IsLine}
use Rattle.dae_asm_lines.proofs.Laws.{one_line}
use Rattle.dae_asm_order.specs.declared.lines.Lines.{Lines}
use Rattle.dae_asm_order.specs.Sheets.{Row, AreItems, none, skips, says, Skips, none_skipped, one_skipped, lines_of}
use Rattle.dae_asm_order.specs.Walking.{IsItem, IsBadNext, IsEnd}
use Rattle.dae_asm_order.proofs.Laws.{nothing_and_item}

-- lines say these rows from here on
pub record HasRows (lines : Lines) (rows : List Row) : Type 0 where
  pub are : AreItems (suc lines.before) (lines_of lines.text.now) rows

-- the rows so far, and those that are left
pub record Rest (all found : List Row) (lines : Lines) : Type 0 where
  pub rest : List Row
  pub whole : all ≡ found ++ rest
  pub items : HasRows lines rest

pub from_start : (text : List ℕ) (all : List Row) (lines : Lines) → lines.text.now ≡ text → lines.before ≡ 0 → AreItems 1 (lines_of text) all → Rest all [] lines
from_start text all lines e z h =
    let n : 1 ≡ suc lines.before = omega arith in
    let there = subst (λ (t : List ℕ). AreItems 1 (lines_of t) all) (sym e) h in
    record { rest = all; whole = refl; items = record { are = subst (λ (k : ℕ). AreItems k (lines_of lines.text.now) all) n there } }

-- lines that say nothing are passed over
passed : (n count : ℕ) (lines behind : List (List ℕ)) (rows : List Row) → Skips lines count behind → AreItems n lines rows → AreItems (n + count) behind rows
passed n zero lines behind rows none_skipped h = let e : n ≡ n + 0 = omega arith in subst (λ (k : ℕ). AreItems k lines rows) e h
passed n (suc count) [] behind rows s h = elim s [ ]
passed n (suc count) (line ∷ lines) behind rows (one_skipped l rest) (skips l' h) =
    let e : suc n + count ≡ n + suc count = omega arith in
    subst (λ (k : ℕ). AreItems k behind rows) e (passed (suc n) count lines behind rows rest h)
passed n (suc count) (line ∷ lines) behind ((m, item) ∷ rows) (one_skipped l rest) (says l' h) = absurd (nothing_and_item line item l l')

-- the first of rows, and the others
record First (n : ℕ) (item : LineItem) (lines : List (List ℕ)) (rows : List Row) : Type 0 where
  pub others : List Row
  pub whole : rows ≡ (n, item) ∷ others
  pub items : AreItems (suc n) lines others

is_first : (n : ℕ) (line : List ℕ) (item : LineItem) (lines : List (List ℕ)) (rows : List Row) → IsLine line (Some item) → AreItems n (line ∷ lines) rows → First n item lines rows
is_first n line item lines rows l (skips l' h) = absurd (nothing_and_item line item l' l)
is_first n line item lines ((m, other) ∷ rows) l (says l' h) =
    let e = one_line line (Some other) (Some item) l' l in
    let same : other ≡ item = cc in
    record { others = rows; whole = ap (λ (i : LineItem). (n, i) ∷ rows) same; items = h }

pub further : (all found : List Row) (lines after : Lines) (item : LineItem) (n : ℕ) → Rest all found lines → IsItem lines item n after → Rest all (found ++ ((n, item) ∷ [])) after
further all found lines after item n r h =
    let there = passed (suc lines.before) h.count (lines_of lines.text.now) (h.line ∷ lines_of after.text.now) r.rest h.skipped r.items.are in
    let number : suc lines.before + h.count ≡ n = let k = h.number in omega arith in
    let here = subst (λ (k : ℕ). AreItems k (h.line ∷ lines_of after.text.now) r.rest) number there in
    let f = is_first n h.line item (lines_of after.text.now) r.rest h.says here in
    record {
      rest = f.others;
      whole = r.whole ∙ ap (λ (rs : List Row). found ++ rs) f.whole ∙ sym (append_assoc found ((n, item) ∷ []) f.others);
      items = record { are = subst (λ (k : ℕ). AreItems (suc k) (lines_of after.text.now) f.others) (sym h.goes_on) f.items };
    }

bad_first : (n : ℕ) (line : List ℕ) (lines : List (List ℕ)) (rows : List Row) → ((o : Option LineItem) → IsLine line o → ⊥) → AreItems n (line ∷ lines) rows → ⊥
bad_first n line lines rows bad (skips l h) = bad None l
bad_first n line lines ((m, item) ∷ rows) bad (says l h) = bad (Some item) l

pub not_bad : (all found : List Row) (lines : Lines) (n : ℕ) → Rest all found lines → IsBadNext lines n → ⊥
not_bad all found lines n r h =
    bad_first (suc lines.before + h.count) h.line h.behind r.rest h.bad
    (passed (suc lines.before) h.count (lines_of lines.text.now) (h.line ∷ h.behind) r.rest h.skipped r.items.are)

none_left : (n : ℕ) (rows : List Row) → AreItems n [] rows → rows ≡ []
none_left n [] none = refl
none_left n (row ∷ rows) h = elim h [ ]

pub all_found : (all found : List Row) (lines : Lines) (n : ℕ) → Rest all found lines → IsEnd lines n → found ≡ all
all_found all found lines n r h =
    let over = none_left (suc lines.before + h.count) r.rest (passed (suc lines.before) h.count (lines_of lines.text.now) [] r.rest h.skipped r.items.are) in
    sym (r.whole ∙ ap (λ (rs : List Row). found ++ rs) over ∙ append-nil found)

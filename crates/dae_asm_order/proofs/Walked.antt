-- A text walked to a place.
use Rattle.std.proofs.Common.{◌≡◌, ℕ, zero, suc, ◌+◌, ◌≤◌, Bool, true, false, ◌==◌, List, [], ◌∷◌, ◌++◌, length, take, Option, Some, None, refl, sym, ap, ◌∙◌, subst, append_assoc, arith, eqb-true, length-append}
use Rattle.std.proofs.lemmas.List.{append-nil}
use Rattle.dae_asm_lines.specs.Items.{LineItem}
use Rattle.dae_asm_lines.specs.Lines.{IsLine}
use Rattle.dae_asm_order.specs.declared.lines.Lines.{Lines}
use Rattle.dae_asm_order.specs.declared.order.NextItem.{NextItem}
use Rattle.dae_asm_order.specs.declared.order.NextItem.TheVariants as places
use Rattle.dae_asm_order.specs.Sheets.{Row, AreItems, none, says, Skips, none_skipped, one_skipped, lines_of, rows_of}
use Rattle.dae_asm_order.specs.Order.{BeginSheet, IsOrdered, IsBadLine, out_of_order, missing}
use Rattle.dae_asm_order.specs.Walking.{IsItem, IsBadNext, IsEnd, place_behind, or_none, place_after, is_last}
use Rattle.dae_asm_order.proofs.Numbered.{items_join, skipped, one_list, no_list}
use Rattle.dae_asm_order.proofs.Places.{sheeted, place_join, begins, begun, is_sheet_last}

-- ---- lines that say nothing

pub one_further : (lines : List (List ℕ)) (count : ℕ) (line : List ℕ) (behind : List (List ℕ)) → Skips lines count (line ∷ behind) → IsLine line None → Skips lines (suc count) behind
one_further lines zero line behind none_skipped nothing = one_skipped nothing none_skipped
one_further [] (suc count) line behind s nothing = elim s [ ]
one_further (first ∷ lines) (suc count) line behind (one_skipped l rest) nothing = one_skipped l (one_further lines count line behind rest nothing)

-- ---- the lines up to a place

pub record IsAt (text : List ℕ) (lines : Lines) (place : NextItem) : Type 0 where
  pub front : List (List ℕ)
  pub rows : List Row
  pub split : lines_of text ≡ front ++ lines_of lines.text.now
  pub many : length front ≡ lines.before
  pub items : AreItems 1 front rows
  pub reached : place_after places.Budget rows ≡ Some place

pub at_start : (text : List ℕ) (lines : Lines) → lines.text.now ≡ text → lines.before ≡ 0 → IsAt text lines places.Budget
at_start text lines e z = record { front = []; rows = []; split = ap lines_of (sym e); many = sym z; items = none; reached = refl }

-- the lines before the next item, and their items
record Before (text : List ℕ) (place : NextItem) (n : ℕ) (behind : List (List ℕ)) : Type 0 where
  pub front : List (List ℕ)
  pub rows : List Row
  pub split : lines_of text ≡ front ++ behind
  pub many : length front ≡ n
  pub items : AreItems 1 front rows
  pub reached : place_after places.Budget rows ≡ Some place

before : (text : List ℕ) (lines : Lines) (place : NextItem) (count : ℕ) (behind : List (List ℕ)) → IsAt text lines place → Skips (lines_of lines.text.now) count behind → Before text place (lines.before + count) behind
before text lines place count behind at s =
    let k = skipped (lines_of lines.text.now) count behind s in
    let long = length-append at.front k.front in
    let a = at.many in
    let b = k.many in
    record {
      front = at.front ++ k.front;
      rows = at.rows ++ [];
      split = at.split ∙ ap (λ (ls : List (List ℕ)). at.front ++ ls) k.whole ∙ sym (append_assoc at.front k.front behind);
      many = omega arith;
      items = items_join 1 at.front k.front at.rows [] at.items (k.items (1 + length at.front));
      reached = ap (place_after places.Budget) (append-nil at.rows) ∙ at.reached;
    }

-- the item behind
abbrev with_item : {text : List ℕ} {place : NextItem} {n : ℕ} {behind : List (List ℕ)} → Before text place n behind → LineItem → List Row
with_item b item = b.rows ++ ((1 + length b.front, item) ∷ [])

items_with : (text : List ℕ) (place : NextItem) (n : ℕ) (line : List ℕ) (rest : List (List ℕ)) (item : LineItem) (b : Before text place n (line ∷ rest)) → IsLine line (Some item) → AreItems 1 (b.front ++ (line ∷ [])) (with_item b item)
items_with text place n line rest item b is = items_join 1 b.front (line ∷ []) b.rows ((1 + length b.front, item) ∷ []) b.items (says is none)

place_with : (text : List ℕ) (place : NextItem) (n : ℕ) (behind : List (List ℕ)) (item : LineItem) (b : Before text place n behind) → place_after places.Budget (with_item b item) ≡ or_none (place_behind place item) (λ p. Some p)
place_with text place n behind item b = place_join places.Budget b.rows ((1 + length b.front, item) ∷ []) ∙ ap (λ (o : Option NextItem). or_none o (λ r. place_after r ((1 + length b.front, item) ∷ []))) b.reached

pub further : (text : List ℕ) (lines after : Lines) (place next : NextItem) (item : LineItem) (n : ℕ) → IsAt text lines place → IsItem lines item n after → place_behind place item ≡ Some next → IsAt text after next
further text lines after place next item n at h e =
    let b = before text lines place h.count (h.line ∷ lines_of after.text.now) at h.skipped in
    let long = length-append b.front (h.line ∷ []) in
    let m = b.many in
    let number = h.number in
    let on = h.goes_on in
    record {
      front = b.front ++ (h.line ∷ []);
      rows = with_item b item;
      split = b.split ∙ sym (append_assoc b.front (h.line ∷ []) (lines_of after.text.now));
      many = omega arith;
      items = items_with text place (lines.before + h.count) h.line (lines_of after.text.now) item b h.says;
      reached = place_with text place (lines.before + h.count) (h.line ∷ lines_of after.text.now) item b ∙ ap (λ (o : Option NextItem). or_none o (λ p. Some p)) e;
    }

-- ---- the first line out of order

take_front : (xs ys : List (List ℕ)) → take (length xs) (xs ++ ys) ≡ xs
take_front [] [] = refl
take_front [] (y ∷ ys) = refl
take_front (x ∷ xs) ys = ap (λ (zs : List (List ℕ)). x ∷ zs) (take_front xs ys)

take_one : (xs ys : List (List ℕ)) (y : List ℕ) → take (suc (length xs)) (xs ++ (y ∷ ys)) ≡ xs ++ (y ∷ [])
take_one [] [] y = refl
take_one [] (z ∷ ys) y = refl
take_one (x ∷ xs) ys y = ap (λ (zs : List (List ℕ)). x ∷ zs) (take_one xs ys y)

bad_line : (text : List ℕ) (place : NextItem) (n : ℕ) (line : List ℕ) (rest : List (List ℕ)) (b : Before text place n (line ∷ rest)) → (BeginSheet (b.front ++ (line ∷ [])) → ⊥) → IsBadLine text (suc n)
bad_line text place n line rest b unfit =
    let all = b.split in
    let here : take n (lines_of text) ≡ b.front = ap (λ (k : ℕ). take k (lines_of text)) (sym b.many) ∙ ap (take (length b.front)) all ∙ take_front b.front (line ∷ rest) in
    let there : take (suc n) (lines_of text) ≡ b.front ++ (line ∷ []) = ap (λ (k : ℕ). take (suc k) (lines_of text)) (sym b.many) ∙ ap (take (suc (length b.front))) all ∙ take_one b.front rest line in
    let long = length-append b.front (line ∷ rest) in
    let size : length (lines_of text) ≡ length (b.front ++ (line ∷ rest)) = ap length all in
    let m = b.many in
    out_of_order n (omega arith)
    (subst BeginSheet (sym here) (record { rows = b.rows; items = b.items; begin = begins b.rows place b.reached }))
    (λ h. unfit (subst BeginSheet there h))

pub bad_item : (text : List ℕ) (lines after : Lines) (place : NextItem) (item : LineItem) (n : ℕ) → IsAt text lines place → IsItem lines item n after → place_behind place item ≡ None → IsBadLine text n
bad_item text lines after place item n at h e =
    let rest = lines_of after.text.now in
    let m = lines.before + h.count in
    let b = before text lines place h.count (h.line ∷ rest) at h.skipped in
    let none_there = place_with text place m (h.line ∷ rest) item b ∙ ap (λ (o : Option NextItem). or_none o (λ p. Some p)) e in
    let number : suc m ≡ n = let k = h.number in omega arith in
    subst (IsBadLine text) number (bad_line text place m h.line rest b (λ g.
    let same = one_list 1 (b.front ++ (h.line ∷ [])) g.rows (with_item b item) g.items (items_with text place m h.line rest item b h.says) in
    let p = begun g.rows g.begin in
    no_place (place_after places.Budget (with_item b item)) p.0 none_there (ap (place_after places.Budget) (sym same) ∙ p.1)))
  where
    no_place : (o : Option NextItem) (p : NextItem) → o ≡ None → o ≡ Some p → ⊥
    no_place o p x y = cc

pub bad_text : (text : List ℕ) (lines : Lines) (place : NextItem) (n : ℕ) → IsAt text lines place → IsBadNext lines n → IsBadLine text n
bad_text text lines place n at h =
    let m = lines.before + h.count in
    let b = before text lines place h.count (h.line ∷ h.behind) at h.skipped in
    let number : suc m ≡ n = let k = h.number in omega arith in
    subst (IsBadLine text) number (bad_line text place m h.line h.behind b (λ g. no_list 1 b.front h.line g.rows h.bad g.items))

-- ---- the end

whole_text : (text : List ℕ) (place : NextItem) (n : ℕ) (b : Before text place n []) → AreItems 1 (lines_of text) b.rows
whole_text text place n b = subst (λ (ls : List (List ℕ)). AreItems 1 ls b.rows) (sym (b.split ∙ append-nil b.front)) b.items

pub all_in_order : (text : List ℕ) (lines : Lines) (place : NextItem) (n : ℕ) → IsAt text lines place → IsEnd lines n → is_last place ≡ true → IsOrdered text
all_in_order text lines place n at h last =
    let b = before text lines place h.count [] at h.skipped in
    let s = sheeted b.rows place last b.reached in
    (s.sheet, record { items = subst (λ (rs : List Row). AreItems 1 (lines_of text) rs) s.whole (whole_text text place (lines.before + h.count) b); code_a = s.code_a; code_e = s.code_e })

pub one_missing : (text : List ℕ) (lines : Lines) (place : NextItem) (n : ℕ) → IsAt text lines place → IsEnd lines n → is_last place ≡ false → IsBadLine text (n + 1)
one_missing text lines place n at h last =
    let m = lines.before + h.count in
    let b = before text lines place h.count [] at h.skipped in
    let items = whole_text text place m b in
    let size : length (lines_of text) ≡ length b.front = ap length (b.split ∙ append-nil b.front) in
    let number : suc (length (lines_of text)) ≡ n + 1 = let k = h.number in let l = b.many in omega arith in
    subst (IsBadLine text) number (missing (record { rows = b.rows; items = items; begin = begins b.rows place b.reached })
    (λ s i. both (is_last place) last (is_sheet_last b.rows place s (one_list 1 (lines_of text) b.rows (rows_of s) items i.items) i.code_a i.code_e b.reached)))
  where
    both : (t : Bool) → t ≡ false → t ≡ true → ⊥
    both t x y = cc

-- ---- on to the next item

-- lines that say nothing from here up to a text, whose first line has the number behind this one
pub record HasSkipped (from : Lines) (text : List ℕ) (line : ℕ) : Type 0 where
  pub count : ℕ
  pub skipped : Skips (lines_of from.text.now) count (lines_of text)
  pub number : line ≡ from.before + count
  pub fits : line + length text ≤ from.before + length from.text.now
  pub shorter : length text ≤ length from.text.now

none_there : (text : List ℕ) → length text ≡ 0 → lines_of text ≡ []
unfolding lines_of
none_there [] e = refl
none_there (b ∷ bs) e = absurd (omega arith)

-- and the text is over
pub at_end : (from : Lines) (text : List ℕ) (line : ℕ) → HasSkipped from text line → true ≡ (length text == 0) → IsEnd from line
at_end from text line h e =
    let over : length text ≡ 0 = eqb-true (length text) 0 (sym e) in
    record { count = h.count; skipped = subst (λ (ls : List (List ℕ)). Skips (lines_of from.text.now) h.count ls) (none_there text over) h.skipped; number = h.number; fits = omega arith }

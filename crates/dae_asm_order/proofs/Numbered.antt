-- The items of lines, numbered.
use Rattle.std.proofs.Common.{◌≡◌, ℕ, zero, suc, ◌+◌, List, [], ◌∷◌, ◌++◌, length, Option, Some, None, refl, ap, subst, arith}
use Rattle.dae_asm_lines.specs.Items.{LineItem}
use Rattle.dae_asm_lines.specs.Lines.{IsLine}
use Rattle.dae_asm_lines.proofs.Laws.{one_line}
use Rattle.dae_asm_order.specs.Sheets.{Row, AreItems, none, skips, says, Skips, none_skipped, one_skipped}

items_from : (n m : ℕ) (lines : List (List ℕ)) (rows : List Row) → n ≡ m → AreItems n lines rows → AreItems m lines rows
items_from n m lines rows e h = subst (λ (k : ℕ). AreItems k lines rows) e h

pub items_join : (n : ℕ) (front more : List (List ℕ)) (rows others : List Row) → AreItems n front rows → AreItems (n + length front) more others → AreItems n (front ++ more) (rows ++ others)
items_join n [] more [] others none h = items_from (n + length {A = List ℕ} []) n more others (omega arith) h
items_join n [] more (row ∷ rows) others s h = elim s [ ]
items_join n (line ∷ front) more rows others (skips l rest) h =
    skips l (items_join (suc n) front more rows others rest (items_from (n + length (line ∷ front)) (suc n + length front) more others (omega arith) h))
items_join n (line ∷ front) more (row ∷ rows) others (says l rest) h =
    says l (items_join (suc n) front more rows others rest (items_from (n + length (line ∷ front)) (suc n + length front) more others (omega arith) h))

-- lines that say nothing, apart
pub record Skipped (lines : List (List ℕ)) (count : ℕ) (behind : List (List ℕ)) : Type 0 where
  pub front : List (List ℕ)
  pub whole : lines ≡ front ++ behind
  pub many : length front ≡ count
  pub items : (n : ℕ) → AreItems n front []

pub skipped : (lines : List (List ℕ)) (count : ℕ) (behind : List (List ℕ)) → Skips lines count behind → Skipped lines count behind
skipped lines zero behind none_skipped = record { front = []; whole = refl; many = refl; items = λ n. none }
skipped [] (suc count) behind s = elim s [ ]
skipped (line ∷ lines) (suc count) behind (one_skipped l rest) =
    let r = skipped lines count behind rest in
    record { front = line ∷ r.front; whole = ap (λ (ls : List (List ℕ)). line ∷ ls) r.whole; many = ap suc r.many; items = λ n. skips l (r.items (suc n)) }

pub nothing_and_item : (line : List ℕ) (item : LineItem) → IsLine line None → IsLine line (Some item) → ⊥
nothing_and_item line item a b = let e = one_line line None (Some item) a b in cc

-- lines have one list of items
pub one_list : (n : ℕ) (lines : List (List ℕ)) (rows others : List Row) → AreItems n lines rows → AreItems n lines others → rows ≡ others
one_list n [] [] [] none none = refl
one_list n [] [] (_ ∷ others) _ h = elim h [ ]
one_list n [] (_ ∷ rows) others h _ = elim h [ ]
one_list n (line ∷ lines) rows others (skips a r) (skips b s) = one_list (suc n) lines rows others r s
one_list n (line ∷ lines) rows ((m, item) ∷ others) (skips a r) (says b s) = absurd (nothing_and_item line item a b)
one_list n (line ∷ lines) ((m, item) ∷ rows) others (says a r) (skips b s) = absurd (nothing_and_item line item b a)
one_list n (line ∷ lines) ((m, item) ∷ rows) ((k, other) ∷ others) (says a r) (says b s) =
    let e = one_line line (Some item) (Some other) a b in
    let same : item ≡ other = cc in
    let rest = one_list (suc n) lines rows others r s in
    cc

-- no list of items has a line that says nothing that a line may say
pub no_list : (n : ℕ) (front : List (List ℕ)) (line : List ℕ) (rows : List Row) → ((o : Option LineItem) → IsLine line o → ⊥) → AreItems n (front ++ (line ∷ [])) rows → ⊥
no_list n [] line rows bad (skips a r) = bad None a
no_list n [] line ((m, item) ∷ rows) bad (says a r) = bad (Some item) a
no_list n (first ∷ front) line rows bad (skips a r) = no_list (suc n) front line rows bad r
no_list n (first ∷ front) line ((m, item) ∷ rows) bad (says a r) = no_list (suc n) front line rows bad r

-- A text is in one order, or has one first line that is out of it.
use Rattle.std.proofs.Common.{◌≡◌, ◌⊎◌, inl, inr, ℕ, zero, suc, ◌<◌, ◌≤◌, List, [], ◌∷◌, ◌++◌, take, refl, sym, ap, ◌∙◌, subst, append_assoc, arith}
use Rattle.std.specs.Prelude.{Some}
use Rattle.std.proofs.lemmas.Bool.{cases_order}
use Rattle.std.proofs.lemmas.List.{append-nil}
use Rattle.dae_asm_order.specs.Sheets.{Row, Sheet, AreItems, none, skips, says, IsSheet, lines_of, rows_of}
use Rattle.dae_asm_order.specs.Order.{BeginSheet, IsBadLine, out_of_order, missing}
use Rattle.dae_asm_order.proofs.Laws.{one_list}
use Rattle.dae_asm_sheet.specs.Rows.{cut}
use Rattle.dae_asm_sheet.proofs.Laws.{cut_again}

-- the items of the first lines are the first items
record Front (n : ℕ) (first : List (List ℕ)) (rows : List Row) : Type 0 where
  pub front : List Row
  pub behind : List Row
  pub whole : front ++ behind ≡ rows
  pub items : AreItems n first front

front_of : (k n : ℕ) (lines : List (List ℕ)) (rows : List Row) → AreItems n lines rows → Front n (take k lines) rows
front_of zero n lines rows h = record { front = []; behind = rows; whole = refl; items = none }
front_of (suc k) n [] [] none = record { front = []; behind = []; whole = refl; items = none }
front_of (suc k) n [] (row ∷ rows) h = elim h [ ]
front_of (suc k) n (line ∷ lines) rows (skips l h) =
    let r = front_of k (suc n) lines rows h in
    record { front = r.front; behind = r.behind; whole = r.whole; items = skips l r.items }
front_of (suc k) n (line ∷ lines) ((m, item) ∷ rows) (says l h) =
    let r = front_of k (suc n) lines rows h in
    record { front = (m, item) ∷ r.front; behind = r.behind; whole = ap (λ (rs : List Row). (m, item) ∷ rs) r.whole; items = says l r.items }

begins : (lines : List (List ℕ)) (k : ℕ) → BeginSheet lines → BeginSheet (take k lines)
begins lines k b =
    let f = front_of k 1 lines b.rows b.items in
    let h = b.begin in
    record {
      rows = f.front;
      items = f.items;
      begin = record {
        sheet = h.sheet;
        behind = f.behind ++ h.behind;
        whole = sym (append_assoc f.front f.behind h.behind) ∙ ap (λ (rs : List Row). rs ++ h.behind) f.whole ∙ h.whole;
        code_a = h.code_a;
        code_e = h.code_e;
      };
    }

whole_begins : (text : List ℕ) (s : Sheet) → IsSheet text s → BeginSheet (lines_of text)
whole_begins text s h = record { rows = rows_of s; items = h.items; begin = record { sheet = s; behind = []; whole = append-nil (rows_of s); code_a = h.code_a; code_e = h.code_e } }

take_less : (j k : ℕ) (lines : List (List ℕ)) → j ≤ k → take j (take k lines) ≡ take j lines
take_less zero k lines h = refl
take_less (suc j) zero lines h = absurd (omega arith)
take_less (suc j) (suc k) [] h = refl
take_less (suc j) (suc k) (line ∷ lines) h = ap (λ (ls : List (List ℕ)). line ∷ ls) (take_less j k lines (omega arith))

begins_less : (j k : ℕ) (lines : List (List ℕ)) → j ≤ k → BeginSheet (take k lines) → BeginSheet (take j lines)
begins_less j k lines h b = subst BeginSheet (take_less j k lines h) (begins (take k lines) j b)

pub bad_or_ordered : (text : List ℕ) (s : Sheet) (n : ℕ) → IsSheet text s → IsBadLine text n → ⊥
bad_or_ordered text s n h (out_of_order m less b never) = never (begins (lines_of text) (suc m) (whole_begins text s h))
bad_or_ordered text s n h (missing b never) = never s h

pub one_bad_line : (text : List ℕ) (n m : ℕ) → IsBadLine text n → IsBadLine text m → n ≡ m
one_bad_line text n m (out_of_order i less b never) (out_of_order j less' c never') = by (cases_order i j)
  where
    by : (i ≡ j) ⊎ ((i < j) ⊎ (j < i)) → suc i ≡ suc j
    by (inl e) = ap suc e
    by (inr (inl h)) = absurd (never (begins_less (suc i) j (lines_of text) (omega arith) c))
    by (inr (inr h)) = absurd (never' (begins_less (suc j) i (lines_of text) (omega arith) b))
one_bad_line text n m (out_of_order i less b never) (missing c never') = absurd (never (begins (lines_of text) (suc i) c))
one_bad_line text n m (missing b never) (out_of_order j less c never') = absurd (never' (begins (lines_of text) (suc j) b))
one_bad_line text n m (missing b never) (missing c never') = refl

pub one_sheet : (text : List ℕ) (s t : Sheet) → IsSheet text s → IsSheet text t → s ≡ t
one_sheet text s t h k =
    let rows : rows_of s ≡ rows_of t = one_list 1 (lines_of text) (rows_of s) (rows_of t) h.items k.items in
    let same : Some s ≡ Some t = sym (cut_again s h.code_a h.code_e) ∙ ap cut rows ∙ cut_again t k.code_a k.code_e in
    cc

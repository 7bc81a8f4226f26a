-- Places in a text, and rows of a table.
use Rattle.std.proofs.Common.{◌≡◌, ℕ, suc, ◌+◌, ◌<◌, Bool, true, false, cond, nat_eq, List, [], ◌∷◌, Some, IfSome, length, drop, get_or, ap, sym, ◌∙◌, arith}
use Rattle.std.proofs.lemmas.List.{drop_more}
use Rattle.std.specs.List.{starts_with}
use Rattle.dae_tree.specs.Forms.{place_of}
use Rattle.dae_tree.specs.Tables.{first_row}

pub place_later : (p : List ℕ → Bool) (bytes : List ℕ) (i : ℕ) → i < length bytes → p (drop i bytes) ≡ false
    → i + 1 + place_of p (drop (i + 1) bytes) ≡ i + place_of p (drop i bytes)
place_later p bytes i h e0 =
    let d = drop_more bytes i 0 h in
    let f : p (get_or bytes i 0 ∷ drop (i + 1) bytes) ≡ false = ap p (sym d) ∙ e0 in
    let e : place_of p (get_or bytes i 0 ∷ drop (i + 1) bytes) ≡ suc (place_of p (drop (i + 1) bytes)) =
    ap (λ b. cond b 0 (suc (place_of p (drop (i + 1) bytes)))) f in
    omega (arith, e, ap (place_of p) d)

-- each spelling of the table has a byte
abbrev pub all_spelled : {A : Type 0} → List (List ℕ × A) → Bool
all_spelled [] = true
all_spelled (r ∷ rs) = elim r.0 [ [] ↦ false | b ∷ bs ↦ all_spelled rs ]

found_row : {A : Type 0} (s bytes : List ℕ) (a : A) (rs : List (List ℕ × A)) (t : Bool)
    → IfSome (first_row rs bytes) (λ f. 0 < f.0) → 0 < length s
    → IfSome (cond t (Some (length s, a)) (first_row rs bytes)) (λ f. 0 < f.0)
found_row s bytes a rs true rest h = h
found_row s bytes a rs false rest h = rest

pub row_is_spelled : {A : Type 0} (rows : List (List ℕ × A)) (bytes : List ℕ) → all_spelled rows ≡ true
    → IfSome (first_row rows bytes) (λ f. 0 < f.0)
row_is_spelled [] bytes h = tt
row_is_spelled (([], a) ∷ rs) bytes h = absurd (cc)
row_is_spelled ((b ∷ bs, a) ∷ rs) bytes h =
    found_row (b ∷ bs) bytes a rs (starts_with nat_eq bytes (b ∷ bs)) (row_is_spelled rs bytes h) (omega arith)

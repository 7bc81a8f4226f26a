-- Settling item by item gives what the functions of the definition give.
use Rattle.std.proofs.Common.{◌≡◌, ℕ, zero, suc, ◌-◌, Bool, true, false, if◌then◌else◌, nat_le, List, [], ◌∷◌, ◌++◌, length, refl, ap, ◌∙◌, arith, append_assoc, append-nil, Result, Ok, Err}
use Rattle.std.specs.List.{sum_by}
use Rattle.std.proofs.lemmas.List.Sums.{sum_by-append}
use Rattle.dae_tree.specs.declared.faults.LexError.{LexError}
use Rattle.dae_tree.specs.declared.faults.LexError.TheVariants.{Refused}
use Rattle.dae_tree.specs.declared.faults.Construct.TheVariants.{LiteralsTooLong}
use Rattle.dae_tree.specs.Replacing.{TokenRead, TextItem, taken, replaced, refused, Tested, token, failed, tested_one, literal_length, within_replacements, within_tokens, tested, within_literals, before_all, outcome}
use Rattle.dae_tree.specs.Tokens.{count_replaced}
use Rattle.dae_lex.specs.Settling.{LexState, settle, step, keep}

-- one list after another
abbrev pub then_settle : Result LexState LexError → List TextItem → Result LexState LexError
then_settle (Ok t) ys = settle t ys
then_settle (Err e) ys = Err e

abbrev pub state : List TokenRead → ℕ → ℕ → ℕ → LexState
state reads t r l = record { tokens = reads; room = record { tokens = t; replacements = r; literal_bytes = l } }

abbrev size : TokenRead → ℕ
size t = literal_length t.meaning

-- what the definition gives, where these tokens came before
abbrev pub answer : List TokenRead → ℕ → ℕ → ℕ → Result (List TokenRead) LexError → ℕ → Result LexState LexError
answer before t r l (Ok reads) used =
    Ok (state (before ++ reads) (t - length reads) (r - used) (l - sum_by (λ t. literal_length t.meaning) reads))
answer before t r l (Err e) used = Err e

abbrev ok_state : List TokenRead → ℕ → ℕ → ℕ → Result LexState LexError
ok_state reads t r l = Ok (state reads t r l)

take_more : (before : List TokenRead) (u : TokenRead) (t r l used : ℕ) (x : Result (List TokenRead) LexError)
    → answer (before ++ u ∷ []) t r (l - size u) x used ≡ answer before (suc t) r l (before_all u x) used
take_more before u t r l used (Ok reads) =
    let a : t - length reads ≡ suc t - suc (length reads) = omega arith in
    let b : (l - size u) - sum_by size reads ≡ l - sum_by size (u ∷ reads) = omega (arith, sum_by-append size (u ∷ []) reads) in
    ap (λ ts. ok_state ts (t - length reads) (r - used) ((l - size u) - sum_by size reads)) (append_assoc before (u ∷ []) reads)
    ∙ ap (λ n. ok_state (before ++ u ∷ reads) n (r - used) ((l - size u) - sum_by size reads)) a
    ∙ ap (λ n. ok_state (before ++ u ∷ reads) (suc t - suc (length reads)) (r - used) n) b
take_more before u t r l used (Err e) = refl

one_more : (before : List TokenRead) (t r l used : ℕ) (x : Result (List TokenRead) LexError) → answer before t r l x used ≡ answer before t (suc r) l x (suc used)
one_more before t r l used (Ok reads) = let left : r - used ≡ suc r - suc used = omega arith in rw left refl
one_more before t r l used (Err e) = refl

module _ (before : List TokenRead) (t r l used : ℕ) (is : List TextItem) (ys : List Tested)
    (rest : (after : List TokenRead) (k : ℕ) → settle (state after t r k) is ≡ answer after t r k (outcome (within_literals k ys)) used) where
  fits : (u : TokenRead) (b : Bool)
      → ◌≡◌ {A = Result LexState LexError}
      (elim (if b then Ok (state (before ++ u ∷ []) t r (l - size u)) else Err (Refused LiteralsTooLong u.place)) [ Ok s ↦ settle s is | Err e ↦ Err e ])
      (answer before (suc t) r l (outcome (if b then token u ∷ within_literals (l - size u) ys else failed (Refused LiteralsTooLong u.place) ∷ within_literals l ys)) used)
  fits u true = rest (before ++ u ∷ []) (l - size u) ∙ take_more before u t r l used (outcome (within_literals (l - size u) ys))
  fits u false = refl

  -- a token that is tested: it is put out, or refused
  test_one : (x : Tested)
      → ◌≡◌ {A = Result LexState LexError}
      (elim (keep (state before (suc t) r l) t x) [ Ok s ↦ settle s is | Err e ↦ Err e ])
      (answer before (suc t) r l (outcome (within_literals l (x ∷ ys))) used)
  test_one (token u) = fits u (nat_le (size u) l)
  test_one (failed e) = refl

ended : (before : List TokenRead) (t r l : ℕ) → Ok (state before t r l) ≡ answer before t r l (Ok []) 0
ended before t r l =
    let a : t - 0 ≡ t = omega arith in
    let b : r - 0 ≡ r = omega arith in
    let d : l - 0 ≡ l = omega arith in
    rw (append-nil before, a, b, d) refl

pub settle_is : (items : List TextItem) (before : List TokenRead) (t r l : ℕ)
    → settle (state before t r l) items
    ≡ answer before t r l (outcome (within_literals l (tested (within_tokens t (within_replacements r items))))) (count_replaced items)
settle_is [] before zero zero l = ended before zero zero l
settle_is [] before zero (suc r) l = ended before zero (suc r) l
settle_is [] before (suc t) zero l = ended before (suc t) zero l
settle_is [] before (suc t) (suc r) l = ended before (suc t) (suc r) l
settle_is (taken m o ∷ is) before zero zero l = refl
settle_is (taken m o ∷ is) before zero (suc r) l = refl
settle_is (taken m o ∷ is) before (suc t) zero l =
    test_one before t 0 l (count_replaced is) is (tested (within_tokens t (within_replacements 0 is))) (λ after k. settle_is is after t 0 k) (tested_one m o)
settle_is (taken m o ∷ is) before (suc t) (suc r) l =
    test_one before t (suc r) l (count_replaced is) is (tested (within_tokens t (within_replacements (suc r) is))) (λ after k. settle_is is after t (suc r) k) (tested_one m o)
settle_is (replaced o ∷ is) before zero zero l = refl
settle_is (replaced o ∷ is) before (suc t) zero l = refl
settle_is (replaced o ∷ is) before t (suc r) l =
    settle_is is before t r l ∙ one_more before t r l (count_replaced is) (outcome (within_literals l (tested (within_tokens t (within_replacements r is)))))
settle_is (refused e ∷ is) before zero zero l = refl
settle_is (refused e ∷ is) before zero (suc r) l = refl
settle_is (refused e ∷ is) before (suc t) zero l = refl
settle_is (refused e ∷ is) before (suc t) (suc r) l = refl

after_first : (x : TextItem) (xs ys : List TextItem) (s : LexState) (r : Result LexState LexError) → step s x ≡ r
    → ((t : LexState) → settle t (xs ++ ys) ≡ then_settle (settle t xs) ys)
    → settle s (x ∷ (xs ++ ys)) ≡ then_settle (settle s (x ∷ xs)) ys
after_first x xs ys s (Ok t) e rest = rw (e, settle) (rest t)
after_first x xs ys s (Err f) e rest = rw (e, settle) refl

pub settle_append : (xs ys : List TextItem) (s : LexState) → settle s (xs ++ ys) ≡ then_settle (settle s xs) ys
settle_append [] ys s = refl
settle_append (x ∷ xs) ys s = after_first x xs ys s (step s x) refl (λ t. settle_append xs ys t)

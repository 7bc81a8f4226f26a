-- The instruction that a word spells is the one that is found by its fields.
use Rattle.std.proofs.Common.{◌≡◌, ◌≢◌, ℕ, zero, suc, ◌%◌, ◌^◌, ◌<◌, ℤ, pos, Bool, true, false, ◌==◌, if◌then◌else◌, Option, Some, None, IfSome, IfNone, List, [], ◌∷◌, ◌⊎◌, inl, inr, refl, sym, ap, ◌∙◌, subst, cond, arith, rules}
use Rattle.std.specs.Prelude.{slice_get}
use Rattle.std.specs.List.{find}
use Rattle.std.proofs.lemmas.Bool.{eqb-true, eq-eqb}
use Rattle.std.proofs.lemmas.Int.{ints}
use Rattle.dae_encode.specs.Instructions.{field, imm_i, imm_s, imm_b, imm_u, imm_j}
use Rattle.dae_encode.specs.Spelling.{layout, encoded, InRange, listed_for, decode}
use Rattle.dae_encode.specs.Decoding.{branches, loads, stores, immediates, shifts, operations, multiplications, registers_only, by_fields}
use Rattle.dae_encode.specs.declared.Inst.{Inst}
use Rattle.dae_encode.specs.declared.Inst.TheVariants.{Ecall}
use Rattle.dae_encode.proofs.Fields.{lays_r, lays_i, lays_shift, lays_s, lays_b, lays_u, lays_j}
use Rattle.dae_encode.proofs.Spelled.{fields_encoded, encoded_below}
use Rattle.dae_encode.proofs.Words.{encoded_fields}

-- ---- what is found by fields stands in the list

-- the instruction, if any, stands in the word's list
unfoldable Stands : ℕ → Option Inst → Type 0
Stands w o = IfSome o (λ i. (k : ℕ) × (slice_get (listed_for w) k ≡ Some i))

nothing_stands : (w : ℕ) → Stands w None
unfolding Stands
nothing_stands w = tt

at : (w k : ℕ) (i : Inst) → slice_get (listed_for w) k ≡ Some i → Stands w (Some i)
unfolding Stands
at w k i e = (k, e)

if_stands : (w a n : ℕ) (x y : Option Inst) → Stands w x → Stands w y → Stands w (if a == n then x else y)
if_stands w a n x y h k = if_either (a == n)
  where
    if_either : (b : Bool) → Stands w (if b then x else y)
    if_either true = h
    if_either false = k

branches_stand : (w f3 : ℕ) → Stands w (branches f3 (field 15 5 w) (field 20 5 w) (imm_b w))
unfolding Stands branches
branches_stand w zero = (4, refl)
branches_stand w (suc zero) = (5, refl)
branches_stand w (suc (suc zero)) = tt
branches_stand w (suc (suc (suc zero))) = tt
branches_stand w (suc (suc (suc (suc zero)))) = (6, refl)
branches_stand w (suc (suc (suc (suc (suc zero))))) = (7, refl)
branches_stand w (suc (suc (suc (suc (suc (suc zero)))))) = (8, refl)
branches_stand w (suc (suc (suc (suc (suc (suc (suc zero))))))) = (9, refl)
branches_stand w (suc (suc (suc (suc (suc (suc (suc (suc n)))))))) = tt

loads_stand : (w f3 : ℕ) → Stands w (loads f3 (field 7 5 w) (field 15 5 w) (imm_i w))
unfolding Stands loads
loads_stand w zero = (10, refl)
loads_stand w (suc zero) = (11, refl)
loads_stand w (suc (suc zero)) = (12, refl)
loads_stand w (suc (suc (suc zero))) = tt
loads_stand w (suc (suc (suc (suc zero)))) = (13, refl)
loads_stand w (suc (suc (suc (suc (suc zero))))) = (14, refl)
loads_stand w (suc (suc (suc (suc (suc (suc n)))))) = tt

stores_stand : (w f3 : ℕ) → Stands w (stores f3 (field 15 5 w) (field 20 5 w) (imm_s w))
unfolding Stands stores
stores_stand w zero = (15, refl)
stores_stand w (suc zero) = (16, refl)
stores_stand w (suc (suc zero)) = (17, refl)
stores_stand w (suc (suc (suc n))) = tt

immediates_stand : (w f3 : ℕ) → Stands w (immediates f3 (field 7 5 w) (field 15 5 w) (imm_i w))
unfolding Stands immediates
immediates_stand w zero = (18, refl)
immediates_stand w (suc zero) = tt
immediates_stand w (suc (suc zero)) = (19, refl)
immediates_stand w (suc (suc (suc zero))) = (20, refl)
immediates_stand w (suc (suc (suc (suc zero)))) = (21, refl)
immediates_stand w (suc (suc (suc (suc (suc zero))))) = tt
immediates_stand w (suc (suc (suc (suc (suc (suc zero)))))) = (22, refl)
immediates_stand w (suc (suc (suc (suc (suc (suc (suc zero))))))) = (23, refl)
immediates_stand w (suc (suc (suc (suc (suc (suc (suc (suc n)))))))) = tt

operations_stand : (w f3 : ℕ) → Stands w (operations f3 (field 7 5 w) (field 15 5 w) (field 20 5 w))
unfolding Stands
operations_stand w zero = (27, refl)
operations_stand w (suc zero) = (29, refl)
operations_stand w (suc (suc zero)) = (30, refl)
operations_stand w (suc (suc (suc zero))) = (31, refl)
operations_stand w (suc (suc (suc (suc zero)))) = (32, refl)
operations_stand w (suc (suc (suc (suc (suc zero))))) = (33, refl)
operations_stand w (suc (suc (suc (suc (suc (suc zero)))))) = (35, refl)
operations_stand w (suc (suc (suc (suc (suc (suc (suc zero))))))) = (36, refl)
operations_stand w (suc (suc (suc (suc (suc (suc (suc (suc n)))))))) = tt

multiplications_stand : (w f3 : ℕ) → Stands w (multiplications f3 (field 7 5 w) (field 15 5 w) (field 20 5 w))
unfolding Stands
multiplications_stand w zero = (37, refl)
multiplications_stand w (suc zero) = (38, refl)
multiplications_stand w (suc (suc zero)) = (39, refl)
multiplications_stand w (suc (suc (suc zero))) = (40, refl)
multiplications_stand w (suc (suc (suc (suc zero)))) = (41, refl)
multiplications_stand w (suc (suc (suc (suc (suc zero))))) = (42, refl)
multiplications_stand w (suc (suc (suc (suc (suc (suc zero)))))) = (43, refl)
multiplications_stand w (suc (suc (suc (suc (suc (suc (suc zero))))))) = (44, refl)
multiplications_stand w (suc (suc (suc (suc (suc (suc (suc (suc n)))))))) = tt

shifts_stand : (w f3 f7 : ℕ) → Stands w (shifts f3 f7 (field 7 5 w) (field 15 5 w) (field 20 5 w))
unfolding shifts
shifts_stand w f3 f7 =
    if_stands w f3 1 _ _ (if_stands w f7 0 _ _ (at w 24 _ refl) (nothing_stands w))
    (if_stands w f7 0 _ _ (at w 25 _ refl) (if_stands w f7 32 _ _ (at w 26 _ refl) (nothing_stands w)))

registers_only_stand : (w f3 f7 : ℕ) → Stands w (registers_only f3 f7 (field 7 5 w) (field 15 5 w) (field 20 5 w))
unfolding registers_only
registers_only_stand w f3 f7 =
    if_stands w f7 0 _ _ (operations_stand w f3)
    (if_stands w f7 1 _ _ (multiplications_stand w f3)
    (if_stands w f7 32 _ _ (if_stands w f3 0 _ _ (at w 28 _ refl) (if_stands w f3 5 _ _ (at w 34 _ refl) (nothing_stands w))) (nothing_stands w)))

fields_stand : (w : ℕ) → Stands w (by_fields w)
unfolding by_fields
fields_stand w =
    let op = field 0 7 w in
    let f3 = field 12 3 w in
    let f7 = field 25 7 w in
    if_stands w op 0b0110111 _ _ (at w 0 _ refl)
    (if_stands w op 0b0010111 _ _ (at w 1 _ refl)
    (if_stands w op 0b1101111 _ _ (at w 2 _ refl)
    (if_stands w op 0b1100111 _ _ (if_stands w f3 0 _ _ (at w 3 _ refl) (nothing_stands w))
    (if_stands w op 0b1100011 _ _ (branches_stand w f3)
    (if_stands w op 0b0000011 _ _ (loads_stand w f3)
    (if_stands w op 0b0100011 _ _ (stores_stand w f3)
    (if_stands w op 0b0010011 _ _ (if_stands w (f3 % 4) 1 _ _ (shifts_stand w f3 f7) (immediates_stand w f3))
    (if_stands w op 0b0110011 _ _ (registers_only_stand w f3 f7)
    (if_stands w w 0x73 _ _ (at w 45 _ refl) (nothing_stands w))))))))))

-- ---- all that stands in the list is in range

abbrev AllIn : List Inst → Type 0
AllIn [] = Unit
AllIn (i ∷ is) = InRange i × AllIn is

one_step : (i j : Inst) (is : List Inst) (test : Inst → Bool) (b : Bool) → test i ≡ b → InRange i → (find test is ≡ Some j → InRange j × (test j ≡ true)) → cond b (Some i) (find test is) ≡ Some j → InRange j × (test j ≡ true)
one_step i j is test true t h rest e = let same : i ≡ j = cc in subst (λ (x : Inst). InRange x × (test x ≡ true)) same (h, t)
one_step i j is test false t h rest e = rest e

one_of : (is : List Inst) → AllIn is → (test : Inst → Bool) (j : Inst) → find test is ≡ Some j → InRange j × (test j ≡ true)
one_of [] h test j e = cc
one_of (i ∷ is) (h, hs) test j e = one_step i j is test (test i) refl h (one_of is hs test j) e

-- and what passes the test is not passed over
not_passed : (i : Inst) (is : List Inst) (test : Inst → Bool) (b : Bool) → test i ≡ b → (b ≡ true) ⊎ (find test is ≢ None) → cond b (Some i) (find test is) ≢ None
not_passed i is test true t h e = cc
not_passed i is test false t (inl h) e = cc
not_passed i is test false t (inr h) e = h e

not_none : (is : List Inst) (test : Inst → Bool) (k : ℕ) (i : Inst) → slice_get is k ≡ Some i → test i ≡ true → find test is ≢ None
not_none [] test k i s t e = cc
not_none (x ∷ is) test zero i s t e = let same : x ≡ i = cc in not_passed x is test (test x) refl (inl (rw same t)) e
not_none (x ∷ is) test (suc k) i s t e = not_passed x is test (test x) refl (inr (not_none is test k i s t)) e

all_in : (w : ℕ) → w < 2 ^ 32 → AllIn (listed_for w)
unfolding InRange layout
all_in w h =
    let op = field 0 7 w in
    let f7 = field 25 7 w in
    let r = (lays_r w op f7 h refl refl).0 in
    let i = (lays_i w op h refl).0 in
    let shift = (lays_shift w op f7 h refl refl).0 in
    let s = (lays_s w op h refl).0 in
    let b = (lays_b w op h refl).0 in
    let u = (lays_u w op h refl).0 in
    let j = (lays_j w op h refl).0 in
    let call : InRange Ecall = grind (arith, ints) in
    (u, (u, (j, (i, (b, (b, (b, (b, (b, (b, (i, (i, (i, (i, (i, (s, (s, (s, (i, (i, (i, (i, (i, (i, (shift, (shift, (shift, (r, (r, (r, (r, (r, (r, (r, (r, (r, (r, (r, (r, (r, (r, (r, (r, (r, (r, (call, tt))))))))))))))))))))))))))))))))))))))))))))))

-- ---- both are one

pub decode_is : (w : ℕ) → w < 2 ^ 32 → decode w ≡ by_fields w
unfolding decode Stands
decode_is w h = both (find (λ i. encoded i == w) (listed_for w)) refl (by_fields w) refl
  where
    both : (r : Option Inst) → find (λ i. encoded i == w) (listed_for w) ≡ r → (o : Option Inst) → by_fields w ≡ o → r ≡ by_fields w
    both (Some j) found o e =
        let one = one_of (listed_for w) (all_in w h) (λ i. encoded i == w) j found in
        let same : encoded j ≡ w = eqb-true (encoded j) w (one.1) in
        sym (ap by_fields (sym same) ∙ fields_encoded j (one.0))
    both None found None e = sym e
    both None found (Some i) e =
        let word = (encoded_fields w i h e).1 in
        let place : Stands w (Some i) = rw e at (fields_stand w) in
        absurd (not_none (listed_for w) (λ i. encoded i == w) (place.0) i (place.1) (eq-eqb (encoded i) w word) found)

-- the word of an instruction whose fields are in range spells that instruction
pub decode_encoded : (i : Inst) → InRange i → decode (encoded i) ≡ Some i
decode_encoded i h = decode_is (encoded i) (encoded_below i h) ∙ fields_encoded i h

-- a word that decodes is that of an instruction whose fields are in range
pub encoded_decode : (w : ℕ) (i : Inst) → w < 2 ^ 32 → decode w ≡ Some i → InRange i × (encoded i ≡ w)
encoded_decode w i h e = encoded_fields w i h (sym (decode_is w h) ∙ e)

-- a word that does not decode is that of no instruction whose fields are in range
not_encoded : (w : ℕ) → decode w ≡ None → (i : Inst) → InRange i → encoded i ≢ w
not_encoded w n i h e = let back = decode_encoded i h in let same : decode (encoded i) ≡ decode w = ap decode e in cc

pub where_none : (w : ℕ) (o : Option Inst) → o ≡ decode w → IfNone o ((i : Inst) → InRange i → encoded i ≢ w)
where_none w None e = not_encoded w (sym e)
where_none w (Some i) e = tt

pub where_some : (w : ℕ) → w < 2 ^ 32 → (o : Option Inst) → o ≡ decode w → IfSome o (λ i. InRange i × (encoded i ≡ w))
where_some w h None e = tt
where_some w h (Some i) e = encoded_decode w i h (sym e)

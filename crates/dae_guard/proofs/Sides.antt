-- An instruction that is sure on ranges is done by each processor that a side stands for.
use Rattle.std.proofs.Common.{◌≡◌, ◌≢◌, ℕ, zero, suc, ◌+◌, ◌<◌, ◌≤◌, ◌⊎◌, inl, inr, Bool, true, false, not, ◌&&◌, List, [], ◌∷◌, refl, ap, sym, ◌∙◌, subst, arith, get_or-set_same, get_or-set_other, length-set}
use Rattle.std.specs.Prelude.{Option, Some, None, nat_lt, nat_eq, ◌==◌, if◌then◌else◌, slice_index, slice_set}
use Rattle.std.proofs.lemmas.Bool.Decides.{nat_tests}
use Rattle.dae_base.proofs.Laws.{and_true, not_true, if_some_is}
use Rattle.dae_encode.specs.declared.Inst.{Inst}
use Rattle.dae_encode.specs.Instructions.{value, next}
use Rattle.dae_encode.specs.Spelling.{InRange}
use Rattle.dae_encode.specs.Processor.{Processor, operand, with_result}
use Rattle.dae_ranges.specs.declared.Range.{Range}
use Rattle.dae_ranges.specs.Ranges.{Has, single, any_word, is_single, each, decided}
use Rattle.dae_ranges.proofs.Laws.{each_has, single_is, has_single, has_any, decided_is, below_has, from_has}
use Rattle.dae_guard.specs.Nodes.{range_at, source, is_plain, with_range}
use Rattle.dae_guard.specs.Moves.{InstructionKind, Tests, Jumps, Plain, shape, test, goes_to, tells, against, result, Order, Free, Below, NotBelow, Equal, Unequal, order, first_kept, second_kept, narrowed, MoveOutcome, told, either, outcomes_by}
use Rattle.dae_guard.specs.StandsFor.{Registers}
use Rattle.dae_guard.proofs.Values.{result_has, plain_next, jump_next, Meets, other, Tested, tested, tells_small}

-- ---- registers

zero_of : (r : ℕ) → (r == 0) ≡ true → r ≡ 0
zero_of r h = grind (arith, nat_tests)

pub reads : (rs : List Range) (p : Processor) (g : Range) (w r : ℕ) → Registers rs p.registers → Has g w → Has (source rs g r) (operand p w r)
reads rs p g w r h k = by (r == 0) (nat_lt r 28) refl refl where
  by : (a b : Bool) → (r == 0) ≡ a → nat_lt r 28 ≡ b → Has (if a then single 0 else (if b then range_at rs r else g)) (if b then (if a then 0 else slice_index p.registers r) else w)
  by true true e f = has_single 0 (omega arith)
  by true false e f = absurd (let z = zero_of r e in (grind (arith, nat_tests)))
  by false true e f = h.each r (grind (arith, nat_tests)) (grind (arith, nat_tests))
  by false false e f = k

-- a plain source reads its own register
pub holds_plain : (p : Processor) (w r : ℕ) → is_plain r ≡ true → operand p w r ≡ slice_index p.registers r
holds_plain p w r h =
    let both = and_true (nat_lt 0 r) (nat_lt r 28) h in
    let b0 = both.0 in let b1 = both.1 in
    let e : (r == 0) ≡ false = grind (arith, nat_tests) in
    rw (e, b1) refl

-- the ranges after one is put, at each register
range_put : (rs : List Range) (r s : ℕ) (v : Range) → s ≢ r → range_at (slice_set rs r v) s ≡ range_at rs s
range_put rs r s v n = get_or-set_other rs r s v any_word n

range_same : (rs : List Range) (r x : ℕ) (v : Range) → Has v x → Has (range_at (slice_set rs r v) r) x
range_same [] r x v h = has_any x h.small
range_same (z ∷ rs) zero x v h = h
range_same (z ∷ rs) (suc r) x v h = range_same rs r x v h

pub kept : (rs : List Range) (xs : List ℕ) (r : ℕ) (v : Range) → Registers rs xs → (is_plain r ≡ true → Has v (slice_index xs r)) → Registers (with_range r v rs) xs
kept rs xs r v h k = by (is_plain r) refl where
  by : (b : Bool) → is_plain r ≡ b → Registers (if b then slice_set rs r v else rs) xs
  by false e = h
  by true e = record { count = h.count; each = λ s z l. one s z l (nat_eq s r) refl }
    where
      one : (s : ℕ) → 0 < s → s < 28 → (b : Bool) → nat_eq s r ≡ b → Has (range_at (slice_set rs r v) s) (slice_index xs s)
      one s z l true f = let same : s ≡ r = grind (arith, nat_tests) in rw same (range_same rs r (slice_index xs r) v (k e))
      one s z l false f = let other : s ≢ r = grind (arith, nat_tests) in rw (range_put rs r s v other) (h.each s z l)

pub put_result : (rs : List Range) (xs : List ℕ) (r x : ℕ) (v : Range) → Registers rs xs → Has v x → Registers (with_range r v rs) (with_result r x xs)
put_result rs xs r x v h k = by (nat_lt 0 r && nat_lt r 28) refl where
  by : (b : Bool) → (nat_lt 0 r && nat_lt r 28) ≡ b → Registers (if b then slice_set rs r v else rs) (if b then slice_set xs r x else xs)
  by false e = h
  by true e =
      let both = and_true (nat_lt 0 r) (nat_lt r 28) e in
      let b1 = both.1 in
      let few : r < 28 = grind (arith, nat_tests) in
      let count = h.count in
      record { count = length-set xs r x ∙ h.count; each = λ s z l. one s z l (nat_eq s r) refl few }
    where
      one : (s : ℕ) → 0 < s → s < 28 → (b : Bool) → nat_eq s r ≡ b → r < 28 → Has (range_at (slice_set rs r v) s) (slice_index (slice_set xs r x) s)
      one s z l true f few =
          let same : s ≡ r = grind (arith, nat_tests) in
          let count = h.count in
          rw (same, get_or-set_same xs r x 0 (omega arith)) (range_same rs r x v k)
      one s z l false f few = let other : s ≢ r = grind (arith, nat_tests) in rw (range_put rs r s v other, get_or-set_other xs r s x 0 other) (h.each s z l)

-- ---- tests

first_has : (o : Order) (b : Bool) (x : Range) (v n : ℕ) → Meets o b v n → Has x v → Has (first_kept o b n x) v
first_has Free b x v n m h = h
first_has Below true x v n m h = below_has n x v h (grind (arith, nat_tests))
first_has Below false x v n m h = from_has n x v h (grind (arith, nat_tests))
first_has NotBelow true x v n m h = let k = not_true (nat_lt v n) m in from_has n x v h (grind (arith, nat_tests))
first_has NotBelow false x v n m h = below_has n x v h (by (nat_lt v n) refl m) where
  by : (b : Bool) → nat_lt v n ≡ b → not b ≡ false → v < n
  by true e f = grind (arith, nat_tests)
  by false e f = cc
first_has Equal true x v n m h = let e : v ≡ n = grind (arith, nat_tests) in rw (← e) (has_single v h.small)
first_has Equal false x v n m h = h
first_has Unequal true x v n m h = h
first_has Unequal false x v n m h = by (v == n) refl m where
  by : (b : Bool) → (v == n) ≡ b → not b ≡ false → Has (single n) v
  by true e f = let e : v ≡ n = grind (arith, nat_tests) in rw (← e) (has_single v h.small)
  by false e f = cc

second_has : (o : Order) (b : Bool) (y : Range) (n w : ℕ) → Meets o b n w → Has y w → Has (second_kept o b n y) w
second_has Free b y n w m h = h
second_has Below true y n w m h = from_has (n + 1) y w h (grind (arith, nat_tests))
second_has Below false y n w m h = below_has (n + 1) y w h (grind (arith, nat_tests))
second_has NotBelow true y n w m h = let k = not_true (nat_lt n w) m in below_has (n + 1) y w h (grind (arith, nat_tests))
second_has NotBelow false y n w m h = from_has (n + 1) y w h (by (nat_lt n w) refl m) where
  by : (b : Bool) → nat_lt n w ≡ b → not b ≡ false → n + 1 ≤ w
  by true e f = grind (arith, nat_tests)
  by false e f = cc
second_has Equal true y n w m h = let e : n ≡ w = grind (arith, nat_tests) in rw e (has_single w h.small)
second_has Equal false y n w m h = h
second_has Unequal true y n w m h = h
second_has Unequal false y n w m h = by (n == w) refl m where
  by : (b : Bool) → (n == w) ≡ b → not b ≡ false → Has (single n) w
  by true e f = let e : n ≡ w = grind (arith, nat_tests) in rw e (has_single w h.small)
  by false e f = cc

narrows : (o : Order) (b : Bool) (first second : ℕ) (x y : Range) (rs : List Range) (xs : List ℕ) (v w : ℕ) → Registers rs xs → Meets o b v w → Has x v → Has y w
    → (is_plain first ≡ true → v ≡ slice_index xs first) → (is_plain second ≡ true → w ≡ slice_index xs second) → Registers (narrowed o b first second x y rs) xs
narrows o b first second x y rs xs v w h m p q e f = by (is_plain first && is_single y) refl (is_plain second && is_single x) refl where
  by : (k : Bool) → (is_plain first && is_single y) ≡ k → (l : Bool) → (is_plain second && is_single x) ≡ l
      → Registers (if k then with_range first (first_kept o b y.lo x) rs else (if l then with_range second (second_kept o b x.lo y) rs else rs)) xs
  by true g l i =
      let both = and_true (is_plain first) (is_single y) g in
      let n : w ≡ y.lo = single_is y w both.1 q in
      kept rs xs first (first_kept o b y.lo x) h (λ z. subst (Has (first_kept o b y.lo x)) (e z) (first_has o b x v y.lo (subst (λ j. Meets o b v j) n m) p))
  by false g true i =
      let both = and_true (is_plain second) (is_single x) i in
      let n : v ≡ x.lo = single_is x v both.1 p in
      kept rs xs second (second_kept o b x.lo y) h (λ z. subst (Has (second_kept o b x.lo y)) (f z) (second_has o b y x.lo w (subst (λ j. Meets o b j w) n m) q))
  by false g false i = h

-- ---- outcomes

pub record Comes (rs : List Range) (xs : List ℕ) (x k : ℕ) (o : MoveOutcome) : Type 0 where
  pub value : Has o.value x
  pub counter : o.counter ≡ k
  pub registers : Registers o.registers xs

abbrev pub AnyComes : List Range → List ℕ → ℕ → ℕ → List MoveOutcome → Type 0
AnyComes rs xs x k [] = ⊥
AnyComes rs xs x k (o ∷ os) = Comes rs xs x k o ⊎ AnyComes rs xs x k os

pub comes : (i : Inst) (c : ℕ) (first second : ℕ) (x y : Range) (rs : List Range) (xs : List ℕ) (v w : ℕ) (os : List MoveOutcome) → InRange i → Registers rs xs → Has x v → Has y w
    → (is_plain first ≡ true → v ≡ slice_index xs first) → (is_plain second ≡ true → w ≡ slice_index xs second)
    → (is_plain second ≡ true → other i w ≡ w) → outcomes_by (shape i) i c first second x y rs ≡ Some os → AnyComes rs xs (value i c v w) (next i c v w) os
comes i c first second x y rs xs v w os r h p q e f own k = by (shape i) refl k where
  by : (s : InstructionKind) → shape i ≡ s → outcomes_by s i c first second x y rs ≡ Some os → AnyComes rs xs (value i c v w) (next i c v w) os
  by Plain s g =
      let is : record { value = result i c x y; counter = next i c 0 0; registers = rs } ∷ [] ≡ os = cc in
      subst (λ (os : List MoveOutcome). AnyComes rs xs (value i c v w) (next i c v w) os) is (inl (record { value = result_has i c v w x y r p q; counter = sym (plain_next i c v w s); registers = h }))
  by Jumps s g =
      let one : MoveOutcome = record { value = result i c x y; counter = next i c x.lo 0; registers = rs } in
      let k = if_some_is (each (λ v. nat_eq (next i c v 0) (next i c x.lo 0)) x) (Some (one ∷ [])) os g in
      let k0 = each_has (λ v. nat_eq (next i c v 0) (next i c x.lo 0)) x v k.0 p in
      let same : next i c v 0 ≡ next i c x.lo 0 = grind (arith, nat_tests) in
      let is : one ∷ [] ≡ os = cc in
      subst (λ (os : List MoveOutcome). AnyComes rs xs (value i c v w) (next i c v w) os) is (inl (record { value = result_has i c v w x y r p q; counter = sym (jump_next i c v w s ∙ same); registers = h }))
  by Tests s g = go (decided (test i) x (against i y)) refl g
    where
      t : Tested i c v w y
      t = tested i c v w y s r q

      told_is : (b : Bool) (rs' : List Range) → test i v w ≡ b → Registers rs' xs → Comes rs xs (value i c v w) (next i c v w) (told i c rs' b)
      told_is b rs' l z = record {
        value = rw (t.result', l) (has_single (tells i b) (tells_small i b));
        counter = sym (t.counter ∙ ap (goes_to i c) l);
        registers = z;
      }

      narrow : (b : Bool) → test i v w ≡ b → Registers (narrowed (order i) b first second x (against i y) rs) xs
      narrow b l = narrows (order i) b first second x (against i y) rs xs v (other i w) h (subst (λ b. Meets (order i) b v (other i w)) l t.meets) p t.has e (λ z. own z ∙ f z)

      go : (o : Option Bool) → decided (test i) x (against i y) ≡ o → Some (either i c first second x (against i y) rs o) ≡ Some os → AnyComes rs xs (value i c v w) (next i c v w) os
      go (Some b) l m =
          let is : told i c rs b ∷ [] ≡ os = cc in
          let b' : test i v w ≡ b = sym t.same ∙ decided_is (test i) x (against i y) v (other i w) b l p t.has in
          subst (λ (os : List MoveOutcome). AnyComes rs xs (value i c v w) (next i c v w) os) is (inl (told_is b rs b' h))
      go None l m = last (test i v w) refl
        where
          is : told i c (narrowed (order i) false first second x (against i y) rs) false ∷ (told i c (narrowed (order i) true first second x (against i y) rs) true ∷ []) ≡ os
          is = cc

          last : (b : Bool) → test i v w ≡ b → AnyComes rs xs (value i c v w) (next i c v w) os
          last false n = subst (λ (os : List MoveOutcome). AnyComes rs xs (value i c v w) (next i c v w) os) is (inl (told_is false (narrowed (order i) false first second x (against i y) rs) n (narrow false n)))
          last true n = subst (λ (os : List MoveOutcome). AnyComes rs xs (value i c v w) (next i c v w) os) is (inr (inl (told_is true (narrowed (order i) true first second x (against i y) rs) n (narrow true n))))

-- What becomes of spans where a variable is seen.
use Rattle.std.proofs.Common.{◌≡◌, ℕ, zero, suc, ◌+◌, ◌<◌, ◌≤◌, ◌⊎◌, inl, inr, Bool, true, false, ◌||◌, List, ◌∷◌, ◌++◌, length, take, get_or, Option, Some, None, refl, ap, sym, ◌∙◌, subst, arith, []}
use Rattle.std.specs.Prelude.{nat_eq, slice_get, slice_set, if◌then◌else◌}
use Rattle.std.specs.List.{AllByRecursion}
use Rattle.std.proofs.lemmas.Bool.Decides.{nat_tests}
use Rattle.std.proofs.lemmas.Option.{same_Some, slice_get_within}
use Rattle.dae_base.proofs.Laws.{or_true}
use Rattle.dae_ir.specs.Classes.{VariableSet}
use Rattle.dae_select_live.specs.Members.{member}
use Rattle.dae_select_live.proofs.Laws.{member_more}
use Rattle.dae_regalloc.specs.declared.Span.{Span}
use Rattle.dae_regalloc.specs.declared.spans.Spans.{Spans}
use Rattle.dae_regalloc.specs.Scan.{AreInOrder}
use Rattle.dae_regalloc.specs.Seen.{number_in, with_number, widened, AreNumbered, IsHeld, AreHeld, AreSeen, IsFurther}

-- ---- lists

at_set : (xs : List Span) (i : ℕ) (x y : Span) → slice_get xs i ≡ Some x → slice_get (slice_set xs i y) i ≡ Some y
at_set [] i x y e = absurd cc
at_set (w ∷ ws) zero x y e = refl
at_set (w ∷ ws) (suc i) x y e = at_set ws i x y e

set_cases : (xs : List Span) (i j : ℕ) (y z : Span) → slice_get (slice_set xs i y) j ≡ Some z → ((j ≡ i) × (z ≡ y)) ⊎ (slice_get xs j ≡ Some z)
set_cases [] i j y z e = absurd cc
set_cases (w ∷ ws) zero zero y z e = inl (refl, sym (same_Some y z e))
set_cases (w ∷ ws) zero (suc j) y z e = inr e
set_cases (w ∷ ws) (suc i) zero y z e = inr e
set_cases (w ∷ ws) (suc i) (suc j) y z e = elim (set_cases ws i j y z e) [ inl h ↦ inl (ap suc h.0, h.1) | inr h ↦ inr h ]

set_keeps : (xs : List Span) (i j : ℕ) (x y z : Span) → slice_get xs i ≡ Some x → slice_get xs j ≡ Some z → ((j ≡ i) × (z ≡ x)) ⊎ (slice_get (slice_set xs i y) j ≡ Some z)
set_keeps [] i j x y z at e = absurd cc
set_keeps (w ∷ ws) zero zero x y z at e = inl (refl, sym (same_Some w z e) ∙ same_Some w x at)
set_keeps (w ∷ ws) zero (suc j) x y z at e = inr e
set_keeps (w ∷ ws) (suc i) zero x y z at e = inr e
set_keeps (w ∷ ws) (suc i) (suc j) x y z at e = elim (set_keeps ws i j x y z at e) [ inl h ↦ inl (ap suc h.0, h.1) | inr h ↦ inr h ]

at_pushed : (xs : List Span) (y : Span) → slice_get (xs ++ y ∷ []) (length xs) ≡ Some y
at_pushed [] y = refl
at_pushed (w ∷ ws) y = at_pushed ws y

at_before : (xs : List Span) (y : Span) (j : ℕ) (x : Span) → slice_get xs j ≡ Some x → slice_get (xs ++ y ∷ []) j ≡ Some x
at_before [] y j x e = absurd cc
at_before (w ∷ ws) y zero x e = e
at_before (w ∷ ws) y (suc j) x e = at_before ws y j x e

pushed_cases : (xs : List Span) (y : Span) (j : ℕ) (x : Span) → slice_get (xs ++ y ∷ []) j ≡ Some x → (slice_get xs j ≡ Some x) ⊎ ((j ≡ length xs) × (y ≡ x))
pushed_cases [] y zero x e = inr (refl, same_Some y x e)
pushed_cases [] y (suc j) x e = absurd cc
pushed_cases (w ∷ ws) y zero x e = inl e
pushed_cases (w ∷ ws) y (suc j) x e = elim (pushed_cases ws y j x e) [ inl h ↦ inl h | inr h ↦ inr (ap suc h.0, h.1) ]

-- ---- the order

abbrev Within : ℕ → List Span → Type 0
Within n xs = AllByRecursion (λ x. x.last ≤ n) xs

order_set : (xs : List Span) (i from' n : ℕ) (x : Span) → AreInOrder from' xs → slice_get xs i ≡ Some x → x.first ≤ n → AreInOrder from' (slice_set xs i (widened x n))
order_set [] i from' n x order e le = tt
order_set (w ∷ ws) zero from' n x order e le =
    let same : w ≡ x = same_Some w x e in
    subst (λ (s : Span). (from' ≤ s.first) × (s.first ≤ n) × AreInOrder s.first ws) same (order.0, subst (λ (s : Span). s.first ≤ n) (sym same) le, order.2)
order_set (w ∷ ws) (suc i) from' n x order e le = (order.0, order.1, order_set ws i w.first n x order.2 e le)

order_pushed : (xs : List Span) (from' n : ℕ) (y : Span) → AreInOrder from' xs → Within n xs → from' ≤ y.first → n ≤ y.first → y.first ≤ y.last → AreInOrder from' (xs ++ y ∷ [])
order_pushed [] from' n y order within a b d = (a, d, tt)
order_pushed (w ∷ ws) from' n y order within a b d = (order.0, order.1, order_pushed ws w.first n y order.2 within.1 (let one = order.1 in let two = within.0 in omega arith) b d)

within_set : (xs : List Span) (i n : ℕ) (y : Span) → Within n xs → y.last ≤ n → Within n (slice_set xs i y)
within_set [] i n y within le = tt
within_set (w ∷ ws) zero n y within le = (le, within.1)
within_set (w ∷ ws) (suc i) n y within le = (within.0, within_set ws i n y within.1 le)

within_pushed : (xs : List Span) (n : ℕ) (y : Span) → Within n xs → y.last ≤ n → Within n (xs ++ y ∷ [])
within_pushed [] n y within le = (le, tt)
within_pushed (w ∷ ws) n y within le = (within.0, within_pushed ws n y within.1 le)

within_more : (xs : List Span) (n m : ℕ) → n ≤ m → Within n xs → Within m xs
within_more [] n m le within = tt
within_more (w ∷ ws) n m le within = ((let one = within.0 in omega arith), within_more ws n m le within.1)

first_within : (xs : List Span) (i from' n : ℕ) (x : Span) → AreInOrder from' xs → Within n xs → slice_get xs i ≡ Some x → x.first ≤ n
first_within [] i from' n x order within e = absurd cc
first_within (w ∷ ws) zero from' n x order within e = subst (λ (s : Span). s.first ≤ n) (same_Some w x e) (let one = order.1 in let two = within.0 in omega arith)
first_within (w ∷ ws) (suc i) from' n x order within e = first_within ws i w.first n x order.2 within.1 e

-- ---- numbers

number_here : (v k : ℕ) (f : ℕ → Option ℕ) → with_number v k f v ≡ Some k
number_here v k f = (let same : nat_eq v v ≡ true = grind (arith, nat_tests) in rw same refl)

number_cases : (v k u j : ℕ) (f : ℕ → Option ℕ) → with_number v k f u ≡ Some j → ((u ≡ v) × (j ≡ k)) ⊎ (f u ≡ Some j)
number_cases v k u j f e = by (nat_eq u v) refl e
  where
    by : (b : Bool) → nat_eq u v ≡ b → (if b then Some k else f u) ≡ Some j → ((u ≡ v) × (j ≡ k)) ⊎ (f u ≡ Some j)
    by true t e = inl (grind (arith, nat_tests), sym (same_Some k j e))
    by false t e = inr e

number_kept : (v k u j : ℕ) (f : ℕ → Option ℕ) → f v ≡ None → f u ≡ Some j → with_number v k f u ≡ Some j
number_kept v k u j f none e = by (nat_eq u v) refl
  where
    by : (b : Bool) → nat_eq u v ≡ b → (if b then Some k else f u) ≡ Some j
    by true t = (let same : u ≡ v = grind (arith, nat_tests) in let gone : f u ≡ None = ap f same ∙ none in absurd cc)
    by false t = e

-- ---- a variable whose span is there

pub widened_further : (old new : Spans) (v i : ℕ) → number_in old.numbers v ≡ Some i → ((x : Span) → slice_get old.spans.items i ≡ Some x → new.spans.items ≡ slice_set old.spans.items i (widened x old.places))
    → new.numbers ≡ old.numbers → new.places ≡ old.places → IsFurther (λ u. u ≡ v) old new
widened_further old new v i name spans numbers places = record {
  places = places;
  few = λ n le below. subst (λ (l : List (Option ℕ)). length l ≤ n) (sym numbers) le;
  numbered = λ nd.
      let m = nd.named v i name in let x = m.0 in let w = widened x n in
      let set = spans x m.1 in
      let first : x.first ≤ n = first_within xs i 0 n x nd.order nd.within m.1 in
      record {
        numbered = λ j y e.
            elim (set_cases xs i j w y (subst (λ (l : List Span). slice_get l j ≡ Some y) set e)) [
              | inl h ↦ (let old_one = nd.numbered i x m.1 in rw (h.1, h.0, numbers) old_one)
              | inr h ↦ rw numbers (nd.numbered j y h)
            ];
        named = λ u j e.
            let k = nd.named u j (same u j e) in
            elim (set_keeps xs i j x w k.0 m.1 k.1) [
              | inl h ↦ (w, rw (set, h.0) (at_set xs i x w m.1), subst (λ (s : Span). s.variable ≡ u) h.1 k.2)
              | inr h ↦ (k.0, rw set h, k.2)
            ];
        order = rw set (order_set xs i 0 n x nd.order m.1 first);
        within = rw (set, places) (within_set xs i n w nd.within (omega arith));
      };
  kept = λ nd u place le held.
      let m = nd.named v i name in let x = m.0 in let w = widened x n in
      let set = spans x m.1 in
      let j = held.0 in let z = held.1 in
      elim (set_keeps xs i j x w z m.1 held.3) [
        | inl h ↦ (j, w, rw numbers held.2, rw (set, h.0) (at_set xs i x w m.1), subst (λ (s : Span). s.variable ≡ u) h.1 held.4, subst (λ (s : Span). s.first ≤ place) h.1 held.5, le)
        | inr h ↦ (j, z, rw numbers held.2, rw set h, held.4, held.5, held.6)
      ];
  held = λ nd u is.
      let m = nd.named v i name in let x = m.0 in let w = widened x n in
      let set = spans x m.1 in
      let first : x.first ≤ n = first_within xs i 0 n x nd.order nd.within m.1 in
      (i, w, rw (is, numbers) name, rw set (at_set xs i x w m.1), m.2 ∙ sym is, first, omega arith);
  ends = λ nd place u end.
      let m = nd.named v i name in let x = m.0 in let w = widened x n in
      let set = spans x m.1 in
      let j = end.0 in let z = end.1 in
      elim (set_cases xs i j w z (subst (λ (l : List Span). slice_get l j ≡ Some z) set end.2)) [
        | inl h ↦ (
            let which : (w.first ≡ place) ⊎ (w.last ≡ place) = subst (λ (s : Span). (s.first ≡ place) ⊎ (s.last ≡ place)) h.1 end.4 in
            let var : x.variable ≡ u = subst (λ (s : Span). s.variable ≡ u) h.1 end.3 in
            elim which [ inl e ↦ inl (i, x, m.1, var, inl e) | inr e ↦ inr (sym e, sym var ∙ m.2) ])
        | inr h ↦ inl (j, z, h, end.3, end.4)
      ];
}
  where
    xs : List Span
    xs = old.spans.items

    n : ℕ
    n = old.places

    same : (u j : ℕ) → number_in new.numbers u ≡ Some j → number_in old.numbers u ≡ Some j
    same u j e = subst (λ (l : List (Option ℕ)). number_in l u ≡ Some j) numbers e

pub beyond_further : (old new : Spans) (v i : ℕ) → number_in old.numbers v ≡ Some i → length old.spans.items ≤ i → new.spans.items ≡ old.spans.items → new.numbers ≡ old.numbers → new.places ≡ old.places → IsFurther (λ u. u ≡ v) old new
beyond_further old new v i name le spans numbers places = record {
  places = places;
  few = λ n short below. subst (λ (l : List (Option ℕ)). length l ≤ n) (sym numbers) short;
  numbered = λ nd. absurd (none nd);
  kept = λ nd u place l held. absurd (none nd);
  held = λ nd u h. absurd (none nd);
  ends = λ nd place u end. absurd (none nd);
}
  where
    none : AreNumbered old → ⊥
    none nd = (let m = nd.named v i name in let lt = slice_get_within old.spans.items i m.0 m.1 in omega arith)

-- ---- a variable that has none

pub begun_further : (old new : Spans) (v : ℕ) (s : Span) → s.variable ≡ v → s.first ≡ old.places → s.last ≡ old.places → number_in old.numbers v ≡ None
    → number_in new.numbers ≡ with_number v (length old.spans.items) (number_in old.numbers) → new.spans.items ≡ old.spans.items ++ s ∷ [] → new.places ≡ old.places
    → ((n : ℕ) → length old.numbers ≤ n → v < n → length new.numbers ≤ n) → IsFurther (λ u. u ≡ v) old new
begun_further old new v s is first last none numbers spans places long = record {
  places = places;
  few = λ n le below. long n le (below v refl);
  numbered = λ nd. record {
    numbered = λ j y e.
        elim (pushed_cases xs s j y (subst (λ (l : List Span). slice_get l j ≡ Some y) spans e)) [
          | inl h ↦ rw numbers (number_kept v (length xs) y.variable j (number_in old.numbers) none (nd.numbered j y h))
          | inr h ↦ rw (numbers, ← h.1, is, h.0) (number_here v (length xs) (number_in old.numbers))
        ];
    named = λ u j e.
        elim (number_cases v (length xs) u j (number_in old.numbers) (subst (λ (f : ℕ → Option ℕ). f u ≡ Some j) numbers e)) [
          | inl h ↦ (s, rw (spans, h.1) (at_pushed xs s), is ∙ sym h.0)
          | inr h ↦ (let k = nd.named u j h in (k.0, rw spans (at_before xs s j k.0 k.1), k.2))
        ];
    order = rw spans (order_pushed xs 0 n s nd.order nd.within (omega arith) (omega arith) (omega arith));
    within = rw (spans, places) (within_pushed xs n s nd.within (omega arith));
  };
  kept = λ nd u place le held.
      (held.0, held.1, rw numbers (number_kept v (length xs) u held.0 (number_in old.numbers) none held.2), rw spans (at_before xs s held.0 held.1 held.3), held.4, held.5, held.6);
  held = λ nd u same.
      (length xs, s, rw (numbers, same) (number_here v (length xs) (number_in old.numbers)), rw spans (at_pushed xs s), is ∙ sym same, omega arith, omega arith);
  ends = λ nd place u end.
      let j = end.0 in let z = end.1 in
      elim (pushed_cases xs s j z (subst (λ (l : List Span). slice_get l j ≡ Some z) spans end.2)) [
        | inl h ↦ inl (j, z, h, end.3, end.4)
        | inr h ↦ (
            let which : (s.first ≡ place) ⊎ (s.last ≡ place) = subst (λ (y : Span). (y.first ≡ place) ⊎ (y.last ≡ place)) (sym h.1) end.4 in
            let var : s.variable ≡ u = subst (λ (y : Span). y.variable ≡ u) (sym h.1) end.3 in
            inr (elim which [ inl e ↦ sym e ∙ first | inr e ↦ sym e ∙ last ], sym var ∙ is))
      ];
}
  where
    xs : List Span
    xs = old.spans.items

    n : ℕ
    n = old.places

-- ---- one after the other

-- one variable more of a list
pub taken_either : (vs : List ℕ) (i u : ℕ) → i < length vs → member (take (i + 1) vs) u ≡ true → (member (take i vs) u ≡ true) ⊎ (u ≡ get_or vs i 0)
taken_either vs i u lt e = by (member (take i vs) u) (nat_eq u (get_or vs i 0)) refl refl (sym (member_more vs i u lt) ∙ e)
  where
    by : (a b : Bool) → member (take i vs) u ≡ a → nat_eq u (get_or vs i 0) ≡ b → a || b ≡ true → (member (take i vs) u ≡ true) ⊎ (u ≡ get_or vs i 0)
    by true b t h g = inl t
    by false true t h g = inr (grind (arith, nat_tests))
    by false false t h g = absurd cc

pub taken_kept : (vs : List ℕ) (i u : ℕ) → i < length vs → member (take i vs) u ≡ true → member (take (i + 1) vs) u ≡ true
taken_kept vs i u lt e = member_more vs i u lt ∙ ap (λ (b : Bool). b || nat_eq u (get_or vs i 0)) e

pub taken_here : (vs : List ℕ) (i u : ℕ) → i < length vs → u ≡ get_or vs i 0 → member (take (i + 1) vs) u ≡ true
taken_here vs i u lt e =
    let same : nat_eq u (get_or vs i 0) ≡ true = grind (arith, nat_tests) in
    member_more vs i u lt ∙ ap (λ (b : Bool). member (take i vs) u || b) same ∙ or_true (member (take i vs) u)

pub further_none : (P : ℕ → Type 0) (old : Spans) → ((v : ℕ) → P v → ⊥) → IsFurther P old old
further_none P old none = record { places = refl; few = λ n le below. le; numbered = λ nd. nd; kept = λ nd v place le held. held; held = λ nd v h. absurd (none v h); ends = λ nd place v end. inl end }

pub further_then : (P Q R : ℕ → Type 0) (a b c : Spans) → IsFurther P a b → IsFurther Q b c → ((v : ℕ) → R v → P v ⊎ Q v) → ((v : ℕ) → P v → R v) → ((v : ℕ) → Q v → R v) → IsFurther R a c
further_then P Q R a b c f g either one other = record {
  places = g.places ∙ f.places;
  few = λ n le below. g.few n (f.few n le (λ v h. below v (one v h))) (λ v h. below v (other v h));
  numbered = λ nd. g.numbered (f.numbered nd);
  kept = λ nd v place le held. g.kept (f.numbered nd) v place (let e = f.places in omega arith) (f.kept nd v place le held);
  held = λ nd v h. elim (either v h) [
    | inl p ↦ g.kept (f.numbered nd) v a.places (let e = f.places in omega arith) (f.held nd v p)
    | inr q ↦ subst (λ (n : ℕ). IsHeld c v n) f.places (g.held (f.numbered nd) v q)
  ];
  ends = λ nd place v end.
      elim (g.ends (f.numbered nd) place v end) [
        | inl mid ↦ elim (f.ends nd place v mid) [ inl old ↦ inl old | inr h ↦ inr (h.0, one v h.1) ]
        | inr h ↦ inr (h.0 ∙ f.places, other v h.1)
      ];
}

-- ---- a whole place

held_further : (P : ℕ → Type 0) (old new : Spans) (places : List VariableSet) → IsFurther P old new → AreNumbered old → length places ≤ old.places → AreHeld places old → AreHeld places new
held_further P old new [] f nd le held = tt
held_further P old new (lives ∷ rest) f nd le held = (λ v h. f.kept nd v (length rest) (omega arith) (held.0 v h), held_further P old new rest f nd (omega arith) held.1)

held_counted : (places : List VariableSet) (old new : Spans) → new.spans.items ≡ old.spans.items → new.numbers ≡ old.numbers → AreHeld places old → AreHeld places new
held_counted [] old new spans numbers held = tt
held_counted (lives ∷ rest) old new spans numbers held = (λ v h. (let x = held.0 v h in (x.0, x.1, rw numbers x.2, rw spans x.3, x.4, x.5, x.6)), held_counted rest old new spans numbers held.1)

pub seen_more : (old mid new : Spans) (m : VariableSet) (places : List VariableSet) → IsFurther (λ v. m v ≡ true) old mid → new.spans.items ≡ mid.spans.items → new.numbers ≡ mid.numbers → new.places ≡ mid.places + 1
    → AreSeen places old → AreSeen (m ∷ places) new
seen_more old mid new m places f spans numbers count seen =
    let nd = seen.numbered in
    let md = f.numbered nd in
    let long = f.places in
    let many = seen.count in
    let more : new.places ≡ suc (length places) = omega arith in
    record {
      count = more;
      few = λ n below. subst (λ (l : List (Option ℕ)). length l ≤ n) (sym numbers) (f.few n (seen.few n below.1) below.0);
      numbered = record {
        numbered = λ i x e. rw numbers (md.numbered i x (subst (λ (l : List Span). slice_get l i ≡ Some x) spans e));
        named = λ v i e. (let k = md.named v i (subst (λ (l : List (Option ℕ)). number_in l v ≡ Some i) numbers e) in (k.0, rw spans k.1, k.2));
        order = rw spans md.order;
        within = rw (spans, count) (within_more mid.spans.items mid.places (mid.places + 1) (omega arith) md.within);
      };
      held = held_counted (m ∷ places) mid new spans numbers
          (λ v h. subst (λ (n : ℕ). IsHeld mid v n) many (f.held nd v h), held_further (λ v. m v ≡ true) old mid places f nd (omega arith) seen.held);
      ends = λ place v end.
          elim (f.ends nd place v (end.0, end.1, subst (λ (l : List Span). slice_get l end.0 ≡ Some end.1) spans end.2, end.3, end.4)) [
            | inl was ↦ inr (seen.ends place v was)
            | inr h ↦ inl (h.0 ∙ many, h.1)
          ];
    }

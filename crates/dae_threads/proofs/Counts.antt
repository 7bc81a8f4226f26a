-- Code in which conditions are threaded is no larger, and A has no more to do.
use Rattle.std.proofs.Common.{◌≡◌, ℕ, zero, suc, ◌+◌, ◌≤◌, Bool, true, false, nat_eq, if◌then◌else◌, refl, ap, ◌∙◌, arith}
use Rattle.dae_base.specs.declared.Place.{Place}
use Rattle.dae_ir.specs.Code.{Done, Do, If, Loop}
use Rattle.dae_ir.specs.Form.{Form}
use Rattle.dae_ir.specs.Sizes.{form_size, item_weight, tally}
use Rattle.dae_ir.specs.declared.form.Check.TheVariants.{InBounds}
use Rattle.dae_ir.specs.declared.form.Item.{Item}
use Rattle.dae_ir.specs.declared.form.Item.TheVariants.{Assign, Load, Store, Print, Expect, Break, Continue, Call, Return, Halt}
use Rattle.dae_ir.specs.declared.form.Test.{Test}
use Rattle.dae_threads.specs.Laws.{CountsHeavy}
use Rattle.dae_threads.specs.Threaded.{is_light, gives_sum, code_then, is_nonzero, list_for, firsts, seconds, IsLed, LedTo, LedInBoth, BehindItem, BehindIf, BehindLoop, IsSpread, AtMostOnce, OfNothing, Doubled, IsThreaded, Unchanged, InTurn, InRest, InLists, InLoop, Threads, ListBehind, NumberLast, ChecksFirst}

-- ---- what stands so many times

abbrev times : ℕ → ℕ → ℕ
times zero s = 0
times (suc i) s = s + times i s

times_none : (i : ℕ) → times i 0 ≡ 0
times_none zero = refl
times_none (suc i) = (let h = times_none i in omega (arith, h))

times_sum : (i j s : ℕ) → times (i + j) s ≡ times i s + times j s
times_sum zero j s =
    let next : zero + j ≡ j = omega arith in
    let none : times zero s ≡ 0 = refl in
    let same : times j s ≡ times zero s + times j s = omega (arith, none) in
    ap (λ (n : ℕ). times n s) next ∙ same
times_sum (suc i) j s =
    let next : suc i + j ≡ suc (i + j) = omega arith in
    let h = times_sum i j s in
    let more : s + times (i + j) s ≡ (s + times i s) + times j s = omega (arith, h) in
    ap (λ (n : ℕ). times n s) next ∙ more

once : (s : ℕ) → times 1 s ≡ s
once s = (let e : times 1 s ≡ s + 0 = refl in omega (arith, e))

twice : (s : ℕ) → times 2 s ≡ s + s
twice s = (let e : times 2 s ≡ s + (s + 0) = refl in omega (arith, e))

times_once : (i s : ℕ) → i ≤ 1 → times i s ≤ s
times_once zero s l = (let e : times 0 s ≡ 0 = refl in omega (arith, e))
times_once (suc zero) s l = (let e = once s in omega (arith, e))
times_once (suc (suc i)) s l = absurd (omega (arith, l))

-- what counts nothing counts nothing however often
times_nothing : (i s : ℕ) → s ≡ 0 → times i s ≤ s
times_nothing i s none =
    let all : times i s ≡ 0 = ap (λ (n : ℕ). times i n) none ∙ times_none i in
    omega (arith, all)

-- of a list for a number it stands as often as is said
for_number : (a b : ℕ) (c : Bool) → (if c then b else a) ≡ times (if c then 0 else 1) a + times (if c then 1 else 0) b
for_number a b true = (let none : times 0 a ≡ 0 = refl in let e = once b in omega (arith, none, e))
for_number a b false = (let none : times 0 b ≡ 0 = refl in let e = once a in omega (arith, none, e))

measure_of_list : (measure : Form → ℕ) (x y : Form) (c : Bool) → measure (if c then y else x) ≡ (if c then measure y else measure x)
measure_of_list measure x y true = refl
measure_of_list measure x y false = refl

chosen_counts : (measure : Form → ℕ) (x y : Form) (n : ℕ) → measure (list_for n x y) ≡ times (firsts n) (measure x) + times (seconds n) (measure y)
chosen_counts measure x y n = measure_of_list measure x y (nat_eq n 0) ∙ for_number (measure x) (measure y) (nat_eq n 0)

-- ---- the size

light_weight : (item : Item) → is_light item ≡ true → item_weight item ≡ 1
light_weight (Assign v x) h = refl
light_weight (Load v kind x) h = refl
light_weight (Store width x y) h = refl
light_weight (Print spelling x) h = refl
light_weight (Expect check) h = refl
light_weight Break h = refl
light_weight Continue h = refl
light_weight (Call v g xs) h = absurd (let c : false ≡ true = h in cc)
light_weight (Return x) h = refl
light_weight (Halt x) h = refl

size_spread : (count : ℕ) (code : Form) (more : ℕ) → IsSpread count code more → times count (form_size code) ≤ form_size code + more
size_spread count code more (AtMostOnce i c l) = (let h = times_once i (form_size c) l in omega (arith, h))
size_spread count code more (OfNothing i) = (let h = times_none i in omega (arith, h))
size_spread count code more (Doubled place item light) = (let one = light_weight item light in let e = twice (form_size (Do place item Done)) in omega (arith, one, e))

led_size : (v : ℕ) (x y : Form) (i j : ℕ) (c d : Form) → IsLed v x y i j c d → form_size d ≡ form_size c + (times i (form_size x) + times j (form_size y))
led_size v x y i j c d (LedTo place n) = (let h = chosen_counts form_size x y n in omega (arith, h))
led_size v x y i j c d (LedInBoth place t i1 j1 i2 j2 p p' q q' f g) =
    let one = led_size v x y i1 j1 p p' f in
    let other = led_size v x y i2 j2 q q' g in
    let a = times_sum i1 i2 (form_size x) in
    let b = times_sum j1 j2 (form_size y) in
    omega (arith, one, other, a, b)
led_size v x y i j c d (BehindItem place item i1 j1 k k' f) = (let h = led_size v x y i1 j1 k k' f in omega (arith, h))
led_size v x y i j c d (BehindIf place t p q i1 j1 k k' f) = (let h = led_size v x y i1 j1 k k' f in omega (arith, h))
led_size v x y i j c d (BehindLoop place p q i1 j1 k k' f) = (let h = led_size v x y i1 j1 k k' f in omega (arith, h))

-- an If with a condition behind it, whose lists have so many items more, and the If that is left
if_no_larger : (p q x y k p' q' i i' j j' more more' : ℕ) (xs ys : ℕ) → p' ≡ p + (i + j) → q' ≡ q + (i' + j') → xs ≡ i + i' → ys ≡ j + j' → xs ≤ x + more → ys ≤ y + more' → more + more' ≤ 1
    → 1 + (p' + (q' + k)) ≤ 1 + (p + (q + (1 + (x + (y + k)))))
if_no_larger p q x y k p' q' i i' j j' more more' xs ys a b c d e f g = omega (arith, a, b, c, d, e, f, g)

then_size : (c d : Form) → form_size (code_then c d) ≡ form_size c + form_size d
then_size Done d = omega arith
then_size (Do place item k) d = (let e = then_size k d in omega (arith, e))
then_size (If place t p q k) d = (let e = then_size k d in omega (arith, e))
then_size (Loop place p q k) d = (let e = then_size k d in omega (arith, e))

pub threaded_size : (c d : Form) → IsThreaded c d → form_size d ≤ form_size c
threaded_size c d (Unchanged c1) = omega arith
threaded_size c d (InTurn c1 d1 e1 f g) = (let one = threaded_size c1 d1 f in let other = threaded_size d1 e1 g in omega (arith, one, other))
threaded_size c d (InRest place item k k' f) = (let h = threaded_size k k' f in omega (arith, h))
threaded_size c d (InLists place t p p' q q' k k' f g r) = (let one = threaded_size p p' f in let other = threaded_size q q' g in let rest = threaded_size k k' r in omega (arith, one, other, rest))
threaded_size c d (InLoop place p p' q q' k k' f g r) = (let one = threaded_size p p' f in let other = threaded_size q q' g in let rest = threaded_size k k' r in omega (arith, one, other, rest))
threaded_size c d (Threads place place' t v i j i' j' more more' x y p p' q q' k f g spread spread' small) =
    if_no_larger (form_size p) (form_size q) (form_size x) (form_size y) (form_size k) (form_size p') (form_size q') (times i (form_size x)) (times i' (form_size x)) (times j (form_size y)) (times j' (form_size y)) more more'
    (times (i + i') (form_size x)) (times (j + j') (form_size y)) (led_size v x y i j p p' f) (led_size v x y i' j' q q' g) (times_sum i i' (form_size x)) (times_sum j j' (form_size y))
    (size_spread (i + i') x more spread) (size_spread (j + j') y more' spread') small
threaded_size c d (ListBehind place t x y k early) = (let e = then_size x k in omega (arith, e))
threaded_size c d (NumberLast place v n x k) = omega arith
threaded_size c d (ChecksFirst place place' v x n k near) = omega arith

-- ---- what is counted of loads, calls and conditions

module _ (f : Item → ℕ) (h : Test → ℕ) (heavy : CountsHeavy f) where
  abbrev count_in : Form → ℕ
  count_in code = tally f h code

  light_none : (place : Place) (item : Item) → is_light item ≡ true → count_in (Do place item Done) ≡ 0
  light_none place item light = (let none = heavy item light in omega (arith, none))

  count_spread : (count : ℕ) (code : Form) (more : ℕ) → IsSpread count code more → times count (count_in code) ≤ count_in code
  count_spread count code more (AtMostOnce i c l) = times_once i (count_in c) l
  count_spread count code more (OfNothing i) = times_nothing i 0 refl
  count_spread count code more (Doubled place item light) = times_nothing 2 (count_in (Do place item Done)) (light_none place item light)

  led_count : (v : ℕ) (x y : Form) (i j : ℕ) (c d : Form) → IsLed v x y i j c d → count_in d ≡ count_in c + (times i (count_in x) + times j (count_in y))
  led_count v x y i j c d (LedTo place n) = (let e = chosen_counts (λ code. count_in code) x y n in omega (arith, e))
  led_count v x y i j c d (LedInBoth place t i1 j1 i2 j2 p p' q q' r s) =
      let one = led_count v x y i1 j1 p p' r in
      let other = led_count v x y i2 j2 q q' s in
      let a = times_sum i1 i2 (count_in x) in
      let b = times_sum j1 j2 (count_in y) in
      omega (arith, one, other, a, b)
  led_count v x y i j c d (BehindItem place item i1 j1 k k' r) = (let e = led_count v x y i1 j1 k k' r in omega (arith, e))
  led_count v x y i j c d (BehindIf place t p q i1 j1 k k' r) = (let e = led_count v x y i1 j1 k k' r in omega (arith, e))
  led_count v x y i j c d (BehindLoop place p q i1 j1 k k' r) = (let e = led_count v x y i1 j1 k k' r in omega (arith, e))

  if_counts_less : (t p q u x y k p' q' i i' j j' xs ys : ℕ) → p' ≡ p + (i + j) → q' ≡ q + (i' + j') → xs ≡ i + i' → ys ≡ j + j' → xs ≤ x → ys ≤ y → t + (p' + (q' + k)) ≤ t + (p + (q + (u + (x + (y + k)))))
  if_counts_less t p q u x y k p' q' i i' j j' xs ys a b c d e g = omega (arith, a, b, c, d, e, g)

  then_count : (c d : Form) → count_in (code_then c d) ≡ count_in c + count_in d
  then_count Done d = omega arith
  then_count (Do place item k) d = (let e = then_count k d in omega (arith, e))
  then_count (If place t p q k) d = (let e = then_count k d in omega (arith, e))
  then_count (Loop place p q k) d = (let e = then_count k d in omega (arith, e))

  pub threaded_count : (c d : Form) → IsThreaded c d → count_in d ≤ count_in c
  threaded_count c d (Unchanged c1) = omega arith
  threaded_count c d (InTurn c1 d1 e1 r s) = (let one = threaded_count c1 d1 r in let other = threaded_count d1 e1 s in omega (arith, one, other))
  threaded_count c d (InRest place item k k' r) = (let e = threaded_count k k' r in omega (arith, e))
  threaded_count c d (InLists place t p p' q q' k k' r s z) = (let one = threaded_count p p' r in let other = threaded_count q q' s in let rest = threaded_count k k' z in omega (arith, one, other, rest))
  threaded_count c d (InLoop place p p' q q' k k' r s z) = (let one = threaded_count p p' r in let other = threaded_count q q' s in let rest = threaded_count k k' z in omega (arith, one, other, rest))
  threaded_count c d (Threads place place' t v i j i' j' more more' x y p p' q q' k r s spread spread' small) =
      if_counts_less (h t) (count_in p) (count_in q) (h (is_nonzero v)) (count_in x) (count_in y) (count_in k) (count_in p') (count_in q') (times i (count_in x)) (times i' (count_in x)) (times j (count_in y)) (times j' (count_in y))
      (times (i + i') (count_in x)) (times (j + j') (count_in y)) (led_count v x y i j p p' r) (led_count v x y i' j' q q' s) (times_sum i i' (count_in x)) (times_sum j j' (count_in y))
      (count_spread (i + i') x more spread) (count_spread (j + j') y more' spread')
  threaded_count c d (ListBehind place t x y k early) = (let e = then_count x k in omega (arith, e))
  threaded_count c d (NumberLast place v n x k) = (let none = heavy (gives_sum v x n) refl in omega (arith, none))
  threaded_count c d (ChecksFirst place place' v x n k near) = (let none = heavy (Expect (InBounds x n)) refl in omega (arith, none))

-- Which order all words of two ranges have after a function, and the order of signed words.
use Rattle.std.proofs.Common.{◌≡◌, ℕ, zero, suc, ◌+◌, ◌-◌, ◌*◌, ◌/◌, ◌^◌, ◌<◌, ◌≤◌, Bool, true, false, not, refl, ap, ◌∙◌, arith}
use Rattle.std.specs.Prelude.{Some, None, nat_lt, nat_le, if◌then◌else◌, int_lt, pos, negsuc}
use Rattle.std.proofs.lemmas.Bool.Decides.{nat_tests}
use Rattle.std.proofs.lemmas.Nat.{mul-le, le-div, div_below}
use Rattle.std.proofs.Math.Nat.{div-mul-le_self}
use Rattle.dae_base.specs.Words.{signed}
use Rattle.dae_ranges.specs.declared.Range.{Range}
use Rattle.dae_ranges.specs.Ranges.{highest, all_from, each, decided, below, skipped}
use Rattle.dae_ranges.specs.Orders.{IsLeast, IsGreatest, lifted}
use Rattle.dae_ranges.proofs.Members.{at_each}
use Rattle.dae_ranges.proofs.Closed.{each_where, each_not, before, behind}

-- ---- tests that agree on the words of two ranges

same_from : (f g : ℕ → Bool) (lo step count : ℕ) → ((k : ℕ) → k ≤ count → f (lo + k * step) ≡ g (lo + k * step))
    → all_from f lo step count ≡ all_from g lo step count
unfolding all_from
same_from f g lo step zero h = let e : lo + 0 * step ≡ lo = grind arith in rw e at (h 0 (omega arith))
same_from f g lo step (suc n) h =
    let e : lo + 0 * step ≡ lo = grind arith in
    let first : f lo ≡ g lo = rw e at (h 0 (omega arith)) in
    let more : all_from f (lo + step) step n ≡ all_from g (lo + step) step n = same_from f g (lo + step) step n (λ k l. (
    let s : (lo + step) + k * step ≡ lo + suc k * step = grind arith in
    rw s (h (suc k) (omega arith)))) in
    rw (first, more) refl

pub same_decided : (f g : ℕ → ℕ → Bool) (x y : Range)
    → ((k j : ℕ) → k ≤ x.count → j ≤ y.count → f (x.lo + k * x.step) (y.lo + j * y.step) ≡ g (x.lo + k * x.step) (y.lo + j * y.step))
    → decided f x y ≡ decided g x y
same_decided f g x y h =
    let all = same_from (λ v. each (f v) y) (λ v. each (g v) y) x.lo x.step x.count (λ k l.
    same_from (f (x.lo + k * x.step)) (g (x.lo + k * x.step)) y.lo y.step y.count (λ j m. h k j l m)) in
    let none = same_from (λ v. each (λ w. not (f v w)) y) (λ v. each (λ w. not (g v w)) y) x.lo x.step x.count (λ k l.
    same_from (λ w. not (f (x.lo + k * x.step) w)) (λ w. not (g (x.lo + k * x.step) w)) y.lo y.step y.count (λ j m. ap not (h k j l m))) in
    rw (all, none) refl

-- ---- the order of what a function makes of the words

module _ (f : ℕ → ℕ) (x y : Range) (a b c d : ℕ) (least : IsLeast f x a) (greatest : IsGreatest f x b) (least' : IsLeast f y c) (greatest' : IsGreatest f y d) where
  all_below_by : each (λ v. each (λ w. nat_lt (f v) (f w)) y) x ≡ nat_lt b c
  all_below_by = by (nat_lt b c) refl
    where
      by : (t : Bool) → nat_lt b c ≡ t → each (λ v. each (λ w. nat_lt (f v) (f w)) y) x ≡ t
      by true e = each_where (λ v. each (λ w. nat_lt (f v) (f w)) y) x.lo x.step x.count (λ k l.
          each_where (λ w. nat_lt (f (x.lo + k * x.step)) (f w)) y.lo y.step y.count (λ j m. (
          let p = at_each (λ w. nat_le (f w) b) x.lo x.step x.count k greatest.greatest l in
          let q = at_each (λ w. nat_le c (f w)) y.lo y.step y.count j least'.least m in
          grind (arith, nat_tests))))
      by false e =
          let i = greatest.is in let i' = least'.is in
          let no : nat_lt (f (x.lo + greatest.at * x.step)) (f (y.lo + least'.at * y.step)) ≡ false = grind (arith, nat_tests) in
          each_not (λ v. each (λ w. nat_lt (f v) (f w)) y) x.lo x.step x.count greatest.at greatest.fits
          (each_not (λ w. nat_lt (f (x.lo + greatest.at * x.step)) (f w)) y.lo y.step y.count least'.at least'.fits no)

  none_below_by : each (λ v. each (λ w. not (nat_lt (f v) (f w))) y) x ≡ nat_le d a
  none_below_by = by (nat_le d a) refl
    where
      by : (t : Bool) → nat_le d a ≡ t → each (λ v. each (λ w. not (nat_lt (f v) (f w))) y) x ≡ t
      by true e = each_where (λ v. each (λ w. not (nat_lt (f v) (f w))) y) x.lo x.step x.count (λ k l.
          each_where (λ w. not (nat_lt (f (x.lo + k * x.step)) (f w))) y.lo y.step y.count (λ j m. (
          let p = at_each (λ w. nat_le a (f w)) x.lo x.step x.count k least.least l in
          let q = at_each (λ w. nat_le (f w) d) y.lo y.step y.count j greatest'.greatest m in
          let no : nat_lt (f (x.lo + k * x.step)) (f (y.lo + j * y.step)) ≡ false = grind (arith, nat_tests) in
          ap not no)))
      by false e =
          let i = least.is in let i' = greatest'.is in
          let yes : nat_lt (f (x.lo + least.at * x.step)) (f (y.lo + greatest'.at * y.step)) ≡ true = grind (arith, nat_tests) in
          each_not (λ v. each (λ w. not (nat_lt (f v) (f w))) y) x.lo x.step x.count least.at least.fits
          (each_not (λ w. not (nat_lt (f (x.lo + least.at * x.step)) (f w))) y.lo y.step y.count greatest'.at greatest'.fits (ap not yes))

  pub decided_by : decided (λ v w. nat_lt (f v) (f w)) x y ≡ (if nat_lt b c then Some true else (if nat_le d a then Some false else None))
  decided_by = rw (all_below_by, none_below_by) refl

-- ---- signed words

-- signed words are in the order of the words moved by half
pub lifted_order : (v w : ℕ) → v < 2 ^ 32 → w < 2 ^ 32 → int_lt (signed v) (signed w) ≡ nat_lt (lifted v) (lifted w)
lifted_order v w p q = by (nat_lt v (2 ^ 31)) refl (nat_lt w (2 ^ 31)) refl
  where
    by : (a : Bool) → nat_lt v (2 ^ 31) ≡ a → (b : Bool) → nat_lt w (2 ^ 31) ≡ b
        → int_lt (if a then pos v else negsuc (2 ^ 32 - suc v)) (if b then pos w else negsuc (2 ^ 32 - suc w)) ≡ nat_lt (lifted v) (lifted w)
    by true e true f =
        let lv : lifted v ≡ v + 2 ^ 31 = grind (arith, nat_tests) in
        let lw : lifted w ≡ w + 2 ^ 31 = grind (arith, nat_tests) in
        rw (lv, lw) (grind (arith, nat_tests))
    by true e false f =
        let lv : lifted v ≡ v + 2 ^ 31 = grind (arith, nat_tests) in
        let lw : lifted w ≡ w - 2 ^ 31 = grind (arith, nat_tests) in
        rw (lv, lw) (grind (arith, nat_tests))
    by false e true f =
        let lv : lifted v ≡ v - 2 ^ 31 = grind (arith, nat_tests) in
        let lw : lifted w ≡ w + 2 ^ 31 = grind (arith, nat_tests) in
        rw (lv, lw) (grind (arith, nat_tests))
    by false e false f =
        let lv : lifted v ≡ v - 2 ^ 31 = grind (arith, nat_tests) in
        let lw : lifted w ≡ w - 2 ^ 31 = grind (arith, nat_tests) in
        rw (lv, lw) (grind (arith, nat_tests))

word_small : (r : Range) (k : ℕ) → highest r < 2 ^ 32 → k ≤ r.count → r.lo + k * r.step < 2 ^ 32
word_small r k h l = let up : k * r.step ≤ r.count * r.step = mul-le k r.step r.count r.step l (omega arith) in omega arith

pub signed_by : (x y : Range) (a b c d : ℕ) → highest x < 2 ^ 32 → highest y < 2 ^ 32 → IsLeast lifted x a → IsGreatest lifted x b → IsLeast lifted y c → IsGreatest lifted y d
    → decided (λ v w. int_lt (signed v) (signed w)) x y ≡ (if nat_lt b c then Some true else (if nat_le d a then Some false else None))
signed_by x y a b c d h g p q r s =
    same_decided (λ v w. int_lt (signed v) (signed w)) (λ v w. nat_lt (lifted v) (lifted w)) x y (λ k j l m. lifted_order (x.lo + k * x.step) (y.lo + j * y.step) (word_small x k h l) (word_small y j g m))
    ∙ decided_by lifted x y a b c d p q r s

pub signed_always : (x y : Range) (a b c d : ℕ) → highest x < 2 ^ 32 → highest y < 2 ^ 32 → IsLeast lifted x a → IsGreatest lifted x b → IsLeast lifted y c → IsGreatest lifted y d
    → b < c → decided (λ v w. int_lt (signed v) (signed w)) x y ≡ Some true
signed_always x y a b c d h g p q r s l = let e : nat_lt b c ≡ true = grind (arith, nat_tests) in signed_by x y a b c d h g p q r s ∙ rw e refl

pub signed_never : (x y : Range) (a b c d : ℕ) → highest x < 2 ^ 32 → highest y < 2 ^ 32 → IsLeast lifted x a → IsGreatest lifted x b → IsLeast lifted y c → IsGreatest lifted y d
    → c ≤ b → d ≤ a → decided (λ v w. int_lt (signed v) (signed w)) x y ≡ Some false
signed_never x y a b c d h g p q r s l m =
    let e : nat_lt b c ≡ false = grind (arith, nat_tests) in
    let f : nat_le d a ≡ true = grind (arith, nat_tests) in
    signed_by x y a b c d h g p q r s ∙ rw (e, f) refl

pub signed_maybe : (x y : Range) (a b c d : ℕ) → highest x < 2 ^ 32 → highest y < 2 ^ 32 → IsLeast lifted x a → IsGreatest lifted x b → IsLeast lifted y c → IsGreatest lifted y d
    → c ≤ b → a < d → decided (λ v w. int_lt (signed v) (signed w)) x y ≡ None
signed_maybe x y a b c d h g p q r s l m =
    let e : nat_lt b c ≡ false = grind (arith, nat_tests) in
    let f : nat_le d a ≡ false = grind (arith, nat_tests) in
    signed_by x y a b c d h g p q r s ∙ rw (e, f) refl

-- ---- the ends of the words in that order

-- all on one side of the half
pub least_low : (r : Range) → highest r < 2 ^ 31 → IsLeast lifted r (r.lo + 2 ^ 31)
least_low r h = record {
  at = 0;
  fits = omega arith;
  is = (let e : r.lo + 0 * r.step ≡ r.lo = grind arith in rw e (omega arith));
  least = each_where (λ w. nat_le (r.lo + 2 ^ 31) (lifted w)) r.lo r.step r.count (λ k l. (
      let up : k * r.step ≤ r.count * r.step = mul-le k r.step r.count r.step l (omega arith) in
      let is : lifted (r.lo + k * r.step) ≡ r.lo + k * r.step + 2 ^ 31 = omega arith in
      rw is (grind (arith, nat_tests))));
}

pub greatest_low : (r : Range) → highest r < 2 ^ 31 → IsGreatest lifted r (highest r + 2 ^ 31)
greatest_low r h = record {
  at = r.count;
  fits = omega arith;
  is = omega arith;
  greatest = each_where (λ w. nat_le (lifted w) (highest r + 2 ^ 31)) r.lo r.step r.count (λ k l. (
      let up : k * r.step ≤ r.count * r.step = mul-le k r.step r.count r.step l (omega arith) in
      let is : lifted (r.lo + k * r.step) ≡ r.lo + k * r.step + 2 ^ 31 = omega arith in
      rw is (grind (arith, nat_tests))));
}

pub least_high : (r : Range) → highest r < 2 ^ 32 → 2 ^ 31 ≤ r.lo → IsLeast lifted r (r.lo - 2 ^ 31)
least_high r h g = record {
  at = 0;
  fits = omega arith;
  is = (let e : r.lo + 0 * r.step ≡ r.lo = grind arith in rw e (omega arith));
  least = each_where (λ w. nat_le (r.lo - 2 ^ 31) (lifted w)) r.lo r.step r.count (λ k l. (
      let up : k * r.step ≤ r.count * r.step = mul-le k r.step r.count r.step l (omega arith) in
      let is : lifted (r.lo + k * r.step) ≡ (r.lo + k * r.step) - 2 ^ 31 = omega arith in
      rw is (grind (arith, nat_tests))));
}

pub greatest_high : (r : Range) → highest r < 2 ^ 32 → 2 ^ 31 ≤ r.lo → IsGreatest lifted r (highest r - 2 ^ 31)
greatest_high r h g = record {
  at = r.count;
  fits = omega arith;
  is = omega arith;
  greatest = each_where (λ w. nat_le (lifted w) (highest r - 2 ^ 31)) r.lo r.step r.count (λ k l. (
      let up : k * r.step ≤ r.count * r.step = mul-le k r.step r.count r.step l (omega arith) in
      let is : lifted (r.lo + k * r.step) ≡ (r.lo + k * r.step) - 2 ^ 31 = omega arith in
      rw is (grind (arith, nat_tests))));
}

-- where the words go past the half: from the first one past it on, and up to the last one before it
pub few_skipped : (r : Range) (n : ℕ) → 0 < r.step → n ≤ highest r → skipped n r ≤ r.count
few_skipped r n some h =
    let next : (r.count + 1) * r.step ≡ r.count * r.step + r.step = grind arith in
    let k = div_below (n - r.lo + (r.step - 1)) r.step (r.count + 1) some (omega arith) in
    omega arith

pub least_past : (r : Range) → 0 < r.step → highest r < 2 ^ 32 → r.lo < 2 ^ 31 → 2 ^ 31 ≤ highest r
    → IsLeast lifted r ((r.lo + skipped (2 ^ 31) r * r.step) - 2 ^ 31)
least_past r some h low high =
    let s = few_skipped r (2 ^ 31) some high in
    let past = behind r (2 ^ 31) some in
    let top : skipped (2 ^ 31) r * r.step ≤ r.count * r.step = mul-le (skipped (2 ^ 31) r) r.step r.count r.step s (omega arith) in
    record {
      at = skipped (2 ^ 31) r;
      fits = s;
      is = omega arith;
      least = each_where (λ w. nat_le ((r.lo + skipped (2 ^ 31) r * r.step) - 2 ^ 31) (lifted w)) r.lo r.step r.count (λ k l. one k l (nat_lt k (skipped (2 ^ 31) r)) refl);
    }
  where
    one : (k : ℕ) → k ≤ r.count → (b : Bool) → nat_lt k (skipped (2 ^ 31) r) ≡ b
        → nat_le ((r.lo + skipped (2 ^ 31) r * r.step) - 2 ^ 31) (lifted (r.lo + k * r.step)) ≡ true
    one k l true e =
        let s = few_skipped r (2 ^ 31) some high in
        let top : skipped (2 ^ 31) r * r.step ≤ r.count * r.step = mul-le (skipped (2 ^ 31) r) r.step r.count r.step s (omega arith) in
        let less : k < skipped (2 ^ 31) r = grind (arith, nat_tests) in
        let under = before r (2 ^ 31) k some less in
        let is : lifted (r.lo + k * r.step) ≡ r.lo + k * r.step + 2 ^ 31 = omega arith in
        rw is (grind (arith, nat_tests))
    one k l false e =
        let past = behind r (2 ^ 31) some in
        let more : skipped (2 ^ 31) r ≤ k = grind (arith, nat_tests) in
        let up : skipped (2 ^ 31) r * r.step ≤ k * r.step = mul-le (skipped (2 ^ 31) r) r.step k r.step more (omega arith) in
        let small = word_small r k h l in
        let is : lifted (r.lo + k * r.step) ≡ (r.lo + k * r.step) - 2 ^ 31 = omega arith in
        rw is (grind (arith, nat_tests))

pub greatest_past : (r : Range) → 0 < r.step → highest r < 2 ^ 32 → r.lo < 2 ^ 31 → IsGreatest lifted r (highest (below (2 ^ 31) r) + 2 ^ 31)
greatest_past r some h low =
    let last = (below (2 ^ 31) r).count in
    let few : last ≤ (2 ^ 31 - 1 - r.lo) / r.step = omega arith in
    let up : last * r.step ≤ (2 ^ 31 - 1 - r.lo) / r.step * r.step = mul-le last r.step ((2 ^ 31 - 1 - r.lo) / r.step) r.step few (omega arith) in
    let under = div-mul-le_self (2 ^ 31 - 1 - r.lo) r.step in
    record {
      at = last;
      fits = omega arith;
      is = omega arith;
      greatest = each_where (λ w. nat_le (lifted w) (highest (below (2 ^ 31) r) + 2 ^ 31)) r.lo r.step r.count (λ k l. one k l (nat_lt (r.lo + k * r.step) (2 ^ 31)) refl);
    }
  where
    one : (k : ℕ) → k ≤ r.count → (b : Bool) → nat_lt (r.lo + k * r.step) (2 ^ 31) ≡ b
        → nat_le (lifted (r.lo + k * r.step)) (highest (below (2 ^ 31) r) + 2 ^ 31) ≡ true
    one k l true e =
        let under : r.lo + k * r.step < 2 ^ 31 = grind (arith, nat_tests) in
        let place : k ≤ (2 ^ 31 - 1 - r.lo) / r.step = le-div k (2 ^ 31 - 1 - r.lo) r.step some (omega arith) in
        let last : k ≤ (below (2 ^ 31) r).count = omega arith in
        let up : k * r.step ≤ (below (2 ^ 31) r).count * r.step = mul-le k r.step (below (2 ^ 31) r).count r.step last (omega arith) in
        let is : lifted (r.lo + k * r.step) ≡ r.lo + k * r.step + 2 ^ 31 = omega arith in
        rw is (grind (arith, nat_tests))
    one k l false e =
        let over : 2 ^ 31 ≤ r.lo + k * r.step = grind (arith, nat_tests) in
        let small = word_small r k h l in
        let is : lifted (r.lo + k * r.step) ≡ (r.lo + k * r.step) - 2 ^ 31 = omega arith in
        rw is (grind (arith, nat_tests))

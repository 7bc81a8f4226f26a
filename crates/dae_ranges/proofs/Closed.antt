-- Tests of all words of a range, worked out from a few of them.
use Rattle.std.proofs.Common.{◌≡◌, ◌≢◌, ℕ, zero, suc, ◌+◌, ◌-◌, ◌*◌, ◌/◌, ◌%◌, ◌<◌, ◌≤◌, Bool, true, false, not, ◌&&◌, ◌||◌, refl, ap, sym, ◌∙◌, arith}
use Rattle.std.specs.Prelude.{Some, None, nat_lt, nat_le, nat_eq, ◌==◌, if◌then◌else◌}
use Rattle.std.proofs.lemmas.Bool.Decides.{nat_tests}
use Rattle.std.proofs.lemmas.Nat.{mul-le, div-add-mod', le-div, mod_below, div_below, mod-mul-add, div-mul-add}
use Rattle.std.proofs.Math.Nat.{mul-add-mod_self_right, div-mul-le_self}
use Rattle.dae_base.proofs.Laws.{and_true}
use Rattle.dae_ranges.specs.declared.Range.{Range}
use Rattle.dae_ranges.specs.Ranges.{highest, has, all_from, each, within, decided, skipped, shares, fits_at}
use Rattle.dae_ranges.specs.Congruences.{IsFirstWith, NoneWith}
use Rattle.dae_ranges.proofs.Members.{at_each, apart}
use Rattle.dae_ranges.proofs.Multiples.{wanted, rest_where, multiple_where}

-- what holds of each word holds of all
pub each_where : (test : ℕ → Bool) (lo step count : ℕ) → ((k : ℕ) → k ≤ count → test (lo + k * step) ≡ true) → all_from test lo step count ≡ true
unfolding all_from
each_where test lo step zero h = let e : lo + 0 * step ≡ lo = grind arith in rw e at (h 0 (omega arith))
each_where test lo step (suc n) h =
    let e : lo + 0 * step ≡ lo = grind arith in
    let first : test lo ≡ true = rw e at (h 0 (omega arith)) in
    rw (
      first,
      each_where test (lo + step) step n (λ k l. (
          let s : (lo + step) + k * step ≡ lo + suc k * step = grind arith in
          rw s (h (suc k) (omega arith)))),
    ) refl

-- and where one word fails, not
pub each_not : (test : ℕ → Bool) (lo step count k : ℕ) → k ≤ count → test (lo + k * step) ≡ false → all_from test lo step count ≡ false
each_not test lo step count k l h = by (all_from test lo step count) refl
  where
    by : (b : Bool) → all_from test lo step count ≡ b → b ≡ false
    by true e = let t = at_each test lo step count k e l in absurd cc
    by false e = refl

-- ---- multiples

-- a number that is r more than a multiple of w
pub multiple : (n w : ℕ) → n % w ≡ 0 → n / w * w ≡ n
multiple n w h = let d = div-add-mod' n w in omega arith

gathered : (q k m w : ℕ) → q * w + k * (m * w) ≡ (q + k * m) * w + 0
gathered q k m w = grind arith

pub sum_is_multiple : (d k step w : ℕ) → 0 < w → d % w ≡ 0 → step % w ≡ 0 → ((d + k * step) % w ≡ 0) × ((d + k * step) / w ≡ d / w + k * (step / w))
sum_is_multiple d k step w some h g =
    let q = d / w in
    let m = step / w in
    let dq : d ≡ q * w = sym (multiple d w h) in
    let sm : step ≡ m * w = sym (multiple step w g) in
    let e : d + k * step ≡ (q + k * m) * w + 0 = ap (λ z. z + k * step) dq ∙ ap (λ z. q * w + k * z) sm ∙ gathered q k m w in
    (ap (λ z. z % w) e ∙ mod-mul-add (q + k * m) w 0 some, ap (λ z. z / w) e ∙ div-mul-add (q + k * m) w 0 some)

pub sum_is_none : (d step w : ℕ) → 0 < w → d % w ≡ 0 → step % w ≢ 0 → (d + step) % w ≢ 0
sum_is_none d step w some h g e =
    let q : d / w * w ≡ d = multiple d w h in
    g (sym (mul-add-mod_self_right (d / w) w step) ∙ ap (λ z. (z + step) % w) q ∙ e)

-- ---- one range within another

abbrev pub within_by : Range → Range → Bool
within_by outer r = has outer r.lo && (has outer (highest r) && (nat_eq r.count 0 || nat_eq (r.step % outer.step) 0))

has_parts : (r : Range) (w : ℕ) → has r w ≡ true → (r.lo ≤ w) × ((w - r.lo) % r.step ≡ 0) × ((w - r.lo) / r.step ≤ r.count)
has_parts r w h =
    let a = and_true (nat_le r.lo w) (nat_eq ((w - r.lo) % r.step) 0 && nat_le ((w - r.lo) / r.step) r.count) h in
    let b = and_true (nat_eq ((w - r.lo) % r.step) 0) (nat_le ((w - r.lo) / r.step) r.count) a.1 in
    let a0 = a.0 in let b0 = b.0 in let b1 = b.1 in
    (grind (arith, nat_tests), grind (arith, nat_tests), grind (arith, nat_tests))

has_whole : (r : Range) (w : ℕ) → r.lo ≤ w → (w - r.lo) % r.step ≡ 0 → (w - r.lo) / r.step ≤ r.count → has r w ≡ true
has_whole r w a b c =
    let x : nat_le r.lo w ≡ true = grind (arith, nat_tests) in
    let y : nat_eq ((w - r.lo) % r.step) 0 ≡ true = grind (arith, nat_tests) in
    let z : nat_le ((w - r.lo) / r.step) r.count ≡ true = grind (arith, nat_tests) in
    rw (x, y, z) refl

not_has : (r : Range) (w : ℕ) → ((w - r.lo) % r.step ≢ 0) → has r w ≡ false
not_has r w n = go (has r w) refl
  where
    go : (b : Bool) → has r w ≡ b → b ≡ false
    go true e = absurd (n (has_parts r w e).1)
    go false e = refl

pub within_is : (outer r : Range) → 0 < outer.step → within outer r ≡ within_by outer r
within_is outer r some = by (has outer r.lo) refl (has outer (highest r)) refl (nat_eq r.count 0) refl (nat_eq (r.step % outer.step) 0) refl
  where
    first : r.lo + 0 * r.step ≡ r.lo
    first = grind arith

    by : (a : Bool) → has outer r.lo ≡ a → (b : Bool) → has outer (highest r) ≡ b → (c : Bool) → nat_eq r.count 0 ≡ c → (d : Bool) → nat_eq (r.step % outer.step) 0 ≡ d
        → within outer r ≡ (a && (b && (c || d)))
    by false e b f c g d h = each_not (has outer) r.lo r.step r.count 0 (omega arith) (rw first e)
    by true e false f c g d h = each_not (has outer) r.lo r.step r.count r.count (omega arith) f
    by true e true f true g d h =
        let none : r.count ≡ 0 = grind (arith, nat_tests) in
        each_where (has outer) r.lo r.step r.count (λ k l. (
        let z : k ≡ 0 = omega arith in
        rw (z, first) e))
    by true e true f false g true h =
        let p = has_parts outer r.lo e in
        let q = has_parts outer (highest r) f in
        let p0 = p.0 in let p1 = p.1 in let q0 = q.0 in let q2 = q.2 in
        let m : r.step % outer.step ≡ 0 = grind (arith, nat_tests) in
        each_where (has outer) r.lo r.step r.count (λ k l. (
        let s = sum_is_multiple (r.lo - outer.lo) k r.step outer.step some p1 m in
        let t = sum_is_multiple (r.lo - outer.lo) r.count r.step outer.step some p1 m in
        let up : k * (r.step / outer.step) ≤ r.count * (r.step / outer.step) = mul-le k (r.step / outer.step) r.count (r.step / outer.step) l (omega arith) in
        let here : (r.lo + k * r.step) - outer.lo ≡ (r.lo - outer.lo) + k * r.step = omega arith in
        let there : highest r - outer.lo ≡ (r.lo - outer.lo) + r.count * r.step = omega arith in
        let bound : ((r.lo - outer.lo) + r.count * r.step) / outer.step ≤ outer.count = rw there at q2 in
        let s1 = s.1 in let t1 = t.1 in
        has_whole outer (r.lo + k * r.step) (omega arith) (rw here s.0) (rw here (omega arith))))
    by true e true f false g false h =
        let p = has_parts outer r.lo e in
        let p0 = p.0 in
        let more : r.count ≢ 0 = grind (arith, nat_tests) in
        let m : r.step % outer.step ≢ 0 = grind (arith, nat_tests) in
        let one : 1 ≤ r.count = omega arith in
        let n = sum_is_none (r.lo - outer.lo) r.step outer.step some p.1 m in
        let here : (r.lo + 1 * r.step) - outer.lo ≡ (r.lo - outer.lo) + r.step = omega arith in
        each_not (has outer) r.lo r.step r.count 1 one (not_has outer (r.lo + 1 * r.step) (λ z. n (rw here at z)))

-- two tests are equal where each implies the other
pub same_bool : (a b : Bool) → (a ≡ true → b ≡ true) → (b ≡ true → a ≡ true) → a ≡ b
same_bool true true f g = refl
same_bool true false f g = absurd (cc (f refl))
same_bool false true f g = absurd (cc (g refl))
same_bool false false f g = refl

abbrev pub ends_in : Range → Range → Bool
ends_in outer r =
    nat_le outer.lo r.lo
    && (nat_le (highest r) (highest outer)
    && (nat_eq ((r.lo - outer.lo) % outer.step) 0 && (nat_eq r.count 0 || nat_eq (r.step % outer.step) 0)))

-- a range whose ends lie in another, and in step with it
pub within_ends : (outer r : Range) → 0 < outer.step → within outer r ≡ ends_in outer r
within_ends outer r some = within_is outer r some ∙ same_bool (within_by outer r) (ends_in outer r) there back
  where
    step_test : Bool
    step_test = nat_eq r.count 0 || nat_eq (r.step % outer.step) 0

    there : within_by outer r ≡ true → ends_in outer r ≡ true
    there h =
        let a = and_true (has outer r.lo) (has outer (highest r) && step_test) h in
        let b = and_true (has outer (highest r)) step_test a.1 in
        let p = has_parts outer r.lo a.0 in
        let q = has_parts outer (highest r) b.0 in
        let p0 = p.0 in let p1 = p.1 in let q0 = q.0 in let q2 = q.2 in
        let m = multiple (highest r - outer.lo) outer.step q.1 in
        let up : (highest r - outer.lo) / outer.step * outer.step ≤ outer.count * outer.step =
        mul-le ((highest r - outer.lo) / outer.step) outer.step outer.count outer.step q2 (omega arith) in
        let top : highest r ≤ highest outer = omega arith in
        let x : nat_le outer.lo r.lo ≡ true = grind (arith, nat_tests) in
        let y : nat_le (highest r) (highest outer) ≡ true = grind (arith, nat_tests) in
        let z : nat_eq ((r.lo - outer.lo) % outer.step) 0 ≡ true = grind (arith, nat_tests) in
        rw (x, y, z) b.1

    few : (d : ℕ) → d ≤ outer.count * outer.step → d / outer.step ≤ outer.count
    few d l =
        let next : (outer.count + 1) * outer.step ≡ outer.count * outer.step + outer.step = grind arith in
        let k = div_below d outer.step (outer.count + 1) some (omega arith) in
        omega arith

    rest_of : (b c : Bool) → nat_eq r.count 0 ≡ b → nat_eq (r.step % outer.step) 0 ≡ c → (b || c) ≡ true
        → (r.lo - outer.lo) % outer.step ≡ 0 → outer.lo ≤ r.lo → (highest r - outer.lo) % outer.step ≡ 0
    rest_of true c e f h z l =
        let none : r.count ≡ 0 = grind (arith, nat_tests) in
        let same : r.lo + r.count * r.step ≡ r.lo = rw none (grind arith) in
        ap (λ n. (n - outer.lo) % outer.step) same ∙ z
    rest_of false true e f h z l =
        let m : r.step % outer.step ≡ 0 = grind (arith, nat_tests) in
        let there : highest r - outer.lo ≡ (r.lo - outer.lo) + r.count * r.step = omega arith in
        ap (λ n. n % outer.step) there ∙ (sum_is_multiple (r.lo - outer.lo) r.count r.step outer.step some z m).0
    rest_of false false e f h z l = absurd cc

    back : ends_in outer r ≡ true → within_by outer r ≡ true
    back h =
        let a = and_true (nat_le outer.lo r.lo)
        (nat_le (highest r) (highest outer) && (nat_eq ((r.lo - outer.lo) % outer.step) 0 && step_test)) h in
        let b = and_true (nat_le (highest r) (highest outer)) (nat_eq ((r.lo - outer.lo) % outer.step) 0 && step_test) a.1 in
        let c = and_true (nat_eq ((r.lo - outer.lo) % outer.step) 0) step_test b.1 in
        let a0 = a.0 in let b0 = b.0 in let c0 = c.0 in
        let low : outer.lo ≤ r.lo = grind (arith, nat_tests) in
        let top : highest r ≤ highest outer = grind (arith, nat_tests) in
        let z : (r.lo - outer.lo) % outer.step ≡ 0 = grind (arith, nat_tests) in
        let first = has_whole outer r.lo low z (few (r.lo - outer.lo) (omega arith)) in
        let rest = rest_of (nat_eq r.count 0) (nat_eq (r.step % outer.step) 0) refl refl c.1 z low in
        let last = has_whole outer (highest r) (omega arith) rest (few (highest r - outer.lo) (omega arith)) in
        rw (first, last) c.1

-- ---- a word of both

-- words before a number are below it
pub before : (x : Range) (n k : ℕ) → 0 < x.step → k < skipped n x → x.lo + k * x.step < n
before x n k some l =
    let d = n - x.lo + (x.step - 1) in
    let m : skipped n x * x.step ≤ d = div-mul-le_self d x.step in
    let up : (k + 1) * x.step ≤ skipped n x * x.step = mul-le (k + 1) x.step (skipped n x) x.step (omega arith) (omega arith) in
    let next : (k + 1) * x.step ≡ k * x.step + x.step = grind arith in
    omega arith

-- and from there on they are not
pub behind : (x : Range) (n : ℕ) → 0 < x.step → n ≤ x.lo + skipped n x * x.step
behind x n some =
    let d = n - x.lo + (x.step - 1) in
    let s = div-add-mod' d x.step in
    let r = mod_below d x.step some in
    omega arith

low_has : (y : Range) (w : ℕ) → w < y.lo → has y w ≡ false
low_has y w l = let e : nat_le y.lo w ≡ false = grind (arith, nat_tests) in rw e refl

div_up : (a b s : ℕ) → a ≤ b → a / s ≤ b / s
div_up a b zero l = omega arith
div_up a b (suc s) l = le-div (a / suc s) b (suc s) (omega arith) (let d = div-mul-le_self a (suc s) in omega arith)

pub one_shared : (x y : Range) (k : ℕ) → k ≤ x.count → has y (x.lo + k * x.step) ≡ true → shares x y ≡ true
one_shared x y k l h = ap not (each_not (λ v. not (has y v)) x.lo x.step x.count k l (ap not h))

-- where the words of x from the first that is not below y.lo on leave the rest of y's words
module _ (x y : Range) (some : 0 < x.step) (above : 0 < y.step) where
  abbrev pub past : ℕ
  past = (x.lo + skipped y.lo x * x.step) - y.lo

  -- a word of y among the words of x is at a place with the wanted rest
  at_rest : (k : ℕ) → skipped y.lo x ≤ k → has y (x.lo + k * x.step) ≡ true → ((k - skipped y.lo x) * (x.step % y.step)) % y.step ≡ wanted y.step past
  at_rest k l h =
      let p = has_parts y (x.lo + k * x.step) h in
      let m = multiple ((x.lo + k * x.step) - y.lo) y.step p.1 in
      let o = behind x y.lo some in
      let split = apart (skipped y.lo x) k x.step l in
      let e : (k - skipped y.lo x) * x.step + past ≡ ((x.lo + k * x.step) - y.lo) / y.step * y.step = omega arith in
      rest_where y.step past x.step (k - skipped y.lo x) (((x.lo + k * x.step) - y.lo) / y.step) above e

  none_all : ((k : ℕ) → skipped y.lo x ≤ k → k ≤ x.count → has y (x.lo + k * x.step) ≡ false) → shares x y ≡ false
  none_all far = ap not (each_where (λ v. not (has y v)) x.lo x.step x.count (λ k l. ap not (one k l (nat_lt k (skipped y.lo x)) refl)))
    where
      one : (k : ℕ) → k ≤ x.count → (a : Bool) → nat_lt k (skipped y.lo x) ≡ a → has y (x.lo + k * x.step) ≡ false
      one k l true e = low_has y (x.lo + k * x.step) (before x y.lo k some (grind (arith, nat_tests)))
      one k l false e = far k (grind (arith, nat_tests)) l

  pub shares_none : NoneWith (x.step % y.step) (wanted y.step past) y.step → shares x y ≡ false
  shares_none none = none_all (λ k l m. go k l (has y (x.lo + k * x.step)) refl)
    where
      go : (k : ℕ) → skipped y.lo x ≤ k → (t : Bool) → has y (x.lo + k * x.step) ≡ t → t ≡ false
      go k l false e = refl
      go k l true e = absurd (none (k - skipped y.lo x) (at_rest k l e))

  pub shares_first : (i : ℕ) → IsFirstWith (x.step % y.step) (wanted y.step past) y.step i
      → shares x y ≡ (nat_le (skipped y.lo x + i) x.count && has y (x.lo + (skipped y.lo x + i) * x.step))
  shares_first i f = by (nat_le (skipped y.lo x + i) x.count) refl (has y (x.lo + (skipped y.lo x + i) * x.step)) refl
    where
      -- a word of y among them comes no earlier
      not_before : (k : ℕ) → skipped y.lo x ≤ k → has y (x.lo + k * x.step) ≡ true → skipped y.lo x + i ≤ k
      not_before k l h = go (nat_lt (k - skipped y.lo x) i) refl
        where
          go : (b : Bool) → nat_lt (k - skipped y.lo x) i ≡ b → skipped y.lo x + i ≤ k
          go true e = absurd (f.first (k - skipped y.lo x) (grind (arith, nat_tests)) (at_rest k l h))
          go false e = let m : i ≤ k - skipped y.lo x = grind (arith, nat_tests) in omega arith

      -- and where one comes later, this is one
      then_here : (k : ℕ) → skipped y.lo x + i ≤ k → has y (x.lo + k * x.step) ≡ true → has y (x.lo + (skipped y.lo x + i) * x.step) ≡ true
      then_here k l h =
          let o = behind x y.lo some in
          let p = has_parts y (x.lo + k * x.step) h in
          let m = multiple_where y.step past x.step i above f.is in
          let split = apart (skipped y.lo x) (skipped y.lo x + i) x.step (omega arith) in
          let back : (skipped y.lo x + i) - skipped y.lo x ≡ i = omega arith in
          let e : (x.lo + (skipped y.lo x + i) * x.step) - y.lo ≡ i * x.step + past = (let s : (skipped y.lo x + i) * x.step ≡ skipped y.lo x * x.step + i * x.step = rw back at split in omega arith) in
          let whole : i * x.step + past ≡ (i * x.step + past) / y.step * y.step + 0 = omega arith in
          let rest : (i * x.step + past) % y.step ≡ 0 = ap (λ z. z % y.step) whole ∙ mod-mul-add ((i * x.step + past) / y.step) y.step 0 above in
          let up : (skipped y.lo x + i) * x.step ≤ k * x.step = mul-le (skipped y.lo x + i) x.step k x.step l (omega arith) in
          let few = div_up ((x.lo + (skipped y.lo x + i) * x.step) - y.lo) ((x.lo + k * x.step) - y.lo) y.step (omega arith) in
          let p2 = p.2 in
          has_whole y (x.lo + (skipped y.lo x + i) * x.step) (omega arith) (ap (λ z. z % y.step) e ∙ rest) (omega arith)

      by : (a : Bool) → nat_le (skipped y.lo x + i) x.count ≡ a → (b : Bool) → has y (x.lo + (skipped y.lo x + i) * x.step) ≡ b → shares x y ≡ (a && b)
      by true e true g = one_shared x y (skipped y.lo x + i) (grind (arith, nat_tests)) g
      by true e false g = none_all (λ k l m. go k l (has y (x.lo + k * x.step)) refl)
        where
          go : (k : ℕ) → skipped y.lo x ≤ k → (t : Bool) → has y (x.lo + k * x.step) ≡ t → t ≡ false
          go k l false h = refl
          go k l true h = absurd (cc (then_here k (not_before k l h) h, g))
      by false e b g = none_all (λ k l m. go k l m (has y (x.lo + k * x.step)) refl)
        where
          go : (k : ℕ) → skipped y.lo x ≤ k → k ≤ x.count → (t : Bool) → has y (x.lo + k * x.step) ≡ t → t ≡ false
          go k l m false h = refl
          go k l m true h = let n = not_before k l h in let o : x.count < skipped y.lo x + i = grind (arith, nat_tests) in absurd (omega arith)

-- the same over numbers that are these
pub shares_told : (x y : Range) → 0 < x.step → 0 < y.step → (lo low step xlo xstep ylo xstep' i : ℕ)
    → lo ≡ y.lo → low ≡ skipped lo x → step ≡ y.step → xlo ≡ x.lo → xstep ≡ x.step → ylo ≡ y.lo → xstep' ≡ x.step
    → IsFirstWith (xstep' % step) ((step - ((xlo + low * xstep) - ylo) % step) % step) step i
    → shares x y ≡ (nat_le (low + i) x.count && has y (x.lo + (low + i) * x.step))
shares_told x y some above lo low step xlo xstep ylo xstep' i a b c d e f g h =
    rw (b, a) (shares_first x y some above i (rw (b, a, c, d, e, f, g) at h))

-- ---- the two orders and equality

-- no word of y is this one
none_same : (y : Range) (v : ℕ) → 0 < y.step → each (λ w. not (nat_eq v w)) y ≡ not (has y v)
none_same y v some = by (has y v) refl
  where
    by : (b : Bool) → has y v ≡ b → each (λ w. not (nat_eq v w)) y ≡ not b
    by true e =
        let p = has_parts y v e in
        let p0 = p.0 in let p2 = p.2 in
        let m = multiple (v - y.lo) y.step p.1 in
        let is : y.lo + ((v - y.lo) / y.step) * y.step ≡ v = omega arith in
        let same : nat_eq v v ≡ true = grind (arith, nat_tests) in
        each_not (λ w. not (nat_eq v w)) y.lo y.step y.count ((v - y.lo) / y.step) p2 (rw (is, same) refl)
    by false e = each_where (λ w. not (nat_eq v w)) y.lo y.step y.count (λ k l. go k l (nat_eq v (y.lo + k * y.step)) refl)
      where
        go : (k : ℕ) → k ≤ y.count → (t : Bool) → nat_eq v (y.lo + k * y.step) ≡ t → not t ≡ true
        go k l false f = refl
        go k l true f =
            let is : v ≡ y.lo + k * y.step = grind (arith, nat_tests) in
            let d : v - y.lo ≡ k * y.step + 0 = omega arith in
            let rest : (v - y.lo) % y.step ≡ 0 = ap (λ z. z % y.step) d ∙ mod-mul-add k y.step 0 some in
            let count : (v - y.lo) / y.step ≡ k = ap (λ z. z / y.step) d ∙ div-mul-add k y.step 0 some in
            let yes = has_whole y v (omega arith) rest (omega arith) in
            absurd (cc (yes, e))

pub same_each : (f g : ℕ → Bool) (lo step count : ℕ) → ((w : ℕ) → f w ≡ g w) → all_from f lo step count ≡ all_from g lo step count
unfolding all_from
same_each f g lo step zero h = h lo
same_each f g lo step (suc n) h = rw (h lo, same_each f g (lo + step) step n h) refl

-- two ranges have no word in common
pub never_equal : (x y : Range) → 0 < y.step → each (λ v. each (λ w. not (nat_eq v w)) y) x ≡ not (shares x y)
never_equal x y some = same_each (λ v. each (λ w. not (nat_eq v w)) y) (λ v. not (has y v)) x.lo x.step x.count (λ v. none_same y v some) ∙ twice (each (λ v. not (has y v)) x)
  where
    twice : (b : Bool) → b ≡ not (not b)
    twice true = refl
    twice false = refl

-- each word of x is below each of y
pub all_below : (x y : Range) → each (λ v. each (λ w. nat_lt v w) y) x ≡ nat_lt (highest x) y.lo
all_below x y = by (nat_lt (highest x) y.lo) refl
  where
    first : y.lo + 0 * y.step ≡ y.lo
    first = grind arith

    by : (b : Bool) → nat_lt (highest x) y.lo ≡ b → each (λ v. each (λ w. nat_lt v w) y) x ≡ b
    by true e = each_where (λ v. each (λ w. nat_lt v w) y) x.lo x.step x.count (λ k l. each_where (λ w. nat_lt (x.lo + k * x.step) w) y.lo y.step y.count (λ j m. (
        let up : k * x.step ≤ x.count * x.step = mul-le k x.step x.count x.step l (omega arith) in
        let top : highest x < y.lo = grind (arith, nat_tests) in
        let less : x.lo + k * x.step < y.lo + j * y.step = omega arith in
        grind (arith, nat_tests))))
    by false e = each_not (λ v. each (λ w. nat_lt v w) y) x.lo x.step x.count x.count (omega arith) (each_not (λ w. nat_lt (highest x) w) y.lo y.step y.count 0 (omega arith) (rw first e))

-- no word of x is below one of y
pub none_below : (x y : Range) → each (λ v. each (λ w. not (nat_lt v w)) y) x ≡ nat_le (highest y) x.lo
none_below x y = by (nat_le (highest y) x.lo) refl
  where
    first : x.lo + 0 * x.step ≡ x.lo
    first = grind arith

    by : (b : Bool) → nat_le (highest y) x.lo ≡ b → each (λ v. each (λ w. not (nat_lt v w)) y) x ≡ b
    by true e = each_where (λ v. each (λ w. not (nat_lt v w)) y) x.lo x.step x.count (λ k l. each_where (λ w. not (nat_lt (x.lo + k * x.step) w)) y.lo y.step y.count (λ j m. (
        let up : j * y.step ≤ y.count * y.step = mul-le j y.step y.count y.step m (omega arith) in
        let top : highest y ≤ x.lo = grind (arith, nat_tests) in
        let no : nat_lt (x.lo + k * x.step) (y.lo + j * y.step) ≡ false = grind (arith, nat_tests) in
        ap not no)))
    by false e =
        let less : nat_lt (x.lo + 0 * x.step) (highest y) ≡ true = (rw first (let l : x.lo < highest y = grind (arith, nat_tests) in grind (arith, nat_tests))) in
        each_not (λ v. each (λ w. not (nat_lt v w)) y) x.lo x.step x.count 0 (omega arith) (each_not (λ w. not (nat_lt (x.lo + 0 * x.step) w)) y.lo y.step y.count y.count (omega arith) (ap not less))

-- all words of two ranges are one and the same
pub all_equal : (x y : Range) → 0 < x.step → 0 < y.step → each (λ v. each (λ w. nat_eq v w) y) x ≡ (nat_eq x.count 0 && (nat_eq y.count 0 && nat_eq x.lo y.lo))
all_equal x y some other = by (nat_eq x.count 0) refl (nat_eq y.count 0) refl (nat_eq x.lo y.lo) refl
  where
    first : (r : Range) → r.lo + 0 * r.step ≡ r.lo
    first r = grind arith

    none_if : (b : Bool) → each (λ w. nat_eq x.lo w) y ≡ b → b ≡ false → each (λ v. each (λ w. nat_eq v w) y) x ≡ false
    none_if b e f = each_not (λ v. each (λ w. nat_eq v w) y) x.lo x.step x.count 0 (omega arith) (rw (first x) (e ∙ f))

    by : (a : Bool) → nat_eq x.count 0 ≡ a → (b : Bool) → nat_eq y.count 0 ≡ b → (c : Bool) → nat_eq x.lo y.lo ≡ c → each (λ v. each (λ w. nat_eq v w) y) x ≡ (a && (b && c))
    by true e true f true g =
        let ex : x.count ≡ 0 = grind (arith, nat_tests) in
        let ey : y.count ≡ 0 = grind (arith, nat_tests) in
        each_where (λ v. each (λ w. nat_eq v w) y) x.lo x.step x.count (λ k l. each_where (λ w. nat_eq (x.lo + k * x.step) w) y.lo y.step y.count (λ j m. (
        let zk : k ≡ 0 = omega arith in
        let zj : j ≡ 0 = omega arith in
        rw (zk, zj, first x, first y) g)))
    by true e true f false g = none_if (each (λ w. nat_eq x.lo w) y) refl (each_not (λ w. nat_eq x.lo w) y.lo y.step y.count 0 (omega arith) (rw (first y) g))
    by true e false f c g = none_if (each (λ w. nat_eq x.lo w) y) refl (two c g)
      where
        two : (c : Bool) → nat_eq x.lo y.lo ≡ c → each (λ w. nat_eq x.lo w) y ≡ false
        two false g = each_not (λ w. nat_eq x.lo w) y.lo y.step y.count 0 (omega arith) (rw (first y) g)
        two true g =
            let more : 1 ≤ y.count = grind (arith, nat_tests) in
            let same : x.lo ≡ y.lo = grind (arith, nat_tests) in
            let one : y.lo + 1 * y.step ≡ y.lo + y.step = grind arith in
            let no : nat_eq x.lo (y.lo + y.step) ≡ false = grind (arith, nat_tests) in
            each_not (λ w. nat_eq x.lo w) y.lo y.step y.count 1 more (rw one no)
    by false e b f c g = two c g
      where
        two : (c : Bool) → nat_eq x.lo y.lo ≡ c → each (λ v. each (λ w. nat_eq v w) y) x ≡ false
        two false g = none_if (each (λ w. nat_eq x.lo w) y) refl (each_not (λ w. nat_eq x.lo w) y.lo y.step y.count 0 (omega arith) (rw (first y) g))
        two true g =
            let more : 1 ≤ x.count = grind (arith, nat_tests) in
            let same : x.lo ≡ y.lo = grind (arith, nat_tests) in
            let one : x.lo + 1 * x.step ≡ x.lo + x.step = grind arith in
            let no : nat_eq (x.lo + x.step) y.lo ≡ false = grind (arith, nat_tests) in
            each_not (λ v. each (λ w. nat_eq v w) y) x.lo x.step x.count 1 more (rw one (each_not (λ w. nat_eq (x.lo + x.step) w) y.lo y.step y.count 0 (omega arith) (rw (first y) no)))

-- ---- what is decided

pub below_by : (x y : Range) → decided (λ v w. nat_lt v w) x y ≡ (if nat_lt (highest x) y.lo then Some true else (if nat_le (highest y) x.lo then Some false else None))
below_by x y = rw (all_below x y, none_below x y) refl

pub always_below : (x y : Range) → highest x < y.lo → decided (λ v w. nat_lt v w) x y ≡ Some true
always_below x y l = let e : nat_lt (highest x) y.lo ≡ true = grind (arith, nat_tests) in below_by x y ∙ rw e refl

pub not_below : (x y : Range) → y.lo ≤ highest x → highest y ≤ x.lo → decided (λ v w. nat_lt v w) x y ≡ Some false
not_below x y l m =
    let e : nat_lt (highest x) y.lo ≡ false = grind (arith, nat_tests) in
    let f : nat_le (highest y) x.lo ≡ true = grind (arith, nat_tests) in
    below_by x y ∙ rw (e, f) refl

pub maybe_below : (x y : Range) → y.lo ≤ highest x → x.lo < highest y → decided (λ v w. nat_lt v w) x y ≡ None
maybe_below x y l m =
    let e : nat_lt (highest x) y.lo ≡ false = grind (arith, nat_tests) in
    let f : nat_le (highest y) x.lo ≡ false = grind (arith, nat_tests) in
    below_by x y ∙ rw (e, f) refl

pub equal_by : (x y : Range) → 0 < x.step → 0 < y.step → (b s : Bool) → (nat_eq x.count 0 && (nat_eq y.count 0 && nat_eq x.lo y.lo)) ≡ b → shares x y ≡ s
    → decided (λ v w. nat_eq v w) x y ≡ (if b then Some true else (if not s then Some false else None))
equal_by x y some other b s e f = rw (all_equal x y some other, never_equal x y other, e, f) refl

-- ---- addresses

fails_rest : (low high n w : ℕ) → (w % n == 0) ≡ false → fits_at low high n w ≡ false
fails_rest low high n w e = rw e refl

fails_low : (low high n w : ℕ) → nat_le low w ≡ false → fits_at low high n w ≡ false
fails_low low high n w e = by (w % n == 0)
  where
    by : (b : Bool) → (b && (nat_le low w && nat_le (w + n) high)) ≡ false
    by true = rw e refl
    by false = refl

fails_high : (low high n w : ℕ) → nat_le (w + n) high ≡ false → fits_at low high n w ≡ false
fails_high low high n w e = by (w % n == 0) (nat_le low w)
  where
    by : (b c : Bool) → (b && (c && nat_le (w + n) high)) ≡ false
    by true true = e
    by true false = refl
    by false c = refl

pub all_fit : (low high n : ℕ) (r : Range) → 0 < n → each (fits_at low high n) r ≡ (nat_eq (r.lo % n) 0 && ((nat_eq r.count 0 || nat_eq (r.step % n) 0) && (nat_le low r.lo && nat_le (highest r + n) high)))
all_fit low high n r some = by (nat_eq (r.lo % n) 0) refl (nat_eq r.count 0) refl (nat_eq (r.step % n) 0) refl (nat_le low r.lo) refl (nat_le (highest r + n) high) refl
  where
    first : r.lo + 0 * r.step ≡ r.lo
    first = grind arith

    good : (k : ℕ) → k ≤ r.count → (r.lo + k * r.step) % n ≡ 0 → nat_le low r.lo ≡ true → nat_le (highest r + n) high ≡ true → fits_at low high n (r.lo + k * r.step) ≡ true
    good k l rest g h =
        let up : k * r.step ≤ r.count * r.step = mul-le k r.step r.count r.step l (omega arith) in
        let a : nat_eq ((r.lo + k * r.step) % n) 0 ≡ true = grind (arith, nat_tests) in
        let b : nat_le low (r.lo + k * r.step) ≡ true = grind (arith, nat_tests) in
        let c : nat_le ((r.lo + k * r.step) + n) high ≡ true = (let t : highest r + n ≤ high = grind (arith, nat_tests) in let u : (r.lo + k * r.step) + n ≤ high = omega arith in grind (arith, nat_tests)) in
        rw (a, b, c) refl

    by : (a : Bool) → nat_eq (r.lo % n) 0 ≡ a → (b : Bool) → nat_eq r.count 0 ≡ b → (c : Bool) → nat_eq (r.step % n) 0 ≡ c → (d : Bool) → nat_le low r.lo ≡ d → (e : Bool) → nat_le (highest r + n) high ≡ e
        → each (fits_at low high n) r ≡ (a && ((b || c) && (d && e)))
    by false p b q c s d t e u = each_not (fits_at low high n) r.lo r.step r.count 0 (omega arith) (rw first (fails_rest low high n r.lo p))
    by true p false q false s d t e u =
        let h : r.lo % n ≡ 0 = grind (arith, nat_tests) in
        let g : r.step % n ≢ 0 = grind (arith, nat_tests) in
        let more : 1 ≤ r.count = grind (arith, nat_tests) in
        let one : r.lo + 1 * r.step ≡ r.lo + r.step = grind arith in
        let none = sum_is_none r.lo r.step n some h g in
        let no : nat_eq ((r.lo + r.step) % n) 0 ≡ false = grind (arith, nat_tests) in
        each_not (fits_at low high n) r.lo r.step r.count 1 more (rw one (fails_rest low high n (r.lo + r.step) no))
    by true p true q c s false t e u = each_not (fits_at low high n) r.lo r.step r.count 0 (omega arith) (rw first (fails_low low high n r.lo t))
    by true p false q true s false t e u = each_not (fits_at low high n) r.lo r.step r.count 0 (omega arith) (rw first (fails_low low high n r.lo t))
    by true p true q c s true t false u = each_not (fits_at low high n) r.lo r.step r.count r.count (omega arith) (fails_high low high n (highest r) u)
    by true p false q true s true t false u = each_not (fits_at low high n) r.lo r.step r.count r.count (omega arith) (fails_high low high n (highest r) u)
    by true p true q c s true t true u =
        let none : r.count ≡ 0 = grind (arith, nat_tests) in
        let h : r.lo % n ≡ 0 = grind (arith, nat_tests) in
        each_where (fits_at low high n) r.lo r.step r.count (λ k l. (
        let z : k ≡ 0 = omega arith in
        let here : (r.lo + k * r.step) % n ≡ 0 = rw (z, first) h in
        good k l here t u))
    by true p false q true s true t true u =
        let h : r.lo % n ≡ 0 = grind (arith, nat_tests) in
        let g : r.step % n ≡ 0 = grind (arith, nat_tests) in
        each_where (fits_at low high n) r.lo r.step r.count (λ k l. good k l (sum_is_multiple r.lo k r.step n some h g).0 t u)

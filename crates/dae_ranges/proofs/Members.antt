-- Which words a range has after it is moved or cut.
use Rattle.std.proofs.Common.{◌≡◌, ℕ, zero, suc, ◌+◌, ◌-◌, ◌*◌, ◌/◌, ◌%◌, ◌^◌, ◌<◌, ◌≤◌, Bool, true, false, not, ◌&&◌, refl, ap, sym, ◌∙◌, subst, arith}
use Rattle.std.specs.Prelude.{Some, None, nat_lt, nat_le, nat_eq, if◌then◌else◌}
use Rattle.std.proofs.lemmas.Bool.Decides.{nat_tests}
use Rattle.std.proofs.lemmas.Nat.{mul-le, div-add-mod', le-div, div_below}
use Rattle.dae_base.proofs.Laws.{and_true, if_some_is, not_true}
use Rattle.dae_base.specs.declared.Width.{Width}
use Rattle.dae_base.specs.Words.{size, overlap, plus}
use Rattle.dae_ranges.specs.declared.Range.{Range}
use Rattle.dae_ranges.specs.Ranges.{Has, single, any_word, highest, is_single, has, all_from, each, within, decided, raised, lowered, shifted, scaled, below, skipped, from, meet}

-- ---- all words

-- a test that holds from a number on in steps holds at each
pub at_each : (test : ℕ → Bool) (lo step count k : ℕ) → all_from test lo step count ≡ true → k ≤ count → test (lo + k * step) ≡ true
unfolding all_from
at_each test lo step zero k h l =
    let z : k ≡ 0 = omega arith in
    let e : lo + k * step ≡ lo = rw z (grind arith) in
    rw e h
at_each test lo step (suc n) zero h l =
    let e : lo + 0 * step ≡ lo = grind arith in
    rw e (and_true (test lo) (all_from test (lo + step) step n) h).0
at_each test lo step (suc n) (suc k) h l =
    let e : lo + suc k * step ≡ (lo + step) + k * step = grind arith in
    rw e (at_each test (lo + step) step n k (and_true (test lo) (all_from test (lo + step) step n) h).1 (omega arith))

pub each_has : (test : ℕ → Bool) (r : Range) (w : ℕ) → each test r ≡ true → Has r w → test w ≡ true
each_has test r w h x = rw x.is (at_each test r.lo r.step r.count x.at h x.fits)

-- ---- membership

pub single_is : (r : Range) (w : ℕ) → is_single r ≡ true → Has r w → w ≡ r.lo
single_is r w h x =
    let z : r.count ≡ 0 = grind (arith, nat_tests) in
    let f = x.fits in
    let e : x.at ≡ 0 = omega arith in
    let i : w ≡ r.lo + x.at * r.step = x.is in
    i ∙ rw e (grind arith)

pub has_single : (n : ℕ) → n < 2 ^ 32 → Has (single n) n
has_single n l = record { at = 0; fits = omega arith; is = omega arith; small = l }

pub has_any : (w : ℕ) → w < 2 ^ 32 → Has any_word w
has_any w l = record { at = w; fits = omega arith; is = omega arith; small = l }

pub is_below_highest : (r : Range) (w : ℕ) → Has r w → w ≤ highest r
is_below_highest r w x = let i = x.is in let m : x.at * r.step ≤ r.count * r.step = mul-le x.at r.step r.count r.step x.fits (omega arith) in omega arith

pub is_from_lowest : (r : Range) (w : ℕ) → Has r w → r.lo ≤ w
is_from_lowest r w x = let i = x.is in omega arith

pub has_is : (r : Range) (w : ℕ) → w < 2 ^ 32 → has r w ≡ true → Has r w
has_is r w l h =
    let a = and_true (nat_le r.lo w) (nat_eq ((w - r.lo) % r.step) 0 && nat_le ((w - r.lo) / r.step) r.count) h in
    let b = and_true (nat_eq ((w - r.lo) % r.step) 0) (nat_le ((w - r.lo) / r.step) r.count) a.1 in
    let a0 = a.0 in let b0 = b.0 in let b1 = b.1 in
    let low : r.lo ≤ w = grind (arith, nat_tests) in
    let rest : (w - r.lo) % r.step ≡ 0 = grind (arith, nat_tests) in
    let few : (w - r.lo) / r.step ≤ r.count = grind (arith, nat_tests) in
    let d = div-add-mod' (w - r.lo) r.step in
    record { at = (w - r.lo) / r.step; fits = few; is = (omega arith); small = l }

pub within_has : (outer r : Range) (w : ℕ) → within outer r ≡ true → Has r w → Has outer w
within_has outer r w h x = has_is outer w x.small (each_has (has outer) r w h x)

-- ---- tests of two ranges

each_each : (test : ℕ → ℕ → Bool) (x y : Range) (v w : ℕ) → each (λ v. each (test v) y) x ≡ true → Has x v → Has y w → test v w ≡ true
each_each test x y v w h p q = each_has (test v) y w (each_has (λ v. each (test v) y) x v h p) q

pub decided_is : (test : ℕ → ℕ → Bool) (x y : Range) (v w : ℕ) (b : Bool) → decided test x y ≡ Some b → Has x v → Has y w → test v w ≡ b
decided_is test x y v w b h p q = by (each (λ v. each (test v) y) x) refl (each (λ v. each (λ w. not (test v w)) y) x) refl h where
  by : (f : Bool) → each (λ v. each (test v) y) x ≡ f → (g : Bool) → each (λ v. each (λ w. not (test v w)) y) x ≡ g → (if f then Some true else (if g then Some false else None)) ≡ Some b → test v w ≡ b
  by true e g e' k = let t : b ≡ true = cc in each_each test x y v w e p q ∙ sym t
  by false e true e' k = let t : b ≡ false = cc in not_true (test v w) (each_each (λ v w. not (test v w)) x y v w e' p q) ∙ sym t
  by false e false e' k = cc

-- ---- ranges that move

pub raised_has : (n : ℕ) (r s : Range) (w : ℕ) → raised n r ≡ Some s → Has r w → Has s (w + n) × (w + n < 2 ^ 32)
raised_has n r s w h x =
    let k = if_some_is (nat_lt (highest r + n) (2 ^ 32)) (Some (record r { lo = r.lo + n })) s h in
    let k0 = k.0 in
    let fits : highest r + n < 2 ^ 32 = grind (arith, nat_tests) in
    let top = is_below_highest r w x in
    let is : record r { lo = r.lo + n } ≡ s = cc in
    let i = x.is in
    let small : w + n < 2 ^ 32 = omega arith in
    (subst (λ (s : Range). Has s (w + n)) is (record { at = x.at; fits = x.fits; is = (omega arith); small = small }), small)

pub lowered_has : (n : ℕ) (r s : Range) (w : ℕ) → lowered n r ≡ Some s → Has r w → Has s (w - n) × (n ≤ w)
lowered_has n r s w h x =
    let k = if_some_is (nat_le n r.lo) (Some (record r { lo = r.lo - n })) s h in
    let k0 = k.0 in
    let fits : n ≤ r.lo = grind (arith, nat_tests) in
    let is : record r { lo = r.lo - n } ≡ s = cc in
    let i = x.is in
    let f = x.small in
    (subst (λ (s : Range). Has s (w - n)) is (record { at = x.at; fits = x.fits; is = (omega arith); small = (omega arith) }), (omega arith))

pub shifted_has : (offset : ℕ) (r s : Range) (w : ℕ) → offset < 2 ^ 32 → shifted offset r ≡ Some s → Has r w → Has s (plus w offset)
shifted_has offset r s w l h x = by (nat_lt offset (2 ^ 31)) refl h where
  by : (b : Bool) → nat_lt offset (2 ^ 31) ≡ b → (if b then raised offset r else lowered (2 ^ 32 - offset) r) ≡ Some s → Has s (plus w offset)
  by true e k = let p = raised_has offset r s w k x in let p1 = p.1 in let same : w + offset ≡ plus w offset = omega arith in subst (Has s) same p.0
  by false e k =
      let p = lowered_has (2 ^ 32 - offset) r s w k x in let p1 = p.1 in
      let f = x.small in
      let same : w - (2 ^ 32 - offset) ≡ plus w offset = omega arith in
      subst (Has s) same p.0

pub scaled_has : (n : ℕ) (r s : Range) (w : ℕ) → scaled n r ≡ Some s → Has r w → Has s (w * n) × (w * n < 2 ^ 32)
scaled_has n r s w h x =
    let t : Range = record { lo = r.lo * n; step = r.step * n; count = r.count } in
    let k = if_some_is (nat_lt (highest r * n) (2 ^ 32)) (Some t) s h in
    let k0 = k.0 in
    let fits : highest r * n < 2 ^ 32 = grind (arith, nat_tests) in
    let top : w * n ≤ highest r * n = mul-le w n (highest r) n (is_below_highest r w x) (omega arith) in
    let is : t ≡ s = cc in
    let i : w ≡ r.lo + x.at * r.step = x.is in
    let e : w * n ≡ r.lo * n + x.at * (r.step * n) = rw i (grind arith) in
    let small : w * n < 2 ^ 32 = omega arith in
    (subst (λ (s : Range). Has s (w * n)) is (record { at = x.at; fits = x.fits; is = e; small = small }), small)

-- ---- parts of ranges

pub below_has : (n : ℕ) (r : Range) (w : ℕ) → Has r w → w < n → Has (below n r) w
below_has n r w x l = by r.step refl where
  by : (s : ℕ) → r.step ≡ s → Has (below n r) w
  by zero e =
      let i = x.is in
      let z : x.at * r.step ≡ 0 = rw e (grind arith) in
      record { at = 0; fits = (omega arith); is = (omega arith); small = x.small }
  by (suc s) e =
      let i = x.is in
      let under : x.at * r.step ≤ n - 1 - r.lo = omega arith in
      let some : 0 < r.step = omega arith in
      let few : x.at ≤ (n - 1 - r.lo) / r.step = le-div x.at (n - 1 - r.lo) r.step some under in
      let f = x.fits in
      record { at = x.at; fits = (omega arith); is = x.is; small = x.small }

pub apart : (c a s : ℕ) → c ≤ a → a * s ≡ c * s + (a - c) * s
apart c a s l =
    let e : c + (a - c) ≡ a = omega arith in
    let d : (c + (a - c)) * s ≡ c * s + (a - c) * s = grind arith in
    ap (λ z. z * s) (sym e) ∙ d

pub from_has : (n : ℕ) (r : Range) (w : ℕ) → Has r w → n ≤ w → Has (from n r) w
from_has n r w x l = by r.step refl where
  by : (s : ℕ) → r.step ≡ s → Has (from n r) w
  by zero e =
      let i = x.is in
      let z : x.at * r.step ≡ 0 = rw e (grind arith) in
      let y : skipped n r * r.step ≡ 0 = ap (λ z. skipped n r * z) e ∙ grind arith in
      record { at = 0; fits = (omega arith); is = (omega arith); small = x.small }
  by (suc s) e =
      let i = x.is in
      let some : 0 < r.step = omega arith in
      let over : n - r.lo ≤ x.at * r.step = omega arith in
      let next : (x.at + 1) * r.step ≡ x.at * r.step + r.step = grind arith in
      let under : n - r.lo + (r.step - 1) < (x.at + 1) * r.step = omega arith in
      let few : (n - r.lo + (r.step - 1)) / r.step < x.at + 1 = div_below (n - r.lo + (r.step - 1)) r.step (x.at + 1) some under in
      let k : skipped n r ≤ x.at = omega arith in
      let a = apart (skipped n r) x.at r.step k in
      let f = x.fits in
      record { at = x.at - skipped n r; fits = (omega arith); is = (omega arith); small = x.small }

-- ---- bytes

pub meet_where : (x y : Range) (wx wy : Width) (v w : ℕ) → meet x wx y wy ≡ false → Has x v → Has y w → overlap v wx w wy ≡ false
meet_where x y wx wy v w h p q = by (nat_lt v (w + size wy)) refl (nat_lt w (v + size wx)) refl where
  by : (a : Bool) → nat_lt v (w + size wy) ≡ a → (b : Bool) → nat_lt w (v + size wx) ≡ b → (a && b) ≡ false
  by true e true f =
      let v0 = is_from_lowest x v p in let v1 = is_below_highest x v p in
      let w0 = is_from_lowest y w q in let w1 = is_below_highest y w q in
      let one : nat_lt x.lo (highest y + size wy) ≡ true = grind (arith, nat_tests) in
      let two : nat_lt y.lo (highest x + size wx) ≡ true = grind (arith, nat_tests) in
      absurd (cc (h, ap (λ z. z && nat_lt y.lo (highest x + size wx)) one, two))
  by true e false f = refl
  by false e b f = refl

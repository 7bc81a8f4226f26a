-- Which multiples of a number leave a given rest, by Euclid's steps.
use Rattle.std.proofs.Common.{◌≡◌, ℕ, ◌+◌, ◌-◌, ◌*◌, ◌/◌, ◌%◌, ◌<◌, ◌≤◌, ◌⊎◌, inl, inr, Bool, true, false, refl, ap, sym, ◌∙◌, arith}
use Rattle.std.specs.Prelude.{nat_lt}
use Rattle.std.proofs.lemmas.Bool.Decides.{nat_tests}
use Rattle.std.proofs.lemmas.Nat.{mul-le, div-add-mod', mod_below, div_below, mod-mul-add, div-mul-add}
use Rattle.dae_ranges.specs.Congruences.{IsFirstWith, NoneWith}

-- the rest that makes up for b
abbrev pub wanted : ℕ → ℕ → ℕ
wanted a b = (a - b % a) % a

-- k times m, and b more, in multiples of a
parts : (a b m k : ℕ) → k * m + b ≡ (k * (m / a) + (k * (m % a)) / a + b / a) * a + ((k * (m % a)) % a + b % a)
parts a b m k =
    let dm = div-add-mod' m a in
    let db = div-add-mod' b a in
    let dk = div-add-mod' (k * (m % a)) a in
    let km : k * m ≡ k * (m / a) * a + k * (m % a) = ap (λ z. k * z) (sym dm) ∙ spread k (m / a) a (m % a) in
    let sum = gathered (k * (m / a)) ((k * (m % a)) / a) (b / a) a in
    omega arith
  where
    spread : (k q a r : ℕ) → k * (q * a + r) ≡ k * q * a + k * r
    spread k q a r = grind arith

    gathered : (x y z a : ℕ) → (x + y + z) * a ≡ x * a + y * a + z * a
    gathered x y z a = grind arith

-- a sum of two rests is a multiple only where it is none or one
two_rests : (a s t n m : ℕ) → s < a → t < a → n * a + (s + t) ≡ m * a → (s + t ≡ 0) ⊎ (s + t ≡ a)
two_rests a s t n m p q e = by (nat_lt m n) refl (nat_lt (n + 1) m) refl
  where
    next : (n : ℕ) → (n + 1) * a ≡ n * a + a
    next n = grind arith

    by : (c : Bool) → nat_lt m n ≡ c → (d : Bool) → nat_lt (n + 1) m ≡ d → (s + t ≡ 0) ⊎ (s + t ≡ a)
    by true f d g =
        let less : m < n = grind (arith, nat_tests) in
        let up : (m + 1) * a ≤ n * a = mul-le (m + 1) a n a (omega arith) (omega arith) in
        let o = next m in
        absurd (omega arith)
    by false f true g =
        let more : n + 1 < m = grind (arith, nat_tests) in
        let up : (n + 1 + 1) * a ≤ m * a = mul-le (n + 1 + 1) a m a (omega arith) (omega arith) in
        let o = next n in let o' = next (n + 1) in
        absurd (omega arith)
    by false f false g = same (nat_lt n m) refl
      where
        same : (c : Bool) → nat_lt n m ≡ c → (s + t ≡ 0) ⊎ (s + t ≡ a)
        same true h =
            let l : n < m = grind (arith, nat_tests) in
            let u : m ≤ n + 1 = grind (arith, nat_tests) in
            let is : m ≡ n + 1 = omega arith in
            let o = next n in
            let z : n * a + (s + t) ≡ (n + 1) * a = e ∙ ap (λ z. z * a) is in
            inr (omega arith)
        same false h =
            let l : m ≤ n = grind (arith, nat_tests) in
            let u : n ≤ m = grind (arith, nat_tests) in
            let is : m ≡ n = omega arith in
            let z : n * a + (s + t) ≡ n * a = e ∙ ap (λ z. z * a) is in
            inl (omega arith)

-- a sum that is a multiple of a: the one part leaves what the other wants
pub rest_where : (a b m k j : ℕ) → 0 < a → k * m + b ≡ j * a → (k * (m % a)) % a ≡ wanted a b
rest_where a b m k j some e =
    let p = parts a b m k in
    let s = mod_below (k * (m % a)) a some in
    let t = mod_below b a some in
    go (two_rests a ((k * (m % a)) % a) (b % a) (k * (m / a) + (k * (m % a)) / a + b / a) j s t (sym p ∙ e)) s t
  where
    go : ((k * (m % a)) % a + b % a ≡ 0) ⊎ ((k * (m % a)) % a + b % a ≡ a) → (k * (m % a)) % a < a → b % a < a
        → (k * (m % a)) % a ≡ wanted a b
    go (inl z) s t =
        let w : a - b % a ≡ 1 * a + 0 = omega arith in
        let r : wanted a b ≡ 0 = ap (λ n. n % a) w ∙ mod-mul-add 1 a 0 some in
        omega arith
    go (inr z) s t =
        let u : (k * (m % a)) % a ≡ a - b % a = omega arith in
        let l : a - b % a < a = omega arith in
        let w : a - b % a ≡ 0 * a + (a - b % a) = omega arith in
        let r : wanted a b ≡ a - b % a = ap (λ n. n % a) w ∙ mod-mul-add 0 a (a - b % a) l in
        omega arith

-- and the other way
pub multiple_where : (a b m k : ℕ) → 0 < a → (k * (m % a)) % a ≡ wanted a b → (k * m + b) / a * a ≡ k * m + b
multiple_where a b m k some e = by (k * (m / a) + (k * (m % a)) / a + b / a) (parts a b m k) (nat_lt 0 (b % a)) refl
  where
    next : (n : ℕ) → (n + 1) * a ≡ n * a + a
    next n = grind arith

    whole : (q : ℕ) → k * m + b ≡ q * a + 0 → (k * m + b) / a * a ≡ k * m + b
    whole q h = let d : (k * m + b) / a ≡ q = ap (λ z. z / a) h ∙ div-mul-add q a 0 some in ap (λ z. z * a) d ∙ omega arith

    by : (n : ℕ) → k * m + b ≡ n * a + ((k * (m % a)) % a + b % a) → (c : Bool) → nat_lt 0 (b % a) ≡ c → (k * m + b) / a * a ≡ k * m + b
    by n p true f =
        let t = mod_below b a some in
        let more : 0 < b % a = grind (arith, nat_tests) in
        let l : a - b % a < a = omega arith in
        let w : a - b % a ≡ 0 * a + (a - b % a) = omega arith in
        let r : wanted a b ≡ a - b % a = ap (λ n. n % a) w ∙ mod-mul-add 0 a (a - b % a) l in
        let o = next n in
        whole (n + 1) (omega arith)
    by n p false f =
        let none : b % a ≡ 0 = grind (arith, nat_tests) in
        let w : a - b % a ≡ 1 * a + 0 = omega arith in
        let r : wanted a b ≡ 0 = ap (λ n. n % a) w ∙ mod-mul-add 1 a 0 some in
        whole n (omega arith)

-- ---- the steps

-- where j times a leaves b over m, the number of whole m's in it leaves what b wants over a
down : (a b m j : ℕ) → 0 < a → (j * a) % m ≡ b → (((j * a) / m) * (m % a)) % a ≡ wanted a b
down a b m j some h =
    let d = div-add-mod' (j * a) m in
    rest_where a b m ((j * a) / m) j some (omega arith)

pub none_step : (a b m : ℕ) → 0 < a → NoneWith (m % a) (wanted a b) a → NoneWith a b m
none_step a b m some none j h = none ((j * a) / m) (down a b m j some h)

pub first_step : (a b m k : ℕ) → 0 < a → b < m → IsFirstWith (m % a) (wanted a b) a k → IsFirstWith a b m ((k * m + b) / a)
first_step a b m k some l f = record {
  is = ap (λ z. z % m) e ∙ mod-mul-add k m b l;
  first = λ j less h. (
      let d = div-add-mod' (j * a) m in
      let w = down a b m j some h in
      go j less h (nat_lt ((j * a) / m) k) refl);
  small = small;
}
  where
    e : (k * m + b) / a * a ≡ k * m + b
    e = multiple_where a b m k some f.is

    next : (n m : ℕ) → (n + 1) * m ≡ n * m + m
    next n m = grind arith

    go : (j : ℕ) → j < (k * m + b) / a → (j * a) % m ≡ b → (c : Bool) → nat_lt ((j * a) / m) k ≡ c → ⊥
    go j less h true g = f.first ((j * a) / m) (grind (arith, nat_tests)) (down a b m j some h)
    go j less h false g =
        let d = div-add-mod' (j * a) m in
        let more : k ≤ (j * a) / m = grind (arith, nat_tests) in
        let up : k * m ≤ (j * a) / m * m = mul-le k m ((j * a) / m) m more (omega arith) in
        let lower : (j + 1) * a ≤ (k * m + b) / a * a = mul-le (j + 1) a ((k * m + b) / a) a (omega arith) (omega arith) in
        let o = next j a in
        let same = e in
        omega arith

    small : (k * m + b) / a < m
    small =
        let s = f.small in
        let up : (k + 1) * m ≤ a * m = mul-le (k + 1) m a m (omega arith) (omega arith) in
        let o = next k m in
        let t : a * m ≡ m * a = grind arith in
        div_below (k * m + b) a m some (omega arith)

pub first_zero : (a m : ℕ) → 0 < m → IsFirstWith a 0 m 0
first_zero a m some = record {
  is = (let z : 0 * a ≡ 0 * m + 0 = grind arith in ap (λ n. n % m) z ∙ mod-mul-add 0 m 0 some);
  first = λ j l h. omega arith;
  small = some;
}

pub none_zero : (b m : ℕ) → 0 < b → 0 < m → NoneWith 0 b m
none_zero b m more some j h =
    let z : j * 0 ≡ 0 * m + 0 = grind arith in
    let r : (j * 0) % m ≡ 0 = ap (λ n. n % m) z ∙ mod-mul-add 0 m 0 some in
    omega arith

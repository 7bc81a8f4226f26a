-- Quotients, remainders, shifts and conjunctions of plain words, their low bits, and sums and products modulo 2 ^ 32.
use Rattle.std.proofs.Common.{◌≡◌, ℕ, ◌+◌, ◌-◌, ◌*◌, ◌/◌, ◌%◌, ◌^◌, ◌≤◌, ◌<◌, ℤ, pos, Bool, true, false, refl, sym, ap, ◌∙◌, subst, arith}
use Rattle.std.specs.Prelude.{nat_eq, nat_lt, if◌then◌else◌, bit_and, int_div, int_rem}
use Rattle.std.specs.Int.{int_shr}
use Rattle.std.specs.Int.Bits.{and_zero_l}
use Rattle.std.proofs.Math.Nat.{add_assoc, add_comm, add-mod, add-mod-mod, add-mul, div-le_self, div-mul-le_self, le_trans, mod-add-mod, mod-le, mod-mod, mul_assoc, mul_comm}
use Rattle.std.proofs.lemmas.Nat.{and_mod, and_comm, le-div, mod_below, mul-mod, mul-mod_first}
use Rattle.std.proofs.lemmas.Bool.Decides.{nat_tests}
use Rattle.dae_base.specs.declared.Width.{Width}
use Rattle.dae_base.specs.declared.Width.TheVariants.{B1, B2, B4}
use Rattle.dae_base.specs.declared.LoadKind.TheVariants.{I8, I16}
use Rattle.dae_base.specs.Words.{size, plus, times, word, signed, extended}

-- ---- orders

pub none_below : (n : ℕ) → 0 ≤ n
none_below n = omega arith

-- what is below a number of which a bound is known
pub below_most : (r y n : ℕ) → r < y → y ≤ n → r ≤ n - 1
below_most r y n h k = omega arith

pub below_all : (x n : ℕ) → x ≤ n → n < 2 ^ 32 - 1 → x < 2 ^ 32
below_all x n h k = omega arith

pub not_zero : (y : ℕ) → 0 < y → nat_eq y 0 ≡ false
not_zero y h = grind (arith, nat_tests)

-- quotients keep the order
pub less_quotient : (a x n : ℕ) → 0 < n → a ≤ x → a / n ≤ x / n
less_quotient a x n some h = le-div (a / n) x n some (le_trans (div-mul-le_self a n) h)

-- ---- signed words below 2 ^ 31

pub signed_small : (v : ℕ) → v < 2 ^ 31 → signed v ≡ pos v
signed_small v l = let e : nat_lt v (2 ^ 31) ≡ true = grind (arith, nat_tests) in rw e refl

word_small : (n x : ℕ) → n ≤ x → x < 2 ^ 31 → word (pos n) ≡ n
word_small n x h l = omega arith

pub positive_quotient : (x y : ℕ) → x < 2 ^ 31 → y < 2 ^ 31 → word (int_div (signed x) (signed y)) ≡ x / y
positive_quotient x y l m =
    ap (λ (z : ℤ). word (int_div z (signed y))) (signed_small x l) ∙ ap (λ (z : ℤ). word (int_div (pos x) z)) (signed_small y m)
    ∙ word_small (x / y) x (div-le_self x y) l

pub positive_remainder : (x y : ℕ) → x < 2 ^ 31 → y < 2 ^ 31 → word (int_rem (signed x) (signed y)) ≡ x % y
positive_remainder x y l m =
    ap (λ (z : ℤ). word (int_rem z (signed y))) (signed_small x l) ∙ ap (λ (z : ℤ). word (int_rem (pos x) z)) (signed_small y m)
    ∙ word_small (x % y) x (mod-le x y) l

pub positive_shift : (x k : ℕ) → x < 2 ^ 31 → word (int_shr (signed x) k) ≡ x / 2 ^ k
positive_shift x k l = ap (λ (z : ℤ). word (int_shr z k)) (signed_small x l) ∙ word_small (x / 2 ^ k) x (div-le_self x (2 ^ k)) l

-- ---- what divides a conjunction

pub by_one : (n : ℕ) → n % size B1 ≡ 0
by_one n = omega arith

pub first_divides : (w : Width) (x y : ℕ) → x % size w ≡ 0 → bit_and x y % size w ≡ 0
first_divides B1 x y i = by_one (bit_and x y)
first_divides B2 x y i = and_mod x y 1 ∙ ap (λ (n : ℕ). bit_and n (y % 2 ^ 1)) i ∙ and_zero_l (y % 2 ^ 1)
first_divides B4 x y i = and_mod x y 2 ∙ ap (λ (n : ℕ). bit_and n (y % 2 ^ 2)) i ∙ and_zero_l (y % 2 ^ 2)

pub second_divides : (w : Width) (x y : ℕ) → y % size w ≡ 0 → bit_and x y % size w ≡ 0
second_divides w x y i = subst (λ (n : ℕ). n % size w ≡ 0) (and_comm y x) (first_divides w y x i)

-- ---- low bits

-- a word that fits them stays as it is
pub byte_stays : (x : ℕ) → x ≤ 2 ^ 7 - 1 → extended I8 x ≡ x
byte_stays x h =
    let same : x % 2 ^ 8 ≡ x = omega arith in
    let less : nat_lt x (2 ^ 7) ≡ true = (let l : x < 2 ^ 7 = omega arith in grind (arith, nat_tests)) in
    ap (λ (n : ℕ). if nat_lt n (2 ^ 7) then n else n + (2 ^ 32 - 2 ^ 8)) same ∙ ap (λ (c : Bool). if c then x else x + (2 ^ 32 - 2 ^ 8)) less

pub half_stays : (x : ℕ) → x ≤ 2 ^ 15 - 1 → extended I16 x ≡ x
half_stays x h =
    let same : x % 2 ^ 16 ≡ x = omega arith in
    let less : nat_lt x (2 ^ 15) ≡ true = (let l : x < 2 ^ 15 = omega arith in grind (arith, nat_tests)) in
    ap (λ (n : ℕ). if nat_lt n (2 ^ 15) then n else n + (2 ^ 32 - 2 ^ 16)) same ∙ ap (λ (c : Bool). if c then x else x + (2 ^ 32 - 2 ^ 16)) less

pub byte_divides : (w : Width) (x : ℕ) → x % size w ≡ 0 → x % 2 ^ 8 % size w ≡ 0
byte_divides B1 x i = omega arith
byte_divides B2 x i = omega (arith, i)
byte_divides B4 x i = omega (arith, i)

pub half_divides : (w : Width) (x : ℕ) → x % size w ≡ 0 → x % 2 ^ 16 % size w ≡ 0
half_divides B1 x i = omega arith
half_divides B2 x i = omega (arith, i)
half_divides B4 x i = omega (arith, i)

-- ---- modulo 2 ^ 32

pub one_times : (n : ℕ) → n % 2 ^ 32 ≡ (1 * n + 0) % 2 ^ 32
one_times n = omega arith

pub none_times : (n e : ℕ) → n % 2 ^ 32 ≡ (0 * e + n) % 2 ^ 32
none_times n e = omega arith

pub times_small : (x y : ℕ) → times x y < 2 ^ 32
times_small x y = mod_below (x * y) (2 ^ 32) (omega arith)

pub plus_swapped : (x y : ℕ) → plus x y ≡ plus y x
plus_swapped x y = ap (λ (n : ℕ). n % 2 ^ 32) (add_comm x y)

pub times_swapped : (x y : ℕ) → times x y ≡ times y x
times_swapped x y = ap (λ (n : ℕ). n % 2 ^ 32) (mul_comm x y)

-- numbers below 2 ^ 32 that agree modulo it are the same
pub same_word : (x y : ℕ) → x < 2 ^ 32 → y < 2 ^ 32 → x % 2 ^ 32 ≡ y % 2 ^ 32 → x ≡ y
same_word x y h k e = omega arith

-- a sum with what agrees with k
pub sum_along : (n m k t o : ℕ) → n % 2 ^ 32 ≡ (t + o) % 2 ^ 32 → m % 2 ^ 32 ≡ k % 2 ^ 32 → plus n m % 2 ^ 32 ≡ (t + plus o k) % 2 ^ 32
sum_along n m k t o h i =
    mod-mod (n + m) (2 ^ 32) ∙ add-mod n m (2 ^ 32) ∙ ap (λ (x : ℕ). (x + m % 2 ^ 32) % 2 ^ 32) h ∙ ap (λ (x : ℕ). ((t + o) % 2 ^ 32 + x) % 2 ^ 32) i
    ∙ sym (add-mod (t + o) k (2 ^ 32)) ∙ ap (λ (x : ℕ). x % 2 ^ 32) (add_assoc t o k) ∙ sym (add-mod-mod t (o + k) (2 ^ 32))

spread : (s e o k : ℕ) → (s * e + o) * k ≡ s * k * e + o * k
spread s e o k =
    add-mul (s * e) o k ∙ ap (λ (x : ℕ). x + o * k) (mul_assoc s e k ∙ ap (λ (x : ℕ). s * x) (mul_comm e k) ∙ sym (mul_assoc s k e))

-- a product with what agrees with k
pub product_along : (n m k s e o : ℕ) → n % 2 ^ 32 ≡ (s * e + o) % 2 ^ 32 → m % 2 ^ 32 ≡ k % 2 ^ 32 → times n m % 2 ^ 32 ≡ (times s k * e + times o k) % 2 ^ 32
product_along n m k s e o h i =
    mod-mod (n * m) (2 ^ 32) ∙ mul-mod n m (2 ^ 32) ∙ ap (λ (x : ℕ). (x * (m % 2 ^ 32)) % 2 ^ 32) h ∙ ap (λ (x : ℕ). ((s * e + o) % 2 ^ 32 * x) % 2 ^ 32) i
    ∙ sym (mul-mod (s * e + o) k (2 ^ 32)) ∙ ap (λ (x : ℕ). x % 2 ^ 32) (spread s e o k)
    ∙ sym (mod-add-mod (s * k * e) (2 ^ 32) (o * k)) ∙ ap (λ (x : ℕ). (x + o * k) % 2 ^ 32) (sym (mul-mod_first (s * k) e (2 ^ 32)))
    ∙ mod-add-mod (times s k * e) (2 ^ 32) (o * k) ∙ sym (add-mod-mod (times s k * e) (o * k) (2 ^ 32))

-- Behind an action holds what its definition says is known there, and an address in good bounds passes its test.
use Rattle.std.proofs.Common.{◌≡◌, ℕ, zero, suc, ◌+◌, ◌-◌, ◌*◌, ◌/◌, ◌%◌, ◌^◌, ◌≤◌, ◌<◌, Bool, true, false, not, ◌&&◌, ◌||◌, List, [], ◌∷◌, ◌++◌, Option, Some, None, length, refl, sym, ap, ◌∙◌, subst, arith, mul_assoc, mul_comm}
use Rattle.std.specs.Prelude.{nat_eq, nat_lt, nat_le, take, if◌then◌else◌, bit_and, int_div, int_rem}
use Rattle.std.specs.Int.{int_shr}
use Rattle.std.proofs.lemmas.Bool.Decides.{nat_tests}
use Rattle.std.proofs.lemmas.Bool.{and_parts}
use Rattle.std.proofs.Math.Nat.{le_trans, mod-le, mul-le-mul_left}
use Rattle.std.proofs.lemmas.Nat.{mod_below, and_le_l, and_le_r, pow_pos}
use Rattle.dae_base.proofs.Laws.{plus_small}
use Rattle.dae_base.specs.declared.Width.{Width}
use Rattle.dae_base.specs.declared.Width.TheVariants.{B1, B2, B4}
use Rattle.dae_base.specs.declared.LoadKind.{LoadKind}
use Rattle.dae_base.specs.declared.LoadKind.TheVariants.{I8, U8, I16, U16, I32}
use Rattle.dae_base.specs.Words.{plus, minus, times, size, word, signed, extended}
use Rattle.dae_ir.specs.Classes.{VariableSet}
use Rattle.dae_ir.specs.Form.{Program, value, computed, fault, holds}
use Rattle.dae_ir.specs.Deeds.{Went, Halts, probed, trapped, deed, heard_code}
use Rattle.dae_ir.specs.declared.form.Operand.{Operand}
use Rattle.dae_ir.specs.declared.form.Operand.TheVariants.{Variable, Number}
use Rattle.dae_ir.specs.declared.form.Value.{Value}
use Rattle.dae_ir.specs.declared.form.Value.TheVariants.{Same, Extended, Binary, Holds, FrameAddress}
use Rattle.dae_ir.specs.declared.form.Check.TheVariants.{Place, InBounds, Zero, Room, Frame, Abort}
use Rattle.dae_ir.specs.declared.stream.Action.{Action}
use Rattle.dae_ir.specs.declared.stream.Action.TheVariants.{Set as Compute, Issue, Own, Receive, Address, Datum, Offer, Accept, Emit, Probe, Tell, Hear, Stop, Break, Continue, Call, Return}
use Rattle.dae_meaning.specs.Worlds.{World}
use Rattle.dae_meaning.specs.Operations.{combined, misplaced, ones}
use Rattle.dae_meaning.specs.Variables.{Env, put}
use Rattle.dae_meaning.specs.declared.Operator.{Operator}
use Rattle.dae_meaning.specs.declared.Operator.TheVariants.{Add, Subtract, Multiply, DivideSigned, DivideUnsigned, RemainderSigned, RemainderUnsigned, And, Or, Xor, ShiftLeft, ShiftRightSigned, ShiftRightUnsigned}
use Rattle.dae_select_walks.specs.declared.Affine.{Affine}
use Rattle.dae_select_walks.specs.declared.Bounds.{Bounds}
use Rattle.dae_select_walks.specs.declared.Fact.{Fact}
use Rattle.dae_select_walks.specs.declared.Fact.TheVariants.{Within, Equals}
use Rattle.dae_ir.specs.declared.stream.Argument.{Argument}
use Rattle.dae_select_walks.specs.Compiled.{with_result}
use Rattle.dae_select_walks.specs.Facts.{LiesIn, is_bounded, aligned_to, any, alignment, single, lesser, greater, added, subtracted, multiplied, is_single, is_small, quotient_bounds, remainder_bounds, conjunction_bounds, combined_bounds, low_bounds, kept_bounds, extended_bounds, flag_bounds, IsAffine, Lies, AllLie, gives_bounds, fact_bounds, bounds_among, gives_affine, own_word, fact_affine, affine_among, same_affine, has_affine, fact_variable, equal_among, is_about, less, Facts, Hold, bounds_in, operand_bounds, operand_affine, shifted_by, scaled_by, combined_affine, difference_affine, result_affine, affine_of, some_bounds, equal_in, equal_bounds, closer, value_bounds, says_nothing, fact_of, affine_fact, just, with_bounds, with_affine, refined, is_aligned, is_good, passed_bounds, facts_behind, LeavesOnly}
use Rattle.dae_select_walks.proofs.Words.{none_below, below_most, not_zero, less_quotient, positive_quotient, positive_remainder, positive_shift, by_one, first_divides, second_divides, byte_stays, half_stays, byte_divides, half_divides, one_times, none_times, times_small, plus_swapped, times_swapped, same_word, sum_along, product_along, below_all}

-- ---- what divides a word

pub of_wider : (w x : Width) (n : ℕ) → nat_le (size w) (size x) ≡ true → n % size x ≡ 0 → n % size w ≡ 0
of_wider B1 x n e i = omega arith
of_wider B2 B1 n e i = absurd cc
of_wider B2 B2 n e i = i
of_wider B2 B4 n e i = omega arith
of_wider B4 B1 n e i = absurd cc
of_wider B4 B2 n e i = absurd cc
of_wider B4 B4 n e i = i

alignment_is : (n : ℕ) → n % size (alignment n) ≡ 0
alignment_is n = by (nat_eq (n % 4) 0) (nat_eq (n % 2) 0) (λ e. grind (arith, nat_tests)) (λ e. grind (arith, nat_tests))
  where
    by : (c d : Bool) → (c ≡ true → n % 4 ≡ 0) → (d ≡ true → n % 2 ≡ 0) → n % size (if c then B4 else (if d then B2 else B1)) ≡ 0
    by true d h k = h refl
    by false true h k = k refl
    by false false h k = omega arith

sum_aligned : (x y : Width) (a b : ℕ) → a % size x ≡ 0 → b % size y ≡ 0 → plus a b % size (lesser x y) ≡ 0
sum_aligned B1 y a b i j = omega arith
sum_aligned B2 B1 a b i j = omega arith
sum_aligned B2 B2 a b i j = omega (arith, i, j)
sum_aligned B2 B4 a b i j = omega (arith, i, j)
sum_aligned B4 B1 a b i j = omega arith
sum_aligned B4 B2 a b i j = omega (arith, i, j)
sum_aligned B4 B4 a b i j = omega (arith, i, j)

difference_aligned : (x y : Width) (a b : ℕ) → a % size x ≡ 0 → b % size y ≡ 0 → minus a b % size (lesser x y) ≡ 0
difference_aligned B1 y a b i j = omega arith
difference_aligned B2 B1 a b i j = omega arith
difference_aligned B2 B2 a b i j = omega (arith, i, j)
difference_aligned B2 B4 a b i j = omega (arith, i, j)
difference_aligned B4 B1 a b i j = omega arith
difference_aligned B4 B2 a b i j = omega (arith, i, j)
difference_aligned B4 B4 a b i j = omega (arith, i, j)

-- a product is a multiple of what its left factor is
left_aligned : (w : Width) (a b : ℕ) → a % size w ≡ 0 → times a b % size w ≡ 0
left_aligned B1 a b i = omega arith
left_aligned B2 a b i =
    let two : a ≡ 2 * (a / 2) = omega arith in
    let product : a * b ≡ 2 * ((a / 2) * b) = ap (λ (n : ℕ). n * b) two ∙ mul_assoc 2 (a / 2) b in
    omega (arith, product)
left_aligned B4 a b i =
    let four : a ≡ 4 * (a / 4) = omega arith in
    let product : a * b ≡ 4 * ((a / 4) * b) = ap (λ (n : ℕ). n * b) four ∙ mul_assoc 4 (a / 4) b in
    omega (arith, product)

right_aligned : (w : Width) (a b : ℕ) → b % size w ≡ 0 → times a b % size w ≡ 0
right_aligned w a b i = subst (λ (n : ℕ). n % 2 ^ 32 % size w ≡ 0) (mul_comm b a) (left_aligned w b a i)

product_aligned : (x y : Width) (a b : ℕ) → a % size x ≡ 0 → b % size y ≡ 0 → times a b % size (greater x y) ≡ 0
product_aligned B1 y a b i j = right_aligned y a b j
product_aligned B2 B1 a b i j = left_aligned B2 a b i
product_aligned B2 B2 a b i j = left_aligned B2 a b i
product_aligned B2 B4 a b i j = right_aligned B4 a b j
product_aligned B4 y a b i j = left_aligned B4 a b i

-- both of two widths divide
both_aligned : (x y : Width) (n : ℕ) → n % size x ≡ 0 → n % size y ≡ 0 → n % size (greater x y) ≡ 0
both_aligned B1 y n i j = j
both_aligned B2 B1 n i j = i
both_aligned B2 B2 n i j = i
both_aligned B2 B4 n i j = j
both_aligned B4 y n i j = i

-- ---- bounds

aligned_only : (w : Width) (n : ℕ) → n % size w ≡ 0 → LiesIn (aligned_to w) n
aligned_only w n i = record { low = omega arith; high = λ e. absurd (let z : nat_lt (2 ^ 32 - 1) (2 ^ 32 - 1) ≡ true = e in cc); aligned = i }

pub any_word : (n : ℕ) → LiesIn any n
any_word n = aligned_only B1 n (omega arith)

either : (c : Bool) (a b : Bounds) (n : ℕ) → (c ≡ true → LiesIn a n) → (c ≡ false → LiesIn b n) → LiesIn (if c then a else b) n
either true a b n h k = h refl
either false a b n h k = k refl

added_is : (a b : Bounds) (x y : ℕ) → LiesIn a x → LiesIn b y → LiesIn (added a b) (plus x y)
added_is a b x y h k =
    let i = sum_aligned a.aligned b.aligned x y h.aligned k.aligned in
    either (nat_lt (a.high + b.high) (2 ^ 32 - 1) && nat_le (a.low + b.low) (a.high + b.high)) (record { low = a.low + b.low; high = a.high + b.high; aligned = lesser a.aligned b.aligned }) (aligned_to (lesser a.aligned b.aligned)) (plus x y)
    (λ e.
    let both = and_parts (nat_lt (a.high + b.high) (2 ^ 32 - 1)) (nat_le (a.low + b.low) (a.high + b.high)) e in
    let few : a.high + b.high < 2 ^ 32 - 1 = (let t = both.0 in grind (arith, nat_tests)) in
    let one : is_bounded a ≡ true = grind (arith, nat_tests) in
    let two : is_bounded b ≡ true = grind (arith, nat_tests) in
    let x1 = h.high one in let y1 = k.high two in let x0 = h.low in let y0 = k.low in
    record { low = omega arith; high = λ z. omega arith; aligned = i })
    (λ e. aligned_only (lesser a.aligned b.aligned) (plus x y) i)

subtracted_is : (a b : Bounds) (x y : ℕ) → LiesIn a x → LiesIn b y → LiesIn (subtracted a b) (minus x y)
subtracted_is a b x y h k =
    let i = difference_aligned a.aligned b.aligned x y h.aligned k.aligned in
    either (is_bounded a && nat_le b.high a.low) (record { low = a.low - b.high; high = a.high - b.low; aligned = lesser a.aligned b.aligned }) (aligned_to (lesser a.aligned b.aligned)) (minus x y)
    (λ e.
    let both = and_parts (is_bounded a) (nat_le b.high a.low) e in
    let bounded : a.high < 2 ^ 32 - 1 = (let t = both.0 in grind (arith, nat_tests)) in
    let over : b.high ≤ a.low = (let t = both.1 in grind (arith, nat_tests)) in
    let x1 = h.high both.0 in let x0 = h.low in
    let two : is_bounded b ≡ true = (let less : b.high < 2 ^ 32 - 1 = omega arith in grind (arith, nat_tests)) in
    let y1 = k.high two in let y0 = k.low in
    record { low = omega arith; high = λ z. omega arith; aligned = i })
    (λ e. aligned_only (lesser a.aligned b.aligned) (minus x y) i)

-- products keep the order
less_product : (a b x y : ℕ) → a ≤ x → b ≤ y → a * b ≤ x * y
less_product a b x y h k =
    let one = mul-le-mul_left a k in
    let two = mul-le-mul_left y h in
    let t1 = mul_comm y a in
    let t2 = mul_comm y x in
    omega arith

multiplied_is : (a b : Bounds) (x y : ℕ) → LiesIn a x → LiesIn b y → LiesIn (multiplied a b) (times x y)
multiplied_is a b x y h k =
    let i = product_aligned a.aligned b.aligned x y h.aligned k.aligned in
    either ((is_bounded a && is_bounded b) && (nat_lt (a.high * b.high) (2 ^ 32 - 1) && nat_le (a.low * b.low) (a.high * b.high))) (record { low = a.low * b.low; high = a.high * b.high; aligned = greater a.aligned b.aligned }) (aligned_to (greater a.aligned b.aligned)) (times x y)
    (λ e.
    let both = and_parts (is_bounded a && is_bounded b) (nat_lt (a.high * b.high) (2 ^ 32 - 1) && nat_le (a.low * b.low) (a.high * b.high)) e in
    let two = and_parts (is_bounded a) (is_bounded b) both.0 in
    let few : a.high * b.high < 2 ^ 32 - 1 = (let t = (and_parts (nat_lt (a.high * b.high) (2 ^ 32 - 1)) (nat_le (a.low * b.low) (a.high * b.high)) both.1).0 in grind (arith, nat_tests)) in
    let most = less_product x y a.high b.high (h.high two.0) (k.high two.1) in
    let least = less_product a.low b.low x y h.low k.low in
    record { low = omega arith; high = λ z. omega arith; aligned = i })
    (λ e. aligned_only (greater a.aligned b.aligned) (times x y) i)

single_is : (n : ℕ) → LiesIn (single n) n
single_is n = record { low = omega arith; high = λ e. omega arith; aligned = alignment_is n }

-- the one word that lies in them
number_is : (b : Bounds) (y : ℕ) → LiesIn b y → is_single b ≡ true → y ≡ b.low
number_is b y h e =
    let both = and_parts (is_bounded b) (nat_eq b.low b.high) e in
    let same : b.low ≡ b.high = (let t = both.1 in grind (arith, nat_tests)) in
    let low = h.low in let high = h.high both.0 in omega arith

some_word : (b : Bounds) (y : ℕ) → LiesIn b y → nat_lt 0 b.low ≡ true → 0 < y
some_word b y h e = let least : 0 < b.low = grind (arith, nat_tests) in let low = h.low in omega arith

-- bounds that are at most n hold only words that are
within_most : (n : ℕ) (b : Bounds) (x : ℕ) → n < 2 ^ 32 - 1 → LiesIn b x → nat_le b.high n ≡ true → x ≤ n
within_most n b x few h e =
    let top : b.high ≤ n = grind (arith, nat_tests) in
    let bounded : is_bounded b ≡ true = (let l : b.high < 2 ^ 32 - 1 = omega arith in grind (arith, nat_tests)) in
    let less = h.high bounded in omega arith

-- words that are known to be below 2 ^ 31
pub small_word : (b : Bounds) (x : ℕ) → LiesIn b x → is_small b ≡ true → x < 2 ^ 31
small_word b x h e =
    let less : b.high < 2 ^ 31 = grind (arith, nat_tests) in
    let bounded : is_bounded b ≡ true = (let l : b.high < 2 ^ 32 - 1 = omega arith in grind (arith, nat_tests)) in
    let top = h.high bounded in omega arith

pub bounded_small : (b : Bounds) → is_small b ≡ true → is_bounded b ≡ true
bounded_small b e = let less : b.high < 2 ^ 31 = grind (arith, nat_tests) in let l : b.high < 2 ^ 32 - 1 = omega arith in grind (arith, nat_tests)

high_is : (b : Bounds) → is_bounded b ≡ true → b.high < 2 ^ 32 - 1
high_is b e = grind (arith, nat_tests)

quotient_is : (a : Bounds) (x n : ℕ) → 0 < n → is_bounded a ≡ true → LiesIn a x → LiesIn (quotient_bounds a n) (x / n)
quotient_is a x n some bounded h = record { low = less_quotient a.low x n some h.low; high = λ e. less_quotient x a.high n some (h.high bounded); aligned = by_one (x / n) }

remainder_is : (a b : Bounds) (x y : ℕ) → 0 < y → is_bounded b ≡ true → LiesIn a x → LiesIn b y → LiesIn (remainder_bounds a b) (x % y)
remainder_is a b x y some bounded h k = record { low = none_below (x % y); high = most (nat_lt a.high b.high); aligned = by_one (x % y) }
  where
    most : (c : Bool) → nat_lt (if c then a.high else b.high - 1) (2 ^ 32 - 1) ≡ true → x % y ≤ (if c then a.high else b.high - 1)
    most true small = le_trans (mod-le x y) (h.high small)
    most false small = below_most (x % y) y b.high (mod_below x y some) (k.high bounded)

conjunction_is : (a b : Bounds) (x y : ℕ) → LiesIn a x → LiesIn b y → LiesIn (conjunction_bounds a b) (bit_and x y)
conjunction_is a b x y h k = record {
  low = none_below (bit_and x y);
  high = most (nat_lt a.high b.high);
  aligned = both_aligned a.aligned b.aligned (bit_and x y) (first_divides a.aligned x y h.aligned) (second_divides b.aligned x y k.aligned);
}
  where
    most : (c : Bool) → nat_lt (if c then a.high else b.high) (2 ^ 32 - 1) ≡ true → bit_and x y ≤ (if c then a.high else b.high)
    most true small = le_trans (and_le_l x y) (h.high small)
    most false small = le_trans (and_le_r x y) (k.high small)

-- of what isn't done by 0
not_by_zero : (b : Bounds) (y p q : ℕ) → 0 < y → LiesIn b q → LiesIn b (if nat_eq y 0 then p else q)
not_by_zero b y p q some h = subst (λ (c : Bool). LiesIn b (if c then p else q)) (sym (not_zero y some)) h

unsigned_quotient_is : (a b : Bounds) (x y : ℕ) → LiesIn a x → LiesIn b y → LiesIn (combined_bounds DivideUnsigned a b) (if nat_eq y 0 then ones else x / y)
unsigned_quotient_is a b x y h k =
    either ((is_bounded a && is_single b) && nat_lt 0 b.low) (quotient_bounds a b.low) any (if nat_eq y 0 then ones else x / y)
    (λ e.
    let one = and_parts (is_bounded a && is_single b) (nat_lt 0 b.low) e in
    let two = and_parts (is_bounded a) (is_single b) one.0 in
    let some = some_word b y k one.1 in
    not_by_zero (quotient_bounds a b.low) y ones (x / y) some (subst (λ (n : ℕ). LiesIn (quotient_bounds a n) (x / y)) (number_is b y k two.1) (quotient_is a x y some two.0 h)))
    (λ e. any_word (if nat_eq y 0 then ones else x / y))

signed_quotient_is : (a b : Bounds) (x y : ℕ) → LiesIn a x → LiesIn b y → LiesIn (combined_bounds DivideSigned a b) (if nat_eq y 0 then ones else word (int_div (signed x) (signed y)))
signed_quotient_is a b x y h k =
    either (((is_small a && is_small b) && is_single b) && nat_lt 0 b.low) (quotient_bounds a b.low) any (if nat_eq y 0 then ones else word (int_div (signed x) (signed y)))
    (λ e.
    let one = and_parts ((is_small a && is_small b) && is_single b) (nat_lt 0 b.low) e in
    let two = and_parts (is_small a && is_small b) (is_single b) one.0 in
    let three = and_parts (is_small a) (is_small b) two.0 in
    let some = some_word b y k one.1 in
    let plain = subst (λ (n : ℕ). LiesIn (quotient_bounds a n) (x / y)) (number_is b y k two.1) (quotient_is a x y some (bounded_small a three.0) h) in
    not_by_zero (quotient_bounds a b.low) y ones (word (int_div (signed x) (signed y))) some
    (subst (λ (n : ℕ). LiesIn (quotient_bounds a b.low) n) (sym (positive_quotient x y (small_word a x h three.0) (small_word b y k three.1))) plain))
    (λ e. any_word (if nat_eq y 0 then ones else word (int_div (signed x) (signed y))))

unsigned_remainder_is : (a b : Bounds) (x y : ℕ) → LiesIn a x → LiesIn b y → LiesIn (combined_bounds RemainderUnsigned a b) (if nat_eq y 0 then x else x % y)
unsigned_remainder_is a b x y h k =
    either (is_bounded b && nat_lt 0 b.low) (remainder_bounds a b) any (if nat_eq y 0 then x else x % y)
    (λ e.
    let one = and_parts (is_bounded b) (nat_lt 0 b.low) e in
    let some = some_word b y k one.1 in
    not_by_zero (remainder_bounds a b) y x (x % y) some (remainder_is a b x y some one.0 h k))
    (λ e. any_word (if nat_eq y 0 then x else x % y))

signed_remainder_is : (a b : Bounds) (x y : ℕ) → LiesIn a x → LiesIn b y → LiesIn (combined_bounds RemainderSigned a b) (if nat_eq y 0 then x else word (int_rem (signed x) (signed y)))
signed_remainder_is a b x y h k =
    either ((is_small a && is_small b) && nat_lt 0 b.low) (remainder_bounds a b) any (if nat_eq y 0 then x else word (int_rem (signed x) (signed y)))
    (λ e.
    let one = and_parts (is_small a && is_small b) (nat_lt 0 b.low) e in
    let two = and_parts (is_small a) (is_small b) one.0 in
    let some = some_word b y k one.1 in
    not_by_zero (remainder_bounds a b) y x (word (int_rem (signed x) (signed y))) some
    (subst (λ (n : ℕ). LiesIn (remainder_bounds a b) n) (sym (positive_remainder x y (small_word a x h two.0) (small_word b y k two.1))) (remainder_is a b x y some (bounded_small b two.1) h k)))
    (λ e. any_word (if nat_eq y 0 then x else word (int_rem (signed x) (signed y))))

left_shift_is : (a b : Bounds) (x y : ℕ) → LiesIn a x → LiesIn b y → LiesIn (combined_bounds ShiftLeft a b) (times x (2 ^ (y % 32)))
left_shift_is a b x y h k =
    either (is_single b) (multiplied a (single (2 ^ (b.low % 32)))) any (times x (2 ^ (y % 32)))
    (λ e. subst (λ (n : ℕ). LiesIn (multiplied a (single (2 ^ (n % 32)))) (times x (2 ^ (y % 32)))) (number_is b y k e)
    (multiplied_is a (single (2 ^ (y % 32))) x (2 ^ (y % 32)) h (single_is (2 ^ (y % 32)))))
    (λ e. any_word (times x (2 ^ (y % 32))))

unsigned_shift_is : (a b : Bounds) (x y : ℕ) → LiesIn a x → LiesIn b y → LiesIn (combined_bounds ShiftRightUnsigned a b) (x / 2 ^ (y % 32))
unsigned_shift_is a b x y h k =
    either (is_bounded a && is_single b) (quotient_bounds a (2 ^ (b.low % 32))) any (x / 2 ^ (y % 32))
    (λ e.
    let one = and_parts (is_bounded a) (is_single b) e in
    subst (λ (n : ℕ). LiesIn (quotient_bounds a (2 ^ (n % 32))) (x / 2 ^ (y % 32))) (number_is b y k one.1) (quotient_is a x (2 ^ (y % 32)) (pow_pos (y % 32)) one.0 h))
    (λ e. any_word (x / 2 ^ (y % 32)))

signed_shift_is : (a b : Bounds) (x y : ℕ) → LiesIn a x → LiesIn b y → LiesIn (combined_bounds ShiftRightSigned a b) (word (int_shr (signed x) (y % 32)))
signed_shift_is a b x y h k =
    either (is_small a && is_single b) (quotient_bounds a (2 ^ (b.low % 32))) any (word (int_shr (signed x) (y % 32)))
    (λ e.
    let one = and_parts (is_small a) (is_single b) e in
    let plain = quotient_is a x (2 ^ (y % 32)) (pow_pos (y % 32)) (bounded_small a one.0) h in
    subst (λ (n : ℕ). LiesIn (quotient_bounds a (2 ^ (b.low % 32))) n) (sym (positive_shift x (y % 32) (small_word a x h one.0)))
    (subst (λ (n : ℕ). LiesIn (quotient_bounds a (2 ^ (n % 32))) (x / 2 ^ (y % 32))) (number_is b y k one.1) plain))
    (λ e. any_word (word (int_shr (signed x) (y % 32))))

combined_is : (o : Operator) (a b : Bounds) (x y : ℕ) → LiesIn a x → LiesIn b y → LiesIn (combined_bounds o a b) (combined o x y)
unfolding combined
combined_is Add a b x y h k = added_is a b x y h k
combined_is Subtract a b x y h k = subtracted_is a b x y h k
combined_is Multiply a b x y h k = multiplied_is a b x y h k
combined_is DivideSigned a b x y h k = signed_quotient_is a b x y h k
combined_is DivideUnsigned a b x y h k = unsigned_quotient_is a b x y h k
combined_is RemainderSigned a b x y h k = signed_remainder_is a b x y h k
combined_is RemainderUnsigned a b x y h k = unsigned_remainder_is a b x y h k
combined_is And a b x y h k = conjunction_is a b x y h k
combined_is Or a b x y h k = any_word _
combined_is Xor a b x y h k = any_word _
combined_is ShiftLeft a b x y h k = left_shift_is a b x y h k
combined_is ShiftRightSigned a b x y h k = signed_shift_is a b x y h k
combined_is ShiftRightUnsigned a b x y h k = unsigned_shift_is a b x y h k

-- ---- extended words

kept_is : (n : ℕ) (b : Bounds) (x y : ℕ) → n < 2 ^ 32 - 1 → LiesIn b x → (x ≤ n → y ≡ x) → LiesIn (kept_bounds n b) y
kept_is n b x y few h same =
    either (nat_le b.high n) b any y (λ e. subst (λ (z : ℕ). LiesIn b z) (sym (same (within_most n b x few h e))) h) (λ e. any_word y)

low_is : (n : ℕ) (b : Bounds) (x y : ℕ) → n < 2 ^ 32 - 1 → LiesIn b x → (x ≤ n → y ≡ x) → y ≤ n → y % size b.aligned ≡ 0 → LiesIn (low_bounds n b) y
low_is n b x y few h same most divides =
    either (nat_le b.high n) b (record { low = 0; high = n; aligned = b.aligned }) y
    (λ e. subst (λ (z : ℕ). LiesIn b z) (sym (same (within_most n b x few h e))) h)
    (λ e. record { low = none_below y; high = λ z. most; aligned = divides })

extended_is : (kind : LoadKind) (b : Bounds) (x : ℕ) → LiesIn b x → LiesIn (extended_bounds kind b) (extended kind x)
extended_is I8 b x h = kept_is (2 ^ 7 - 1) b x (extended I8 x) (omega arith) h (λ small. byte_stays x small)
extended_is U8 b x h = low_is (2 ^ 8 - 1) b x (x % 2 ^ 8) (omega arith) h (λ small. omega (arith, small)) (omega arith) (byte_divides b.aligned x h.aligned)
extended_is I16 b x h = kept_is (2 ^ 15 - 1) b x (extended I16 x) (omega arith) h (λ small. half_stays x small)
extended_is U16 b x h = low_is (2 ^ 16 - 1) b x (x % 2 ^ 16) (omega arith) h (λ small. omega (arith, small)) (omega arith) (half_divides b.aligned x h.aligned)
extended_is I32 b x h = h

flag_is : (c : Bool) → LiesIn flag_bounds (if c then 1 else 0)
flag_is true = record { low = omega arith; high = λ e. omega arith; aligned = omega arith }
flag_is false = record { low = omega arith; high = λ e. omega arith; aligned = omega arith }

-- ---- facts

bound_is : (fact : Fact) (env : Env) (v : ℕ) → gives_bounds v fact ≡ true → Lies fact env → LiesIn (fact_bounds fact) (env v)
bound_is (Within u b) env v e h = let same : u ≡ v = (let t : nat_eq u v ≡ true = e in grind (arith, nat_tests)) in subst (λ (w : ℕ). LiesIn b (env w)) same h
bound_is (Equals u x) env v e h = absurd cc

among_is : (facts : List Fact) (env : Env) (v : ℕ) (otherwise : Bounds) → AllLie facts env → LiesIn otherwise (env v) → LiesIn (bounds_among facts v otherwise) (env v)
among_is [] env v otherwise h k = k
among_is (fact ∷ facts) env v otherwise h k =
    either (gives_bounds v fact) (fact_bounds fact) (bounds_among facts v otherwise) (env v) (λ e. bound_is fact env v e h.0) (λ e. among_is facts env v otherwise h.1 k)

pub known_is : (facts : Facts) (env : Env) (v : ℕ) → Hold facts env → LiesIn (bounds_in facts v) (env v)
known_is facts env v h = among_is facts.inner env v (bounds_among facts.outer v any) h.inner (among_is facts.outer env v any h.outer (any_word (env v)))

pub operand_is : (facts : Facts) (env : Env) (x : Operand) → Hold facts env → LiesIn (operand_bounds facts x) (value x env)
operand_is facts env (Variable v) h = known_is facts env v h
operand_is facts env (Number n) h = single_is n

-- ---- affine words

if_affine : (c : Bool) (x y : Affine) (env : Env) (n : ℕ) → (c ≡ true → IsAffine x env n) → (c ≡ false → IsAffine y env n) → IsAffine (if c then x else y) env n
if_affine true x y env n h k = h refl
if_affine false x y env n h k = k refl

told_affine_is : (fact : Fact) (env : Env) (v : ℕ) → gives_affine v fact ≡ true → Lies fact env → IsAffine (fact_affine fact) env (env v)
told_affine_is (Within u b) env v e h = absurd cc
told_affine_is (Equals u x) env v e h = let same : u ≡ v = (let t : nat_eq u v ≡ true = e in grind (arith, nat_tests)) in subst (λ (w : ℕ). IsAffine x env (env w)) same h

affine_among_is : (facts : List Fact) (env : Env) (v : ℕ) (otherwise : Affine) → AllLie facts env → IsAffine otherwise env (env v) → IsAffine (affine_among facts v otherwise) env (env v)
affine_among_is [] env v otherwise h k = k
affine_among_is (fact ∷ facts) env v otherwise h k =
    if_affine (gives_affine v fact) (fact_affine fact) (affine_among facts v otherwise) env (env v) (λ e. told_affine_is fact env v e h.0) (λ e. affine_among_is facts env v otherwise h.1 k)

operand_affine_is : (facts : Facts) (env : Env) (x : Operand) → Hold facts env → IsAffine (operand_affine facts x) env (value x env)
operand_affine_is facts env (Variable v) h =
    affine_among_is facts.inner env v (affine_among facts.outer v (own_word v)) h.inner (affine_among_is facts.outer env v (own_word v) h.outer (one_times (env v)))
operand_affine_is facts env (Number n) h = none_times n (env 0)

-- one that isn't scaled is a number
number_agrees : (x : Affine) (env : Env) (n : ℕ) → nat_eq x.scale 0 ≡ true → IsAffine x env n → n % 2 ^ 32 ≡ x.offset % 2 ^ 32
number_agrees x env n e h =
    let none : x.scale ≡ 0 = grind (arith, nat_tests) in
    subst (λ (s : ℕ). n % 2 ^ 32 ≡ (s * env x.base + x.offset) % 2 ^ 32) none h ∙ sym (none_times x.offset (env x.base))

-- what may be an affine word
abbrev IfAffine : Option Affine → Env → ℕ → Type 0
IfAffine None env n = Unit {0}
IfAffine (Some x) env n = IsAffine x env n

one_or_other : (x y : Affine) (c d : Option Affine) (env : Env) (n : ℕ) → (nat_eq x.scale 0 ≡ true → IfAffine c env n) → (nat_eq y.scale 0 ≡ true → IfAffine d env n) → IfAffine (if nat_eq x.scale 0 then c else (if nat_eq y.scale 0 then d else None)) env n
one_or_other x y c d env n h k = by (nat_eq x.scale 0) (nat_eq y.scale 0) h k
  where
    by : (a b : Bool) → (a ≡ true → IfAffine c env n) → (b ≡ true → IfAffine d env n) → IfAffine (if a then c else (if b then d else None)) env n
    by true b h k = h refl
    by false true h k = k refl
    by false false h k = tt

sum_affine_is : (x y : Affine) (env : Env) (n m : ℕ) → IsAffine x env n → IsAffine y env m → IfAffine (combined_affine Add x y) env (plus n m)
sum_affine_is x y env n m h k =
    one_or_other x y (Some (shifted_by x.offset y)) (Some (shifted_by y.offset x)) env (plus n m)
    (λ e. subst (λ (w : ℕ). IsAffine (shifted_by x.offset y) env w) (plus_swapped m n) (sum_along m n x.offset (y.scale * env y.base) y.offset k (number_agrees x env n e h)))
    (λ e. sum_along n m y.offset (x.scale * env x.base) x.offset h (number_agrees y env m e k))

product_affine_is : (x y : Affine) (env : Env) (n m : ℕ) → IsAffine x env n → IsAffine y env m → IfAffine (combined_affine Multiply x y) env (times n m)
product_affine_is x y env n m h k =
    one_or_other x y (Some (scaled_by x.offset y)) (Some (scaled_by y.offset x)) env (times n m)
    (λ e. subst (λ (w : ℕ). IsAffine (scaled_by x.offset y) env w) (times_swapped m n) (product_along m n x.offset y.scale (env y.base) y.offset k (number_agrees x env n e h)))
    (λ e. product_along n m y.offset x.scale (env x.base) x.offset h (number_agrees y env m e k))

difference_affine_is : (x : Affine) (y : Operand) (env : Env) (n : ℕ) → IsAffine x env n → IfAffine (difference_affine x y) env (minus n (value y env))
difference_affine_is x (Variable v) env n h = tt
difference_affine_is x (Number m) env n h = sum_along n (2 ^ 32 - m) (2 ^ 32 - m) (x.scale * env x.base) x.offset h refl

result_affine_is : (facts : Facts) (env : Env) (o : Operator) (x y : Operand) → Hold facts env → IfAffine (result_affine facts o x y) env (combined o (value x env) (value y env))
unfolding combined
result_affine_is facts env Add x y h = sum_affine_is (operand_affine facts x) (operand_affine facts y) env (value x env) (value y env) (operand_affine_is facts env x h) (operand_affine_is facts env y h)
result_affine_is facts env Subtract x y h = difference_affine_is (operand_affine facts x) y env (value x env) (operand_affine_is facts env x h)
result_affine_is facts env Multiply x y h = product_affine_is (operand_affine facts x) (operand_affine facts y) env (value x env) (value y env) (operand_affine_is facts env x h) (operand_affine_is facts env y h)
result_affine_is facts env DivideSigned x y h = tt
result_affine_is facts env DivideUnsigned x y h = tt
result_affine_is facts env RemainderSigned x y h = tt
result_affine_is facts env RemainderUnsigned x y h = tt
result_affine_is facts env And x y h = tt
result_affine_is facts env Or x y h = tt
result_affine_is facts env Xor x y h = tt
result_affine_is facts env ShiftLeft x y h = tt
result_affine_is facts env ShiftRightSigned x y h = tt
result_affine_is facts env ShiftRightUnsigned x y h = tt

affine_is : (facts : Facts) (frame : ℕ) (env : Env) (x : Value) → Hold facts env → IfAffine (affine_of facts x) env (computed x frame env)
affine_is facts frame env (Same x) h = operand_affine_is facts env x h
affine_is facts frame env (Binary o x y) h = result_affine_is facts env o x y h
affine_is facts frame env (Extended kind x) h = tt
affine_is facts frame env (Holds test) h = tt
affine_is facts frame env (FrameAddress offset) h = tt

-- ---- variables that equal the same affine word

same_affine_is : (x y : Affine) (env : Env) (n : ℕ) → same_affine y x ≡ true → IsAffine y env n → IsAffine x env n
same_affine_is x y env n e h =
    let one = and_parts (nat_eq y.scale x.scale) (nat_eq y.base x.base && nat_eq y.offset x.offset) e in
    let two = and_parts (nat_eq y.base x.base) (nat_eq y.offset x.offset) one.1 in
    let scale : y.scale ≡ x.scale = (let t = one.0 in grind (arith, nat_tests)) in
    let base : y.base ≡ x.base = (let t = two.0 in grind (arith, nat_tests)) in
    let offset : y.offset ≡ x.offset = (let t = two.1 in grind (arith, nat_tests)) in
    subst (λ (s : ℕ). n % 2 ^ 32 ≡ (s * env x.base + x.offset) % 2 ^ 32) scale
    (subst (λ (b : ℕ). n % 2 ^ 32 ≡ (y.scale * env b + x.offset) % 2 ^ 32) base (subst (λ (o : ℕ). n % 2 ^ 32 ≡ (y.scale * env y.base + o) % 2 ^ 32) offset h))

-- a variable whose word is this
abbrev IfEqual : Affine → Env → Option ℕ → Type 0
IfEqual x env None = Unit {0}
IfEqual x env (Some v) = IsAffine x env (env v)

has_affine_is : (fact : Fact) (x : Affine) (env : Env) → has_affine x fact ≡ true → Lies fact env → IsAffine x env (env (fact_variable fact))
has_affine_is (Within u b) x env e h = absurd cc
has_affine_is (Equals u y) x env e h = same_affine_is x y env (env u) e h

if_equal : (c : Bool) (x : Affine) (env : Env) (o p : Option ℕ) → (c ≡ true → IfEqual x env o) → IfEqual x env p → IfEqual x env (if c then o else p)
if_equal true x env o p h k = h refl
if_equal false x env o p h k = k

equal_among_is : (facts : List Fact) (x : Affine) (env : Env) (otherwise : Option ℕ) → AllLie facts env → IfEqual x env otherwise → IfEqual x env (equal_among facts x otherwise)
equal_among_is [] x env otherwise h k = k
equal_among_is (fact ∷ facts) x env otherwise h k =
    if_equal (has_affine x fact) x env (Some (fact_variable fact)) (equal_among facts x otherwise) (λ e. has_affine_is fact x env e h.0) (equal_among_is facts x env otherwise h.1 k)

some_bounds_are : (facts : Facts) (x : Affine) (env : Env) (o : Option ℕ) (n : ℕ) → Hold facts env → n < 2 ^ 32 → IsAffine x env n → IfEqual x env o → LiesIn (some_bounds facts o) n
some_bounds_are facts x env None n h few i k = any_word n
some_bounds_are facts x env (Some v) n h few i k =
    either (is_bounded (bounds_in facts v)) (bounds_in facts v) any n
    (λ e.
    let known = known_is facts env v h in
    let most = known.high e in
    subst (λ (w : ℕ). LiesIn (bounds_in facts v) w) (same_word (env v) n (below_all (env v) (bounds_in facts v).high most (high_is (bounds_in facts v) e)) few (k ∙ sym i)) known)
    (λ e. any_word n)

equal_bounds_are : (facts : Facts) (env : Env) (o : Option Affine) (n : ℕ) → Hold facts env → n < 2 ^ 32 → IfAffine o env n → LiesIn (equal_bounds facts o) n
equal_bounds_are facts env None n h few i = any_word n
equal_bounds_are facts env (Some x) n h few i =
    some_bounds_are facts x env (equal_in facts x) n h few i (equal_among_is facts.inner x env (equal_among facts.outer x None) h.inner (equal_among_is facts.outer x env None h.outer tt))

-- of a result that is an affine word
told_bounds_are : (facts : Facts) (env : Env) (o : Operator) (x y : Operand) → Hold facts env → LiesIn (equal_bounds facts (result_affine facts o x y)) (combined o (value x env) (value y env))
unfolding combined
told_bounds_are facts env Add x y h = equal_bounds_are facts env (result_affine facts Add x y) (plus (value x env) (value y env)) h (plus_small (value x env) (value y env)) (result_affine_is facts env Add x y h)
told_bounds_are facts env Subtract x y h = equal_bounds_are facts env (result_affine facts Subtract x y) (minus (value x env) (value y env)) h (plus_small (value x env) (2 ^ 32 - value y env)) (result_affine_is facts env Subtract x y h)
told_bounds_are facts env Multiply x y h = equal_bounds_are facts env (result_affine facts Multiply x y) (times (value x env) (value y env)) h (times_small (value x env) (value y env)) (result_affine_is facts env Multiply x y h)
told_bounds_are facts env DivideSigned x y h = any_word _
told_bounds_are facts env DivideUnsigned x y h = any_word _
told_bounds_are facts env RemainderSigned x y h = any_word _
told_bounds_are facts env RemainderUnsigned x y h = any_word _
told_bounds_are facts env And x y h = any_word _
told_bounds_are facts env Or x y h = any_word _
told_bounds_are facts env Xor x y h = any_word _
told_bounds_are facts env ShiftLeft x y h = any_word _
told_bounds_are facts env ShiftRightSigned x y h = any_word _
told_bounds_are facts env ShiftRightUnsigned x y h = any_word _

closer_is : (a b : Bounds) (n : ℕ) → LiesIn a n → LiesIn b n → LiesIn (closer a b) n
closer_is a b n h k = record {
  low = least (nat_lt a.low b.low);
  high = most (nat_lt a.high b.high);
  aligned = both_aligned a.aligned b.aligned n h.aligned k.aligned;
}
  where
    least : (c : Bool) → (if c then b.low else a.low) ≤ n
    least true = k.low
    least false = h.low

    most : (c : Bool) → nat_lt (if c then a.high else b.high) (2 ^ 32 - 1) ≡ true → n ≤ (if c then a.high else b.high)
    most true small = h.high small
    most false small = k.high small

-- ---- values

value_is : (facts : Facts) (frame : ℕ) (env : Env) (x : Value) → Hold facts env → LiesIn (value_bounds facts x) (computed x frame env)
value_is facts frame env (Same x) h = operand_is facts env x h
value_is facts frame env (Extended kind x) h = extended_is kind (operand_bounds facts x) (value x env) (operand_is facts env x h)
value_is facts frame env (Binary o x y) h =
    closer_is (combined_bounds o (operand_bounds facts x) (operand_bounds facts y)) (equal_bounds facts (result_affine facts o x y)) (combined o (value x env) (value y env))
    (combined_is o (operand_bounds facts x) (operand_bounds facts y) (value x env) (value y env) (operand_is facts env x h) (operand_is facts env y h))
    (told_bounds_are facts env o x y h)
value_is facts frame env (Holds test) h = flag_is (holds test env)
value_is facts frame env (FrameAddress offset) h = any_word _

-- ---- lists of facts

pub lie_both : (xs ys : List Fact) (env : Env) → AllLie xs env → AllLie ys env → AllLie (xs ++ ys) env
lie_both [] ys env h k = k
lie_both (x ∷ xs) ys env h k = (h.0, lie_both xs ys env h.1 k)

lie_take : (n : ℕ) (facts : List Fact) (env : Env) → AllLie facts env → AllLie (take n facts) env
lie_take zero facts env h = tt
lie_take (suc n) [] env h = tt
lie_take (suc n) (fact ∷ facts) env h = (h.0, lie_take n facts env h.1)

lie_fact : (v : ℕ) (b : Bounds) (env : Env) → LiesIn b (env v) → AllLie (fact_of v b) env
lie_fact v b env h = by (says_nothing b)
  where
    by : (c : Bool) → AllLie (if c then [] else Within v b ∷ []) env
    by true = tt
    by false = (h, tt)

neither : (c d : Bool) → (c || d) ≡ false → (c ≡ false) × (d ≡ false)
neither true d e = absurd cc
neither false d e = (refl, e)

-- what is known of the others
lies_still : (v y : ℕ) (fact : Fact) (env : Env) → is_about (just v) fact ≡ false → Lies fact env → Lies fact (put true v y env)
lies_still v y (Within u b) env e h = let other : nat_eq u v ≡ false = e in rw other h
lies_still v y (Equals u x) env e h =
    let two = neither (nat_eq u v) (nat_eq x.base v) e in
    let one : nat_eq u v ≡ false = two.0 in let other : nat_eq x.base v ≡ false = two.1 in rw (one, other) h

lie_others : (v y : ℕ) (facts : List Fact) (env : Env) → AllLie facts env → AllLie (less (just v) facts) (put true v y env)
lie_others v y [] env h = tt
lie_others v y (fact ∷ facts) env h = by (is_about (just v) fact) refl (lie_others v y facts env h.1)
  where
    by : (c : Bool) → is_about (just v) fact ≡ c → AllLie (less (just v) facts) (put true v y env) → AllLie (if c then less (just v) facts else fact ∷ less (just v) facts) (put true v y env)
    by true e k = k
    by false e k = (lies_still v y fact env e h.0, k)

pub lie_less : (set : VariableSet) (facts : List Fact) (env : Env) → AllLie facts env → AllLie (less set facts) env
lie_less set [] env h = tt
lie_less set (fact ∷ facts) env h = by (is_about set fact) (lie_less set facts env h.1)
  where
    by : (c : Bool) → AllLie (less set facts) env → AllLie (if c then less set facts else fact ∷ less set facts) env
    by true k = k
    by false k = (h.0, k)

-- a variable gets a word
hold_put : (v y : ℕ) (b : Bounds) (facts : Facts) (env : Env) → Hold facts env → LiesIn b y → Hold (with_bounds v b facts) (put true v y env)
hold_put v y b facts env h i =
    let same : nat_eq v v ≡ true = grind (arith, nat_tests) in
    record {
      outer = lie_others v y facts.outer env h.outer;
      inner = lie_take 64 (fact_of v b ++ less (just v) facts.inner) (put true v y env)
          (lie_both (fact_of v b) (less (just v) facts.inner) (put true v y env) (lie_fact v b (put true v y env) (rw same i)) (lie_others v y facts.inner env h.inner));
    }

-- more is known of a variable
hold_refined : (v : ℕ) (b : Bounds) (facts : Facts) (env : Env) → Hold facts env → LiesIn b (env v) → Hold (refined v b facts) env
hold_refined v b facts env h i =
    record { outer = h.outer; inner = lie_take 64 (fact_of v b ++ facts.inner) env (lie_both (fact_of v b) facts.inner env (lie_fact v b env i) h.inner) }

-- the affine word that a variable gets is still so behind it
affine_stays : (v n : ℕ) (x : Affine) (env : Env) → nat_eq x.base v ≡ false → IsAffine x env n → Lies (Equals v x) (put true v n env)
affine_stays v n x env e h = let same : nat_eq v v ≡ true = grind (arith, nat_tests) in rw (same, e) h

lie_affine : (v n : ℕ) (o : Option Affine) (env : Env) → IfAffine o env n → AllLie (affine_fact v o) (put true v n env)
lie_affine v n None env h = tt
lie_affine v n (Some x) env h = by (nat_eq x.scale 0 || nat_eq x.base v) refl
  where
    by : (c : Bool) → (nat_eq x.scale 0 || nat_eq x.base v) ≡ c → AllLie (if c then [] else Equals v x ∷ []) (put true v n env)
    by true e = tt
    by false e = (affine_stays v n x env (neither (nat_eq x.scale 0) (nat_eq x.base v) e).1 h, tt)

hold_affine : (v n : ℕ) (o : Option Affine) (facts : Facts) (env : Env) → IfAffine o env n → Hold facts (put true v n env) → Hold (with_affine v o facts) (put true v n env)
hold_affine v n o facts env i h =
    record { outer = h.outer; inner = lie_take 64 (affine_fact v o ++ facts.inner) (put true v n env) (lie_both (affine_fact v o) facts.inner (put true v n env) (lie_affine v n o env i) h.inner) }

-- of a variable nothing is known any more
hold_unknown : (v : ℕ) (facts : Facts) (env : Env) → Hold facts env → Hold (with_bounds v any facts) env
hold_unknown v facts env h = record {
  outer = lie_less (just v) facts.outer env h.outer;
  inner = lie_take 64 (fact_of v any ++ less (just v) facts.inner) env (lie_both (fact_of v any) (less (just v) facts.inner) env (lie_fact v any env (any_word (env v))) (lie_less (just v) facts.inner env h.inner));
}

-- behind a call, with its result
pub returned_facts : (memory : ℕ) (v result : Option ℕ) (f : ℕ) (xs : List Argument) (facts : Facts) (env : Env) → Hold facts env → Hold (facts_behind memory (Call v f xs) facts) (with_result v result env)
returned_facts memory None result f xs facts env h = h
returned_facts memory (Some v) None f xs facts env h = hold_unknown v facts env h
returned_facts memory (Some v) (Some x) f xs facts env h = hold_put v x any facts env h (any_word x)

-- ---- tests of places

pub aligned_is : (width : Width) (b : Bounds) (n : ℕ) → LiesIn b n → is_aligned width b ≡ true → n % size width ≡ 0
aligned_is width b n h e = of_wider width b.aligned n e h.aligned

pub good_is : (memory : ℕ) (width : Width) (b : Bounds) (n : ℕ) → LiesIn b n → is_good memory width b ≡ true → misplaced width n memory ≡ None
unfolding misplaced
good_is memory width b n h e =
    let one = and_parts (is_aligned width b) (nat_le 16 b.low && (is_bounded b && nat_le (b.high + size width) memory)) e in
    let two = and_parts (nat_le 16 b.low) (is_bounded b && nat_le (b.high + size width) memory) one.1 in
    let three = and_parts (is_bounded b) (nat_le (b.high + size width) memory) two.1 in
    let i = aligned_is width b n h one.0 in
    let low : 16 ≤ b.low = (let t = two.0 in grind (arith, nat_tests)) in
    let top : b.high + size width ≤ memory = (let t = three.1 in grind (arith, nat_tests)) in
    let n0 = h.low in
    let n1 = h.high three.0 in
    let a : nat_eq (n % size width) 0 ≡ true = rw i refl in
    let c : nat_lt n 16 ≡ false = (let k : 16 ≤ n = omega arith in grind (arith, nat_tests)) in
    let d : nat_lt memory (n + size width) ≡ false = (let k : n + size width ≤ memory = omega arith in grind (arith, nat_tests)) in
    rw (a, c, d) refl

tested : (c d : Bool) (o o' : Option ℕ) → ((o ≡ None) → ⊥) → ((o' ≡ None) → ⊥) → (if not c then o else (if d then o' else None)) ≡ None → (c ≡ true) × (d ≡ false)
tested true true o o' h k e = absurd (k e)
tested true false o o' h k e = (refl, refl)
tested false d o o' h k e = absurd (h e)

passed_is : (memory : ℕ) (width : Width) (b : Bounds) (n : ℕ) → LiesIn b n → misplaced width n memory ≡ None → LiesIn (passed_bounds memory width b) n
unfolding misplaced
passed_is memory width b n h e =
    let two = tested (nat_eq (n % size width) 0) (nat_lt n 16 || nat_lt memory (n + size width)) (Some 3) (Some 2) (λ z. absurd cc) (λ z. absurd cc) e in
    let range = neither (nat_lt n 16) (nat_lt memory (n + size width)) two.1 in
    let i : n % size width ≡ 0 = (let t = two.0 in grind (arith, nat_tests)) in
    let low : 16 ≤ n = (let t = range.0 in grind (arith, nat_tests)) in
    let top : n + size width ≤ memory = (let t = range.1 in grind (arith, nat_tests)) in
    let n0 = h.low in
    let under : n ≤ memory - size width = omega arith in
    record {
      low = least (nat_lt b.low 16) n0 low;
      high = most (nat_lt b.high (memory - size width)) under;
      aligned = both_aligned width b.aligned n i h.aligned;
    }
  where
    least : (c : Bool) → b.low ≤ n → 16 ≤ n → (if c then 16 else b.low) ≤ n
    least true n0 k = k
    least false n0 k = n0

    most : (c : Bool) → n ≤ memory - size width → nat_lt (if c then b.high else memory - size width) (2 ^ 32 - 1) ≡ true → n ≤ (if c then b.high else memory - size width)
    most true k small = h.high small
    most false k small = k

-- ---- actions

probed_holds : (by_a : Bool) (facts : Facts) (env : Env) (o : Option ℕ) → Hold facts env → LeavesOnly (Hold facts) (probed by_a o env)
probed_holds by_a facts env None h = h
probed_holds by_a facts env (Some code) h = tt

pub deed_facts : (p : Program) (by_a : Bool) (a : Action) (w : World) (env : Env) (facts : Facts) (memory : ℕ) → length w.memory ≡ memory → Hold facts env → LeavesOnly (Hold (facts_behind memory a facts)) (deed p by_a a w env)
deed_facts p by_a (Compute v x) w env facts memory size h =
    hold_affine v (computed x w.frame env) (affine_of facts x) (with_bounds v (value_bounds facts x) facts) env (affine_is facts w.frame env x h) (hold_put v (computed x w.frame env) (value_bounds facts x) facts env h (value_is facts w.frame env x h))
deed_facts p by_a (Issue kind x) w env facts memory size h = h
deed_facts p by_a (Own v kind x) w env facts memory size h = λ y. hold_put v y any facts env h (any_word y)
deed_facts p by_a (Receive v) w env facts memory size h = λ y. hold_put v y any facts env h (any_word y)
deed_facts p by_a (Address width x) w env facts memory size h = h
deed_facts p by_a (Datum x) w env facts memory size h = h
deed_facts p by_a (Offer v) w env facts memory size h = h
deed_facts p by_a (Accept v) w env facts memory size h = λ y. hold_put v y any facts env h (any_word y)
deed_facts p by_a (Emit spelling x) w env facts memory size h = h
deed_facts p by_a (Probe (Place width (Variable v))) w env facts memory size h = by (misplaced width (env v) (length w.memory)) refl
  where
    by : (o : Option ℕ) → misplaced width (env v) (length w.memory) ≡ o → LeavesOnly (Hold (refined v (passed_bounds memory width (bounds_in facts v)) facts)) (probed by_a o env)
    by None e = hold_refined v (passed_bounds memory width (bounds_in facts v)) facts env h (passed_is memory width (bounds_in facts v) (env v) (known_is facts env v h) (subst (λ (l : ℕ). misplaced width (env v) l ≡ None) size e))
    by (Some code) e = tt
deed_facts p by_a (Probe (Place width (Number n))) w env facts memory size h = probed_holds by_a facts env (fault p (Place width (Number n)) w env) h
deed_facts p by_a (Probe (InBounds x offset)) w env facts memory size h = probed_holds by_a facts env (fault p (InBounds x offset) w env) h
deed_facts p by_a (Probe (Zero x)) w env facts memory size h = probed_holds by_a facts env (fault p (Zero x) w env) h
deed_facts p by_a (Probe (Room f)) w env facts memory size h = probed_holds by_a facts env (fault p (Room f) w env) h
deed_facts p by_a (Probe Frame) w env facts memory size h = probed_holds by_a facts env (fault p Frame w env) h
deed_facts p by_a (Probe Abort) w env facts memory size h = probed_holds by_a facts env (fault p Abort w env) h
deed_facts p by_a (Tell x) w env facts memory size h = h
deed_facts p by_a (Hear only) w env facts memory size h = λ y. by y (nat_eq y 0)
  where
    by : (y : ℕ) (b : Bool) → LeavesOnly (Hold facts) (if b then Went env else Halts (trapped by_a (heard_code only y)))
    by y true = h
    by y false = tt
deed_facts p by_a (Stop x) w env facts memory size h = tt
deed_facts p by_a Break w env facts memory size h = h
deed_facts p by_a Continue w env facts memory size h = h
deed_facts p by_a (Call None f xs) w env facts memory size h = h
deed_facts p by_a (Call (Some v) f xs) w env facts memory size h = hold_unknown v facts env h
deed_facts p by_a (Return x) w env facts memory size h = h

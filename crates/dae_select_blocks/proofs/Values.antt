-- What the instructions of values compute, of two registers or of a register and a number.
use Rattle.std.proofs.Common.{◌≡◌, ℕ, zero, suc, ◌+◌, ◌-◌, ◌*◌, ◌/◌, ◌%◌, ◌^◌, ◌<◌, ℤ, pos, negsuc, Bool, true, false, not, refl, subst, ap, ◌∙◌, arith}
use Rattle.std.specs.Prelude.{nat_lt, nat_eq, if◌then◌else◌, Option, Some, None, bit_and, bit_or, bit_xor, int_div, int_rem, neg_ℤ, nat_abs}
use Rattle.std.proofs.Math.Nat.{div-le_self, mod-le, mul_comm}
use Rattle.std.specs.Int.{int_shr}
use Rattle.std.proofs.lemmas.Bool.Decides.{nat_tests}
use Rattle.std.proofs.lemmas.Nat.{or_of_32, xor_of_32, and_le_l, and_mask, and_comm, or_comm, xor_comm}
use Rattle.std.proofs.lemmas.Option.{same_Some, cond_some}
use Rattle.dae_base.specs.Words.{plus, minus, times, word, signed, extended}
use Rattle.dae_base.specs.declared.LoadKind.TheVariants.{I8, I16}
use Rattle.dae_encode.specs.declared.Inst.{Inst}
use Rattle.dae_encode.specs.declared.Inst.TheVariants.{Addi, Xori, Ori, Andi, Slli, Srli, Srai}
use Rattle.dae_encode.specs.Instructions.{effect, on_two, flag, shift_left, shift_right, shift_signed}
use Rattle.dae_meaning.specs.Operations.{combined}
use Rattle.dae_meaning.specs.declared.Operator.{Operator}
use Rattle.dae_meaning.specs.declared.Operator.TheVariants.{Add as Plus, Subtract, Multiply, DivideSigned, DivideUnsigned, RemainderSigned, RemainderUnsigned, And as Both, Or as Either, Xor as Differ, ShiftLeft, ShiftRightSigned, ShiftRightUnsigned}
use Rattle.dae_select_blocks.specs.Blocks.{lower, is_immediate, operation_code, exponent_below, exponent, power_code, immediate_code, commutes, exchanged_code}
use Rattle.dae_select_blocks.proofs.Halves.{immediate_word}

-- a signed number whose word fits
abbrev Fitting : ℤ → Type 0
Fitting (pos n) = n < 2 ^ 32
Fitting (negsuc n) = n + 1 < 2 ^ 32

signed_fits : (x : ℕ) → x < 2 ^ 32 → Fitting (signed x)
signed_fits x h = by (nat_lt x (2 ^ 31)) refl
  where
    by : (b : Bool) → nat_lt x (2 ^ 31) ≡ b → Fitting (if b then pos x else negsuc (2 ^ 32 - suc x))
    by true e = h
    by false e = grind (arith, nat_tests)

negated_fits : (n : ℕ) → n < 2 ^ 32 → word (neg_ℤ (pos n)) < 2 ^ 32
negated_fits zero h = omega arith
negated_fits (suc n) h = omega arith

quotient_fits : (a d : ℤ) → Fitting a → word (int_div a d) < 2 ^ 32
quotient_fits (pos a) (pos d) h = omega (arith, div-le_self a d)
quotient_fits (pos a) (negsuc d) h = negated_fits (a / suc d) (omega (arith, div-le_self a (suc d)))
quotient_fits (negsuc a) (pos d) h = negated_fits (suc a / d) (omega (arith, div-le_self (suc a) d))
quotient_fits (negsuc a) (negsuc d) h = omega (arith, div-le_self (suc a) (suc d))

remainder_fits : (a d : ℤ) → Fitting a → word (int_rem a d) < 2 ^ 32
remainder_fits (pos a) d h = omega (arith, mod-le a (nat_abs d))
remainder_fits (negsuc a) d h = negated_fits (suc a % nat_abs d) (omega (arith, mod-le (suc a) (nat_abs d)))

shifted_fits : (a : ℤ) (k : ℕ) → Fitting a → word (int_shr a k) < 2 ^ 32
shifted_fits (pos a) k h = omega (arith, div-le_self a (2 ^ k))
shifted_fits (negsuc a) k h = omega arith

pub operation_is : (o : Operator) (t x y : ℕ) → effect (operation_code o t x y) ≡ on_two t x y (combined o)
unfolding combined
operation_is Plus t x y = refl
operation_is Subtract t x y = refl
operation_is Multiply t x y = refl
operation_is DivideSigned t x y = refl
operation_is DivideUnsigned t x y = refl
operation_is RemainderSigned t x y = refl
operation_is RemainderUnsigned t x y = refl
operation_is Both t x y = refl
operation_is Either t x y = refl
operation_is Differ t x y = refl
operation_is ShiftLeft t x y = refl
operation_is ShiftRightSigned t x y = refl
operation_is ShiftRightUnsigned t x y = refl

either_fits : (b : Bool) (x y : ℕ) → x < 2 ^ 32 → y < 2 ^ 32 → (if b then x else y) < 2 ^ 32
either_fits true x y a b = a
either_fits false x y a b = b

pub operation_fits : (o : Operator) (x y : ℕ) → x < 2 ^ 32 → y < 2 ^ 32 → combined o x y < 2 ^ 32
unfolding combined
operation_fits Plus x y a b = omega arith
operation_fits Subtract x y a b = omega arith
operation_fits Multiply x y a b = omega arith
operation_fits DivideSigned x y a b = either_fits (nat_eq y 0) (2 ^ 32 - 1) (word (int_div (signed x) (signed y))) (omega arith) (quotient_fits (signed x) (signed y) (signed_fits x a))
operation_fits DivideUnsigned x y a b = either_fits (nat_eq y 0) (2 ^ 32 - 1) (x / y) (omega arith) (omega (arith, div-le_self x y))
operation_fits RemainderSigned x y a b = either_fits (nat_eq y 0) x (word (int_rem (signed x) (signed y))) a (remainder_fits (signed x) (signed y) (signed_fits x a))
operation_fits RemainderUnsigned x y a b = either_fits (nat_eq y 0) x (x % y) a (omega (arith, mod-le x y))
operation_fits Both x y a b = omega (arith, and_le_l x y)
operation_fits Either x y a b = or_of_32 x y a b
operation_fits Differ x y a b = xor_of_32 x y a b
operation_fits ShiftLeft x y a b = omega arith
operation_fits ShiftRightSigned x y a b = shifted_fits (signed x) (y % 32) (signed_fits x a)
operation_fits ShiftRightUnsigned x y a b = omega (arith, div-le_self x (2 ^ (y % 32)))

-- ---- operations on a register and a number

exponent_is : (above n k : ℕ) → exponent_below above n ≡ Some k → (k < above) × (n ≡ 2 ^ k)
exponent_is zero n k e = absurd cc
exponent_is (suc a) n k e = by (λ f. exponent_is a n k f) (nat_eq n (2 ^ a)) refl e
  where
    by : (exponent_below a n ≡ Some k → (k < a) × (n ≡ 2 ^ k)) → (b : Bool) → nat_eq n (2 ^ a) ≡ b → (if b then Some a else exponent_below a n) ≡ Some k → (k < suc a) × (n ≡ 2 ^ k)
    by below true t f =
        let same : a ≡ k = same_Some a k f in
        let is : n ≡ 2 ^ a = grind (arith, nat_tests) in
        (omega arith, subst (λ (j : ℕ). n ≡ 2 ^ j) same is)
    by below false t f = let more = below f in (omega arith, more.1)

-- the number is this power of 2
pub power_of_two : (n k : ℕ) → exponent n ≡ Some k → (k < 32) × (n ≡ 2 ^ k)
unfolding exponent
power_of_two n k e = exponent_is 32 n k e

-- an instruction on the register x into t that does an operation with a number
pub record DoesWith (i : Inst) (t x : ℕ) (operation : ℕ → ℕ) : Type 0 where
  pub function : ℕ → ℕ
  pub does : effect i ≡ on_two t x 0 (λ a b. function a)
  pub same : (a : ℕ) → function a ≡ operation a

power_with : (o : Option ℕ) (t x n : ℕ) (i : Inst) → ((k : ℕ) → o ≡ Some k → (k < 32) × (n ≡ 2 ^ k)) → power_code o t x ≡ Some i → DoesWith i t x (λ a. times a n)
power_with None t x n i is e = absurd (let none : None ≡ Some i = e in cc)
power_with (Some k) t x n i is e =
    let two = is k refl in
    let by_low : word (pos k) % 32 ≡ k = omega arith in
    subst (λ (j : Inst). DoesWith j t x (λ a. times a n)) (same_Some (Slli t x (pos k)) i e)
    (record { function = (λ a. shift_left a (word (pos k))); does = refl; same = λ a. rw (by_low, two.1) refl })

pub immediate_does : (o : Operator) (t x n : ℕ) (i : Inst) → n < 2 ^ 32 → immediate_code o t x n ≡ Some i → DoesWith i t x (λ a. combined o a n)
unfolding combined
immediate_does Plus t x n i h e =
    let two = cond_some (is_immediate n) (Addi t x (lower n)) i e in
    subst (λ (j : Inst). DoesWith j t x (λ a. plus a n)) two.1 (record { function = (λ a. plus a (word (lower n))); does = refl; same = λ a. rw (immediate_word n h two.0) refl })
immediate_does Subtract t x n i h e =
    let two = cond_some (is_immediate (minus 0 n)) (Addi t x (lower (minus 0 n))) i e in
    subst (λ (j : Inst). DoesWith j t x (λ a. minus a n)) two.1
    (record { function = (λ a. plus a (word (lower (minus 0 n)))); does = refl; same = λ a. rw (immediate_word (minus 0 n) (omega arith) two.0) (omega arith) })
immediate_does Multiply t x n i h e = power_with (exponent n) t x n i (power_of_two n) e
immediate_does DivideSigned t x n i h e = absurd (let none : None ≡ Some i = e in cc)
immediate_does DivideUnsigned t x n i h e = absurd (let none : None ≡ Some i = e in cc)
immediate_does RemainderSigned t x n i h e = absurd (let none : None ≡ Some i = e in cc)
immediate_does RemainderUnsigned t x n i h e = absurd (let none : None ≡ Some i = e in cc)
immediate_does Both t x n i h e =
    let two = cond_some (is_immediate n) (Andi t x (lower n)) i e in
    subst (λ (j : Inst). DoesWith j t x (λ a. bit_and a n)) two.1 (record { function = (λ a. bit_and a (word (lower n))); does = refl; same = λ a. rw (immediate_word n h two.0) refl })
immediate_does Either t x n i h e =
    let two = cond_some (is_immediate n) (Ori t x (lower n)) i e in
    subst (λ (j : Inst). DoesWith j t x (λ a. bit_or a n)) two.1 (record { function = (λ a. bit_or a (word (lower n))); does = refl; same = λ a. rw (immediate_word n h two.0) refl })
immediate_does Differ t x n i h e =
    let two = cond_some (is_immediate n) (Xori t x (lower n)) i e in
    subst (λ (j : Inst). DoesWith j t x (λ a. bit_xor a n)) two.1 (record { function = (λ a. bit_xor a (word (lower n))); does = refl; same = λ a. rw (immediate_word n h two.0) refl })
immediate_does ShiftLeft t x n i h e =
    let by_low : word (pos (n % 32)) % 32 ≡ n % 32 = omega arith in
    subst (λ (j : Inst). DoesWith j t x (λ a. a * 2 ^ (n % 32) % 2 ^ 32)) (same_Some (Slli t x (pos (n % 32))) i e)
    (record { function = (λ a. shift_left a (word (pos (n % 32)))); does = refl; same = λ a. ap (λ (k : ℕ). a * 2 ^ k % 2 ^ 32) by_low })
immediate_does ShiftRightSigned t x n i h e =
    let by_low : word (pos (n % 32)) % 32 ≡ n % 32 = omega arith in
    subst (λ (j : Inst). DoesWith j t x (λ a. word (int_shr (signed a) (n % 32)))) (same_Some (Srai t x (pos (n % 32))) i e)
    (record { function = (λ a. shift_signed a (word (pos (n % 32)))); does = refl; same = λ a. ap (λ (k : ℕ). word (int_shr (signed a) k)) by_low })
immediate_does ShiftRightUnsigned t x n i h e =
    let by_low : word (pos (n % 32)) % 32 ≡ n % 32 = omega arith in
    subst (λ (j : Inst). DoesWith j t x (λ a. a / 2 ^ (n % 32))) (same_Some (Srli t x (pos (n % 32))) i e)
    (record { function = (λ a. shift_right a (word (pos (n % 32)))); does = refl; same = λ a. ap (λ (k : ℕ). a / 2 ^ k) by_low })

commuted : (o : Operator) (x y : ℕ) → commutes o ≡ true → combined o x y ≡ combined o y x
unfolding combined
commuted Plus x y e = omega arith
commuted Subtract x y e = absurd cc
commuted Multiply x y e = ap (λ (n : ℕ). n % 2 ^ 32) (mul_comm x y)
commuted DivideSigned x y e = absurd cc
commuted DivideUnsigned x y e = absurd cc
commuted RemainderSigned x y e = absurd cc
commuted RemainderUnsigned x y e = absurd cc
commuted Both x y e = and_comm x y
commuted Either x y e = or_comm x y
commuted Differ x y e = xor_comm x y
commuted ShiftLeft x y e = absurd cc
commuted ShiftRightSigned x y e = absurd cc
commuted ShiftRightUnsigned x y e = absurd cc

pub exchanged_does : (o : Operator) (t x n : ℕ) (i : Inst) → n < 2 ^ 32 → exchanged_code o t x n ≡ Some i → DoesWith i t x (λ a. combined o n a)
exchanged_does o t x n i h e = by (commutes o) refl e
  where
    by : (b : Bool) → commutes o ≡ b → (if b then immediate_code o t x n else None) ≡ Some i → DoesWith i t x (λ a. combined o n a)
    by true c f =
        let with' = immediate_does o t x n i h f in
        record { function = with'.function; does = with'.does; same = λ a. with'.same a ∙ commuted o a n c }
    by false c f = absurd (let none : None ≡ Some i = f in cc)

-- ---- comparisons: what the one or two instructions leave

pub equal_flag : (x y : ℕ) → x < 2 ^ 32 → y < 2 ^ 32 → flag (nat_lt (minus x y) 1) ≡ flag (nat_eq x y)
equal_flag x y a b = grind (arith, nat_tests)

pub equal_left : (x y : ℕ) → x < 2 ^ 32 → y < 2 ^ 32 → nat_eq (minus x y) 0 ≡ nat_eq x y
equal_left x y a b = grind (arith, nat_tests)

pub different_flag : (x y : ℕ) → x < 2 ^ 32 → y < 2 ^ 32 → flag (nat_lt 0 (minus x y)) ≡ flag (not (nat_eq x y))
different_flag x y a b = grind (arith, nat_tests)

pub opposite_flag : (b : Bool) → bit_xor (flag b) 1 ≡ flag (not b)
opposite_flag true = refl
opposite_flag false = refl

-- ---- extensions

pub low_half : (x : ℕ) → shift_right (shift_left x 16) 16 ≡ x % 2 ^ 16
low_half x = omega arith

pub low_byte : (x : ℕ) → bit_and x 255 ≡ x % 2 ^ 8
low_byte x = and_mask x 8

shifted_back : (y k : ℕ) (b : Bool) → nat_lt y (2 ^ 31) ≡ b → shift_signed y k ≡ word (int_shr (if b then pos y else negsuc (2 ^ 32 - suc y)) (k % 32))
shifted_back y k b e = rw (← e) refl

pub signed_byte : (x : ℕ) → shift_signed (shift_left x 24) 24 ≡ extended I8 x
signed_byte x = by (nat_lt (x * 2 ^ 24 % 2 ^ 32) (2 ^ 31)) refl
  where
    by : (b : Bool) → nat_lt (x * 2 ^ 24 % 2 ^ 32) (2 ^ 31) ≡ b → shift_signed (shift_left x 24) 24 ≡ extended I8 x
    by true e = shifted_back (shift_left x 24) 24 true e ∙ grind (arith, nat_tests)
    by false e = shifted_back (shift_left x 24) 24 false e ∙ grind (arith, nat_tests)

pub signed_half : (x : ℕ) → shift_signed (shift_left x 16) 16 ≡ extended I16 x
signed_half x = by (nat_lt (x * 2 ^ 16 % 2 ^ 32) (2 ^ 31)) refl
  where
    by : (b : Bool) → nat_lt (x * 2 ^ 16 % 2 ^ 32) (2 ^ 31) ≡ b → shift_signed (shift_left x 16) 16 ≡ extended I16 x
    by true e = shifted_back (shift_left x 16) 16 true e ∙ grind (arith, nat_tests)
    by false e = shifted_back (shift_left x 16) 16 false e ∙ grind (arith, nat_tests)

-- What tests say of their parts, and tests of numbers that follow one another.
use Rattle.std.proofs.Common.{◌≡◌, ℕ, suc, ◌<◌, ◌^◌, Bool, true, false, not, ◌&&◌, ◌||◌, refl, arith, ◌+◌, zero, ◌≤◌, ◌*◌}
use Rattle.std.specs.Bool.{beq}
use Rattle.std.specs.Prelude.{nat_eq, if◌then◌else◌}
use Rattle.std.proofs.lemmas.Bool.{and_parts, false≢true}
use Rattle.std.proofs.lemmas.Bool.Decides.{nat_tests}
use Rattle.dae_base.specs.Words.{plus}

-- nothing is left to show where a test that fails passes
pub no_true : {X : Type 0} → false ≡ true → X
no_true h = absurd (false≢true h)

pub and_first : (x y : Bool) → (x && y) ≡ true → x ≡ true
and_first x y h = (and_parts x y h).0

pub and_second : (x y : Bool) → (x && y) ≡ true → y ≡ true
and_second x y h = (and_parts x y h).1

pub and_not : (x y : Bool) → (x && not y) ≡ true → (x ≡ true) × (y ≡ false)
and_not true false h = (refl, refl)
and_not true true h = no_true h
and_not false y h = no_true h

pub and_false : (b : Bool) → (b && false) ≡ false
and_false true = refl
and_false false = refl

pub and_nothing : (b : Bool) → (b && true) ≡ b
and_nothing true = refl
and_nothing false = refl

pub and_along : (x y z : Bool) → (x && (y && z)) ≡ ((x && y) && z)
and_along true y z = refl
and_along false y z = refl

pub or_nothing : (b : Bool) → (b || false) ≡ b
or_nothing true = refl
or_nothing false = refl

pub or_along : (x y z : Bool) → (x || (y || z)) ≡ ((x || y) || z)
or_along true y z = refl
or_along false y z = refl

-- tests that pass in the same cases are the same
pub same_tests : (x y : Bool) → (x ≡ true → y ≡ true) → (y ≡ true → x ≡ true) → x ≡ y
same_tests true true h k = refl
same_tests true false h k = no_true (h refl)
same_tests false true h k = no_true (k refl)
same_tests false false h k = refl

pub beq_same : (x y : Bool) → beq x y ≡ true → x ≡ y
beq_same true true h = refl
beq_same false false h = refl
beq_same true false h = absurd (false≢true h)
beq_same false true h = absurd (false≢true h)

pub same_number : (n : ℕ) → nat_eq n n ≡ true
same_number n = grind (arith, nat_tests)

pub zero_suc : (n : ℕ) → nat_eq 0 (suc n) ≡ false
zero_suc n = grind (arith, nat_tests)

pub suc_zero : (n : ℕ) → nat_eq (suc n) 0 ≡ false
suc_zero n = grind (arith, nat_tests)

pub suc_suc : (n m : ℕ) → nat_eq (suc n) (suc m) ≡ nat_eq n m
suc_suc n m = grind (arith, nat_tests)

pub plus_small : (x y : ℕ) → plus x y < 2 ^ 32
plus_small x y = omega arith

pub suc_plus : (x y : ℕ) → suc (x + y) ≡ suc x + y
suc_plus x y = omega arith

pub times_least : (n k : ℕ) → 0 < n → k ≤ n * k
times_least zero k h = absurd (omega arith)
times_least (suc n) k h = omega arith

pub choice_small : (t : Bool) (x y : ℕ) → x < 2 ^ 32 → y < 2 ^ 32 → (if t then x else y) < 2 ^ 32
choice_small true x y a b = a
choice_small false x y a b = b

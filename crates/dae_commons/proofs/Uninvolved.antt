-- Variables above every one that equations involve take none of them away, also behind what the lists of equations become.
use Rattle.std.proofs.Common.{◌≡◌, ℕ, ◌<◌, ◌≤◌, Bool, true, false, ◌||◌, nat_eq, if◌then◌else◌, max, List, [], ◌∷◌, refl, ap, arith}
use Rattle.std.proofs.Math.Nat.{le-max_left, le-max_right}
use Rattle.std.proofs.lemmas.Bool.{true≢false, or_from, ne_eqb}
use Rattle.dae_ir.specs.declared.form.Operand.{Operand}
use Rattle.dae_ir.specs.declared.form.Operand.TheVariants.{Variable, Number}
use Rattle.dae_ir.specs.declared.form.Value.{Value}
use Rattle.dae_ir.specs.declared.form.Value.TheVariants.{Same, Extended, Binary, Holds, FrameAddress}
use Rattle.dae_commons.specs.declared.equations.Equation.{Equation}
use Rattle.dae_commons.specs.Equations.{operand_involves, value_involves, involves, without_variable, equation, with_equation, both_known}
use Rattle.dae_commons.specs.Above.{InvolveNoneAbove, highest_in_operand, highest_in_value, highest_with}
use Rattle.dae_commons.proofs.Lists.{without_all, with_all, first_all, all_more}

-- ---- what a variable stands in

below_apart : (u v : ℕ) → u < v → nat_eq u v ≡ false
below_apart u v lt = ne_eqb u v (λ (is : u ≡ v). omega (arith, lt, is))

left_below : (m n v : ℕ) → max m n < v → m < v
left_below m n v lt = let le : m ≤ max m n = le-max_left m n in omega (arith, le, lt)

right_below : (m n v : ℕ) → max m n < v → n < v
right_below m n v lt = let le : n ≤ max m n = le-max_right m n in omega (arith, le, lt)

operand_above : (x : Operand) (v : ℕ) → highest_in_operand x < v → operand_involves v x ≡ false
operand_above (Variable u) v lt = below_apart u v lt
operand_above (Number k) v lt = refl

operands_above : (x y : Operand) (v : ℕ) → max (highest_in_operand x) (highest_in_operand y) < v → (operand_involves v x || operand_involves v y) ≡ false
operands_above x y v lt =
    or_from (operand_involves v x) (operand_involves v y)
    (operand_above x v (left_below (highest_in_operand x) (highest_in_operand y) v lt))
    (operand_above y v (right_below (highest_in_operand x) (highest_in_operand y) v lt))

value_above : (x : Value) (v : ℕ) → highest_in_value x < v → value_involves v x ≡ false
value_above (Same x) v lt = operand_above x v lt
value_above (Extended kind x) v lt = operand_above x v lt
value_above (Binary operator x y) v lt = operands_above x y v lt
value_above (Holds t) v lt = operands_above t.left t.right v lt
value_above (FrameAddress offset) v lt = refl

equation_above : (n u : ℕ) (x : Value) (v : ℕ) → highest_with n u x < v → involves v (equation u x) ≡ false
equation_above n u x v lt =
    or_from (nat_eq u v) (value_involves v x)
    (below_apart u v (right_below n u v (left_below (max n u) (highest_in_value x) v lt)))
    (value_above x v (right_below (max n u) (highest_in_value x) v lt))

-- ---- lists

pub none_taken : (n v : ℕ) (q : List Equation) → InvolveNoneAbove n q → n < v → q ≡ without_variable v q
none_taken n v [] all lt = refl
none_taken n v (e ∷ q) all lt = by (involves v e) (all.0 v lt) (none_taken n v q all.1 lt) where
  by : (b : Bool) → b ≡ false → q ≡ without_variable v q → (e ∷ q) ≡ (if b then without_variable v q else e ∷ without_variable v q)
  by true is rest = absurd (true≢false is)
  by false is rest = ap (λ (es : List Equation). e ∷ es) rest

pub without_above : (n v : ℕ) (q : List Equation) → InvolveNoneAbove n q → InvolveNoneAbove n (without_variable v q)
without_above n v q all =
    without_all (λ (e : Equation). (u : ℕ) → n < u → involves u e ≡ false) (λ (e : Equation). (u : ℕ) → n < u → involves u e ≡ false) v (λ e other h. h) q all

pub with_above : (n v : ℕ) (x : Value) (q : List Equation) → InvolveNoneAbove n q → InvolveNoneAbove (highest_with n v x) (with_equation v x q)
with_above n v x q all =
    with_all (λ (e : Equation). (u : ℕ) → highest_with n v x < u → involves u e ≡ false) v x q (λ other. equation_above n v x)
    (all_more (λ (e : Equation). (u : ℕ) → n < u → involves u e ≡ false) (λ (e : Equation). (u : ℕ) → highest_with n v x < u → involves u e ≡ false)
    (λ e h u lt. h u (left_below n v u (left_below (max n v) (highest_in_value x) u lt))) (without_variable v q) (without_above n v q all))

pub both_above : (n : ℕ) (q r : List Equation) → InvolveNoneAbove n q → InvolveNoneAbove n (both_known q r)
both_above n q r all = first_all (λ (e : Equation). (u : ℕ) → n < u → involves u e ≡ false) q r all

-- A form without its common subexpressions is as well made as before.
use Rattle.std.proofs.Common.{◌≡◌, ℕ, ◌^◌, ◌<◌, Bool, true, false, if◌then◌else◌, List, [], ◌∷◌, length, Option, Some, refl, sym, subst, arith}
use Rattle.std.specs.Prelude.{slice_get}
use Rattle.std.specs.List.{AllByRecursion}
use Rattle.dae_ir.specs.Code.{Done, Do, If, Loop, Each}
use Rattle.dae_ir.specs.Form.{Form}
use Rattle.dae_ir.specs.Classes.{Classes}
use Rattle.dae_ir.specs.Rounds.{is_jump, stays}
use Rattle.dae_ir.specs.Scope.{IsIn, TestIn, ValueIn, ItemIn, TakesArguments, is_return, is_end, closes, never_returns}
use Rattle.dae_ir.specs.declared.form.Operand.{Operand}
use Rattle.dae_ir.specs.declared.form.Operand.TheVariants.{Variable, Number}
use Rattle.dae_ir.specs.declared.form.Value.{Value}
use Rattle.dae_ir.specs.declared.form.Value.TheVariants as val
use Rattle.dae_ir.specs.declared.form.Test.{Test}
use Rattle.dae_meaning.specs.declared.Operator.TheVariants.{Add}
use Rattle.dae_ir.specs.declared.form.Check.TheVariants.{Place as Good, InBounds, Zero, Room, Frame, Abort}
use Rattle.dae_ir.specs.declared.form.Function.{Function}
use Rattle.dae_ir.specs.declared.form.Item.{Item}
use Rattle.dae_ir.specs.declared.form.Item.TheVariants.{Assign, Load, Store, Print, Expect, Break, Continue, Call, Return, Halt}
use Rattle.dae_commons.specs.declared.equations.Equation.{Equation}
use Rattle.dae_commons.specs.Equations.{equations_in, with_equation, without_variable, known_in_loop}
use Rattle.dae_commons.specs.Copies.{source_in, propagated_operand, propagated_operands, propagated_test, propagated_value, is_operand}
use Rattle.dae_commons.specs.Sums.{is_itself, assigned_value}
use Rattle.dae_commons.specs.Commoned.{commoned_item, known_behind, known_behind_both, commoned_code, known_after_set, known_after}
use Rattle.dae_commons.proofs.Truth.{same_length}
use Rattle.dae_commons.proofs.Names.{base_in, AreNamed, source_named, assigned_value_named, without_named, with_named, met_named, IsNamed}
use Rattle.dae_commons.proofs.Sparing.{loop_all}

below_word : (k : ℕ) → k < 2 ^ 11 → k < 2 ^ 32
below_word k low = omega (arith, low)

-- functions that take as many arguments, and are as many
module _ (fs gs : List Function) (as_many : length gs ≡ length fs) (takes : (g count : ℕ) → TakesArguments (slice_get fs g) count → TakesArguments (slice_get gs g) count) (n : ℕ) (c : Classes) where
  abbrev IsBelow : ℕ → Type 0
  IsBelow v = v < n

  abbrev Within : List Equation → Type 0
  Within q = AreNamed IsBelow q

  operand_in : (q : List Equation) → Within q → (x : Operand) → IsIn n x → IsIn n (propagated_operand c q x)
  operand_in q all (Variable v) i = source_named IsBelow c q v all i
  operand_in q all (Number k) i = i

  test_in : (q : List Equation) → Within q → (t : Test) → TestIn n t → TestIn n (propagated_test c q t)
  test_in q all t i = (operand_in q all t.left i.0, operand_in q all t.right i.1)

  value_in : (q : List Equation) → Within q → (x : Value) → ValueIn n x → ValueIn n (propagated_value c q x)
  value_in q all (val.Same x) i = operand_in q all x i
  value_in q all (val.Extended kind x) i = operand_in q all x i
  value_in q all (val.Binary operator x y) i = (operand_in q all x i.0, operand_in q all y i.1)
  value_in q all (val.Holds t) i = test_in q all t i
  value_in q all (val.FrameAddress offset) i = i

  assigned_in : (q : List Equation) → Within q → (v : ℕ) (x : Value) → ValueIn n x → ValueIn n (assigned_value c q v x)
  assigned_in q all v x i = assigned_value_named IsBelow (ValueIn n) (λ u lt. lt) (λ w k lt low. (lt, below_word k low)) c q v x all i (value_in q all x i)

  operands_in : (q : List Equation) → Within q → (xs : List Operand) → AllByRecursion (IsIn n) xs → AllByRecursion (IsIn n) (propagated_operands c q xs)
  operands_in q all [] i = tt
  operands_in q all (x ∷ xs) i = (operand_in q all x i.0, operands_in q all xs i.1)

  item_in : (q : List Equation) → Within q → (item : Item) → ItemIn fs n item → ItemIn gs n (commoned_item c q item)
  item_in q all (Assign v x) i = (i.0, assigned_in q all v x i.1)
  item_in q all (Load v kind x) i = (i.0, operand_in q all x i.1)
  item_in q all (Store width x y) i = (operand_in q all x i.0, operand_in q all y i.1)
  item_in q all (Print spelling x) i = operand_in q all x i
  item_in q all (Expect (Good width x)) i = operand_in q all x i
  item_in q all (Expect (InBounds x offset)) i = (operand_in q all x i.0, i.1)
  item_in q all (Expect (Zero x)) i = operand_in q all x i
  item_in q all (Expect (Room g)) i = subst (λ (m : ℕ). g < m) (sym as_many) i
  item_in q all (Expect Frame) i = tt
  item_in q all (Expect Abort) i = tt
  item_in q all Break i = tt
  item_in q all Continue i = tt
  item_in q all (Call v g xs) i =
      (i.0, subst (λ (m : ℕ). TakesArguments (slice_get gs g) m) (sym (same_length c q xs)) (takes g (length xs) i.1), operands_in q all xs i.2)
  item_in q all (Return x) i = operand_in q all x i
  item_in q all (Halt x) i = operand_in q all x i

  -- ---- what the equations name

  source_below : (v : ℕ) (x : Value) → v < n → ValueIn n x → source_in v x < n
  source_below v (val.Same (Variable u)) lt i = i
  source_below v (val.Same (Number k)) lt i = lt
  source_below v (val.Extended kind x) lt i = lt
  source_below v (val.Binary operator x y) lt i = lt
  source_below v (val.Holds t) lt i = lt
  source_below v (val.FrameAddress offset) lt i = lt

  base_below : (v : ℕ) (x : Value) → v < n → ValueIn n x → base_in v x < n
  base_below v (val.Binary Add (Variable w) (Number k)) lt i = i.0
  base_below v (val.Binary Add (Number k) (Variable w)) lt i = i.1
  base_below v _ lt i = lt

  assigned_named : (q : List Equation) → Within q → (v : ℕ) (x : Value) → v < n → ValueIn n x → Within (known_after_set q v x (assigned_value c q v x))
  assigned_named q all v x lt i = by (is_itself v x) (is_operand x) where
    by : (b o : Bool) → Within (if b then q else (if o then without_variable v q else with_equation v (assigned_value c q v x) q))
    by true o = all
    by false true = without_named IsBelow v q all
    by false false =
        with_named IsBelow v (assigned_value c q v x) q lt (source_below v (assigned_value c q v x) lt (assigned_in q all v x i))
        (base_below v (assigned_value c q v x) lt (assigned_in q all v x i)) all

  item_named : (q : List Equation) → Within q → (item : Item) → ItemIn fs n item → Within (equations_in (known_after c q item))
  item_named q all (Assign v x) i = assigned_named q all v x (i.0).1 i.1
  item_named q all (Load v kind x) i = without_named IsBelow v q all
  item_named q all (Store width x y) i = all
  item_named q all (Print spelling x) i = all
  item_named q all (Expect check) i = all
  item_named q all Break i = tt
  item_named q all Continue i = tt
  item_named q all (Call v g xs) i = tt
  item_named q all (Return x) i = tt
  item_named q all (Halt x) i = tt

  code_named : (code : Form) (k : Option (List Equation)) → Within (equations_in k) → Each (ItemIn fs n) (TestIn n) code → Within (equations_in (known_behind c k code))
  code_named Done k all names = all
  code_named (Do place item rest) k all names =
      code_named rest (known_after c (equations_in k) item) (item_named (equations_in k) all item names.0) names.1
  code_named (If place t x y rest) k all names =
      code_named rest (known_behind_both c (equations_in k) x y)
      (met_named IsBelow (known_behind c (Some (equations_in k)) x) (known_behind c (Some (equations_in k)) y) (code_named x (Some (equations_in k)) all names.1) (code_named y (Some (equations_in k)) all names.2)) names.3
  code_named (Loop place x y rest) k all names = code_named rest (Some (known_in_loop (equations_in k) x y)) (loop_all (IsNamed IsBelow) (equations_in k) x y all) names.2

  pub code_in : (code : Form) (q : List Equation) → Within q → Each (ItemIn fs n) (TestIn n) code → Each (ItemIn gs n) (TestIn n) (commoned_code c q code)
  code_in Done q all names = tt
  code_in (Do place item k) q all names = (
    item_in q all item names.0,
    code_in k (equations_in (known_after c q item)) (item_named q all item names.0) names.1,
  )
  code_in (If place t x y k) q all names = (
    test_in q all t names.0,
    code_in x q all names.1,
    code_in y q all names.2,
    code_in k (equations_in (known_behind_both c q x y))
        (met_named IsBelow (known_behind c (Some q) x) (known_behind c (Some q) y) (code_named x (Some q) all names.1) (code_named y (Some q) all names.2)) names.3,
  )
  code_in (Loop place x y k) q all names =
      let r = known_in_loop q x y in
      let still = loop_all (IsNamed IsBelow) q x y all in
      (code_in x r still names.0, code_in y r still names.1, code_in k r still names.2)

-- ---- where code goes stays

module _ (c : Classes) where
  jump_same : (q : List Equation) (item : Item) → is_jump (commoned_item c q item) ≡ is_jump item
  jump_same q (Assign v x) = refl
  jump_same q (Load v kind x) = refl
  jump_same q (Store width x y) = refl
  jump_same q (Print spelling x) = refl
  jump_same q (Expect check) = refl
  jump_same q Break = refl
  jump_same q Continue = refl
  jump_same q (Call v g xs) = refl
  jump_same q (Return x) = refl
  jump_same q (Halt x) = refl

  end_same : (q : List Equation) (item : Item) → is_end (commoned_item c q item) ≡ is_end item
  end_same q (Assign v x) = refl
  end_same q (Load v kind x) = refl
  end_same q (Store width x y) = refl
  end_same q (Print spelling x) = refl
  end_same q (Expect check) = refl
  end_same q Break = refl
  end_same q Continue = refl
  end_same q (Call v g xs) = refl
  end_same q (Return x) = refl
  end_same q (Halt x) = refl

  return_same : (q : List Equation) (item : Item) → is_return (commoned_item c q item) ≡ is_return item
  return_same q (Assign v x) = refl
  return_same q (Load v kind x) = refl
  return_same q (Store width x y) = refl
  return_same q (Print spelling x) = refl
  return_same q (Expect check) = refl
  return_same q Break = refl
  return_same q Continue = refl
  return_same q (Call v g xs) = refl
  return_same q (Return x) = refl
  return_same q (Halt x) = refl

  pub stays_same : (code : Form) (inside : Bool) (q : List Equation) → stays inside (commoned_code c q code) ≡ stays inside code
  stays_same Done inside q = refl
  stays_same (Do place item k) inside q = rw (jump_same q item, stays_same k inside (equations_in (known_after c q item))) refl
  stays_same (If place t x y k) inside q = rw (stays_same x inside q, stays_same y inside q, stays_same k inside (equations_in (known_behind_both c q x y))) refl
  stays_same (Loop place x y k) inside q = rw (stays_same x true (known_in_loop q x y), stays_same y true (known_in_loop q x y), stays_same k inside (known_in_loop q x y)) refl

  pub closes_same : (code : Form) (q : List Equation) → closes (commoned_code c q code) ≡ closes code
  closes_same Done q = refl
  closes_same (Do place item k) q = rw (end_same q item, closes_same k (equations_in (known_after c q item))) refl
  closes_same (If place t x y k) q = closes_same k (equations_in (known_behind_both c q x y))
  closes_same (Loop place x y k) q = closes_same k (known_in_loop q x y)

  pub never_same : (code : Form) (q : List Equation) → never_returns (commoned_code c q code) ≡ never_returns code
  never_same Done q = refl
  never_same (Do place item k) q = rw (return_same q item, never_same k (equations_in (known_after c q item))) refl
  never_same (If place t x y k) q = rw (never_same x q, never_same y q, never_same k (equations_in (known_behind_both c q x y))) refl
  never_same (Loop place x y k) q = rw (never_same x (known_in_loop q x y), never_same y (known_in_loop q x y), never_same k (known_in_loop q x y)) refl

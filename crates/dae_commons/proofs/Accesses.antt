-- Sets by which variables are alike, and that keep what leads to addresses, keep it in code without its common subexpressions.
use Rattle.std.proofs.Common.{◌≡◌, ℕ, ◌+◌, Bool, true, false, not, ◌&&◌, nat_eq, if◌then◌else◌, List, [], ◌∷◌, refl, ◌∙◌}
use Rattle.std.proofs.lemmas.Bool.{and_from, and_parts}
use Rattle.std.specs.Bool.{beq}
use Rattle.dae_base.proofs.Laws.{beq_same}
use Rattle.dae_ir.specs.Code.{Done, Do, If, Loop, Each}
use Rattle.dae_ir.specs.Form.{Form}
use Rattle.dae_ir.specs.Classes.{VariableSet, Classes, has, has_test, has_value, ArgumentsKept, AddressesKept}
use Rattle.dae_ir.specs.contracts.form.ValuePartialEq.TheImpl.{ghosts as of_values}
use Rattle.dae_ir.specs.declared.form.Operand.{Operand}
use Rattle.dae_ir.specs.declared.form.Operand.TheVariants.{Variable, Number}
use Rattle.dae_ir.specs.declared.form.Value.{Value}
use Rattle.dae_ir.specs.declared.form.Value.TheVariants as val
use Rattle.dae_ir.specs.declared.form.Test.{Test}
use Rattle.dae_meaning.specs.declared.Operator.TheVariants.{Add}
use Rattle.dae_ir.specs.declared.form.Check.TheVariants.{Place as Good, InBounds, Zero, Room, Frame, Abort}
use Rattle.dae_ir.specs.declared.form.Item.{Item}
use Rattle.dae_ir.specs.declared.form.Item.TheVariants.{Assign, Load, Store, Print, Expect, Break, Continue, Call, Return, Halt}
use Rattle.dae_commons.specs.declared.equations.Equation.{Equation}
use Rattle.dae_commons.specs.Equations.{equations_in, known_in_loop}
use Rattle.dae_commons.specs.Copies.{are_alike, source_in, is_copy, copy_source, propagated_operand, propagated_operands, propagated_test, propagated_value, holds_already, held_value, is_operand, computed_once}
use Rattle.dae_commons.specs.Sums.{is_itself, fits_offset, base_sum_or, as_sum_or, held_sum, computed_again, assigned_value}
use Rattle.dae_commons.specs.Commoned.{commoned_item, known_behind_both, commoned_code, known_after}

module _ (c : Classes) where
  abbrev s : VariableSet
  s = c.s

  alike_same : (u v : ℕ) → are_alike c u v ≡ true → s u ≡ s v
  alike_same u v h = beq_same (s u) (s v) (and_parts (beq (s u) (s v)) (beq (c.needs u) (c.needs v)) h).0

  source_same : (q : List Equation) (v : ℕ) → s (copy_source c q v) ≡ s v
  source_same [] v = refl
  source_same (e ∷ q) v = by (is_copy c v e) refl (source_same q v) where
    by : (b : Bool) → is_copy c v e ≡ b → s (copy_source c q v) ≡ s v → s (if b then source_in v e.value else copy_source c q v) ≡ s v
    by true h rest = alike_same (source_in v e.value) v (and_parts (nat_eq e.variable v) (are_alike c (source_in v e.value) v) h).1
    by false h rest = rest

  has_same : (q : List Equation) (x : Operand) → has s (propagated_operand c q x) ≡ has s x
  has_same q (Variable v) = source_same q v
  has_same q (Number k) = refl

  pub test_same : (q : List Equation) (t : Test) → has_test s (propagated_test c q t) ≡ has_test s t
  test_same q t = rw (has_same q t.left, has_same q t.right) refl

  value_same : (q : List Equation) (x : Value) → has_value s (propagated_value c q x) ≡ has_value s x
  value_same q (val.Same x) = has_same q x
  value_same q (val.Extended kind x) = has_same q x
  value_same q (val.Binary operator x y) = rw (has_same q x, has_same q y) refl
  value_same q (val.Holds t) = test_same q t
  value_same q (val.FrameAddress offset) = refl

  held_kept : (q : List Equation) (v : ℕ) (x : Value) → s v ≡ true → has_value s x ≡ true → has_value s (held_value c q v x) ≡ true
  held_kept [] v x in_s has_x = has_x
  held_kept (e ∷ q) v x in_s has_x = by (holds_already c v x e) refl (held_kept q v x in_s has_x) where
    by : (b : Bool) → holds_already c v x e ≡ b → has_value s (held_value c q v x) ≡ true → has_value s (if b then val.Same (Variable e.variable) else held_value c q v x) ≡ true
    by true h rest =
        let p = and_parts (of_values.eq e.value x) (not (nat_eq e.variable v) && are_alike c e.variable v) h in
        let r = and_parts (not (nat_eq e.variable v)) (are_alike c e.variable v) p.1 in
        alike_same e.variable v r.1 ∙ in_s
    by false h rest = rest

  once_kept : (q : List Equation) (v : ℕ) (x : Value) → s v ≡ true → has_value s x ≡ true → has_value s (computed_once c q v x) ≡ true
  once_kept q v x in_s has_x = by (is_operand x) where
    by : (b : Bool) → has_value s (if b then x else held_value c q v x) ≡ true
    by true = has_x
    by false = held_kept q v x in_s has_x

  -- of a sum that is computed again
  sum_kept : (w n v : ℕ) → s v ≡ true → has_value s (base_sum_or c w n (val.Same (Variable v))) ≡ true
  sum_kept w n v in_s = by (fits_offset n && s w) refl where
    by : (b : Bool) → (fits_offset n && s w) ≡ b → has_value s (if b then val.Binary Add (Variable w) (Number n) else val.Same (Variable v)) ≡ true
    by true h = and_from (s w) true (and_parts (fits_offset n) (s w) h).1 refl
    by false h = in_s

  as_sum_kept : (x : Value) (v : ℕ) → s v ≡ true → has_value s (as_sum_or c x (val.Same (Variable v))) ≡ true
  as_sum_kept (val.Binary Add (Variable w) (Number n)) v in_s = sum_kept w n v in_s
  as_sum_kept (val.Binary Add (Number n) (Variable w)) v in_s = sum_kept w n v in_s
  as_sum_kept _ v in_s = in_s

  held_sum_kept : (q : List Equation) (v : ℕ) → s v ≡ true → has_value s (held_sum c q v) ≡ true
  held_sum_kept [] v in_s = in_s
  held_sum_kept (e ∷ q) v in_s = by (nat_eq e.variable v) (held_sum_kept q v in_s) where
    by : (b : Bool) → has_value s (held_sum c q v) ≡ true → has_value s (if b then as_sum_or c e.value (val.Same (Variable v)) else held_sum c q v) ≡ true
    by true rest = as_sum_kept e.value v in_s
    by false rest = rest

  again_kept : (q : List Equation) (v : ℕ) → s v ≡ true → has_value s (computed_again c q v) ≡ true
  again_kept q v in_s = by (s v && not (c.needs v)) where
    by : (b : Bool) → has_value s (if b then held_sum c q v else val.Same (Variable v)) ≡ true
    by true = held_sum_kept q v in_s
    by false = in_s

  assigned_kept : (q : List Equation) (v : ℕ) (x : Value) → s v ≡ true → has_value s x ≡ true → has_value s (assigned_value c q v x) ≡ true
  assigned_kept q v x in_s has_x = by (is_itself v x) where
    by : (b : Bool) → has_value s (if b then computed_again c q v else computed_once c q v (propagated_value c q x)) ≡ true
    by true = again_kept q v in_s
    by false = once_kept q v (propagated_value c q x) in_s (value_same q x ∙ has_x)

  arguments_kept : (callee : VariableSet) (q : List Equation) (xs : List Operand) (k : ℕ) → ArgumentsKept callee s k xs → ArgumentsKept callee s k (propagated_operands c q xs)
  arguments_kept callee q [] k h = tt
  arguments_kept callee q (x ∷ xs) k h = (λ b. has_same q x ∙ h.0 b, arguments_kept callee q xs (k + 1) h.1)

  module _ (of : ℕ → VariableSet) where
    item_kept : (q : List Equation) (item : Item) → AddressesKept of s item → AddressesKept of s (commoned_item c q item)
    item_kept q (Assign v x) h = λ in_s. assigned_kept q v x in_s (h in_s)
    item_kept q (Load v kind x) h = has_same q x ∙ h
    item_kept q (Store width x y) h = has_same q x ∙ h
    item_kept q (Print spelling x) h = tt
    item_kept q (Expect (Good width x)) h = has_same q x ∙ h
    item_kept q (Expect (InBounds x offset)) h = has_same q x ∙ h
    item_kept q (Expect (Zero x)) h = tt
    item_kept q (Expect (Room g)) h = tt
    item_kept q (Expect Frame) h = tt
    item_kept q (Expect Abort) h = tt
    item_kept q Break h = tt
    item_kept q Continue h = tt
    item_kept q (Call v g xs) h = record { arguments = arguments_kept (of g) q xs 1 h.arguments; result = h.result }
    item_kept q (Return x) h = λ in_s. has_same q x ∙ h in_s
    item_kept q (Halt x) h = tt

    pub code_kept : (code : Form) (q : List Equation) → Each (AddressesKept of s) (λ t. Unit {0}) code → Each (AddressesKept of s) (λ t. Unit {0}) (commoned_code c q code)
    code_kept Done q h = tt
    code_kept (Do place item k) q h = (item_kept q item h.0, code_kept k (equations_in (known_after c q item)) h.1)
    code_kept (If place t x y k) q h = (tt, code_kept x q h.1, code_kept y q h.2, code_kept k (equations_in (known_behind_both c q x y)) h.3)
    code_kept (Loop place x y k) q h = (code_kept x (known_in_loop q x y) h.0, code_kept y (known_in_loop q x y) h.1, code_kept k (known_in_loop q x y) h.2)

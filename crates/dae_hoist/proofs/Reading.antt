-- Variables that are kept: what they hold, and whether they lead to addresses.
use Rattle.std.proofs.Common.{◌≡◌, ℕ, true, List, [], ◌∷◌, Option, Some, None, refl, sym}
use Rattle.std.proofs.lemmas.Bool.{and_parts}
use Rattle.std.specs.Bool.{beq}
use Rattle.dae_base.proofs.Laws.{beq_same, no_true}
use Rattle.dae_meaning.specs.Variables.{Env}
use Rattle.dae_ir.specs.Form.{value, values, holds, computed}
use Rattle.dae_ir.specs.Classes.{has, has_test, has_value}
use Rattle.dae_ir.specs.SetFirst.{AllRead}
use Rattle.dae_ir.specs.declared.form.Operand.{Operand}
use Rattle.dae_ir.specs.declared.form.Operand.TheVariants.{Variable, Number}
use Rattle.dae_ir.specs.declared.form.Value.{Value}
use Rattle.dae_ir.specs.declared.form.Value.TheVariants as val
use Rattle.dae_ir.specs.declared.form.Test.{Test}
use Rattle.dae_hoist.specs.Kept.{Hoisting, has_none, is_kept}

none_is : (o : Option Value) → has_none o ≡ true → o ≡ None
none_is None h = refl
none_is (Some x) h = no_true h

module _ (t : Hoisting) where
  pub kept_none : (v : ℕ) → is_kept t v ≡ true → t.holding v ≡ None
  kept_none v h = none_is (t.holding v) (and_parts (has_none (t.holding v)) (beq (t.sets v) (t.new_sets v)) h).0

  pub kept_same : (v : ℕ) → is_kept t v ≡ true → t.sets v ≡ t.new_sets v
  kept_same v h = beq_same (t.sets v) (t.new_sets v) (and_parts (has_none (t.holding v)) (beq (t.sets v) (t.new_sets v)) h).1

  -- variables that hold no value for loops hold the same
  abbrev pub Agrees : Env → Env → Type 0
  Agrees e f = (v : ℕ) → t.holding v ≡ None → e v ≡ f v

  module _ (e f : Env) (g : Agrees e f) where
    pub value_same : (x : Operand) → has (is_kept t) x ≡ true → value x e ≡ value x f
    value_same (Variable v) h = g v (kept_none v h)
    value_same (Number k) h = refl

    pub holds_same : (x : Test) → has_test (is_kept t) x ≡ true → holds x e ≡ holds x f
    holds_same x h =
        let p = and_parts (has (is_kept t) x.left) (has (is_kept t) x.right) h in
        rw (value_same x.left p.0, value_same x.right p.1) refl

    pub computed_same : (x : Value) (frame : ℕ) → has_value (is_kept t) x ≡ true → computed x frame e ≡ computed x frame f
    computed_same (val.Same x) frame h = value_same x h
    computed_same (val.Extended kind x) frame h = rw (value_same x h) refl
    computed_same (val.Binary operator x y) frame h =
        let p = and_parts (has (is_kept t) x) (has (is_kept t) y) h in
        rw (value_same x p.0, value_same y p.1) refl
    computed_same (val.Holds x) frame h = rw (holds_same x h) refl
    computed_same (val.FrameAddress offset) frame h = refl

    pub values_same : (xs : List Operand) → AllRead (is_kept t) xs → values xs e ≡ values xs f
    values_same [] h = refl
    values_same (x ∷ xs) h = rw (value_same x h.0, values_same xs h.1) refl

  -- ---- what leads to addresses

  pub has_same : (x : Operand) → has (is_kept t) x ≡ true → has t.new_sets x ≡ has t.sets x
  has_same (Variable v) h = sym (kept_same v h)
  has_same (Number k) h = refl

  pub has_test_same : (x : Test) → has_test (is_kept t) x ≡ true → has_test t.new_sets x ≡ has_test t.sets x
  has_test_same x h =
      let p = and_parts (has (is_kept t) x.left) (has (is_kept t) x.right) h in
      rw (has_same x.left p.0, has_same x.right p.1) refl

  pub has_value_same : (x : Value) → has_value (is_kept t) x ≡ true → has_value t.new_sets x ≡ has_value t.sets x
  has_value_same (val.Same x) h = has_same x h
  has_value_same (val.Extended kind x) h = has_same x h
  has_value_same (val.Binary operator x y) h =
      let p = and_parts (has (is_kept t) x) (has (is_kept t) y) h in
      rw (has_same x p.0, has_same y p.1) refl
  has_value_same (val.Holds x) h = has_test_same x h
  has_value_same (val.FrameAddress offset) h = refl

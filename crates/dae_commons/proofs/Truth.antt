-- What equations that are true say of operands and values, and which are true behind what sets a variable.
use Rattle.std.proofs.Common.{◌≡◌, ℕ, suc, ◌%◌, ◌^◌, Bool, true, false, not, ◌&&◌, nat_eq, if◌then◌else◌, List, [], ◌∷◌, length, refl, ap, sym, ◌∙◌, subst}
use Rattle.std.proofs.Math.Nat.{add_comm}
use Rattle.std.proofs.lemmas.Bool.{eqb-true, eq-eqb, and_parts, or_parts}
use Rattle.dae_base.specs.Words.{plus, extended}
use Rattle.dae_meaning.specs.Operations.{combined}
use Rattle.dae_meaning.specs.Variables.{Env, put}
use Rattle.dae_meaning.specs.declared.Operator.TheVariants.{Add}
use Rattle.dae_meaning.proofs.Laws.{own_put}
use Rattle.dae_ir.specs.Form.{value, values, holds, computed}
use Rattle.dae_ir.specs.Classes.{Classes}
use Rattle.dae_ir.specs.contracts.form.ValuePartialEq.TheImpl.{ghosts as of_values}
use Rattle.dae_ir.specs.declared.form.Operand.{Operand}
use Rattle.dae_ir.specs.declared.form.Operand.TheVariants.{Variable, Number}
use Rattle.dae_ir.specs.declared.form.Value.{Value}
use Rattle.dae_ir.specs.declared.form.Value.TheVariants as val
use Rattle.dae_ir.specs.declared.form.Test.{Test}
use Rattle.dae_commons.specs.declared.equations.Equation.{Equation}
use Rattle.dae_commons.specs.Equations.{AreTrue, operand_involves, value_involves, involves, without_variable, with_equation}
use Rattle.dae_commons.specs.Copies.{are_alike, source_in, is_copy, copy_source, propagated_operand, propagated_operands, propagated_test, propagated_value, holds_already, held_value, is_operand, computed_once}
use Rattle.dae_commons.specs.Sums.{is_itself, fits_offset, base_sum_or, as_sum_or, held_sum, computed_again, assigned_value}
use Rattle.dae_commons.proofs.Values.{values_same}
use Rattle.dae_commons.proofs.Lists.{without_all, with_all, all_of_both}
use Rattle.dae_commons.proofs.Sparing.{SparesVariable}

abbrev pub Solves : ℕ → Env → Equation → Type 0
Solves frame env e = env e.variable ≡ computed e.value frame env

-- ---- behind what sets a variable

put_here : (w y : ℕ) (env : Env) → put true w y env w ≡ y
put_here w y env = rw (eq-eqb w w refl) refl

put_other : (w y : ℕ) (env : Env) (u : ℕ) → nat_eq u w ≡ false → put true w y env u ≡ env u
put_other w y env u h = rw h refl

module _ (w y : ℕ) (env : Env) where
  abbrev now : Env
  now = put true w y env

  operand_other : (x : Operand) → operand_involves w x ≡ false → value x now ≡ value x env
  operand_other (Variable u) h = put_other w y env u h
  operand_other (Number k) h = refl

  value_other : (x : Value) (frame : ℕ) → value_involves w x ≡ false → computed x frame now ≡ computed x frame env
  value_other (val.Same x) frame h = operand_other x h
  value_other (val.Extended kind x) frame h = ap (λ (z : ℕ). extended kind z) (operand_other x h)
  value_other (val.Binary operator x z) frame h =
      let p = or_parts (operand_involves w x) (operand_involves w z) h in
      rw (operand_other x p.0, operand_other z p.1) refl
  value_other (val.Holds t) frame h =
      let p = or_parts (operand_involves w t.left) (operand_involves w t.right) h in
      rw (operand_other t.left p.0, operand_other t.right p.1) refl
  value_other (val.FrameAddress offset) frame h = refl

  equation_other : (e : Equation) (frame : ℕ) → involves w e ≡ false → env e.variable ≡ computed e.value frame env → now e.variable ≡ computed e.value frame now
  equation_other e frame h t =
      let p = or_parts (nat_eq e.variable w) (value_involves w e.value) h in
      put_other w y env e.variable p.0 ∙ t ∙ sym (value_other e.value frame p.1)

  pub true_without : (q : List Equation) (frame : ℕ) → AreTrue q frame env → AreTrue (without_variable w q) frame now
  true_without q frame t = without_all (Solves frame env) (Solves frame now) w (λ e h is. equation_other e frame h is) q t

  pub true_spared : (q : List Equation) (frame : ℕ) → SparesVariable w q → AreTrue q frame env → AreTrue q frame now
  true_spared q frame spared t = all_of_both (λ (e : Equation). involves w e ≡ false) (Solves frame env) (Solves frame now) (λ e h is. equation_other e frame h is) q spared t

-- behind an assignment of x to v
module _ (v : ℕ) (x : Value) (q : List Equation) (frame : ℕ) (env : Env) where
  abbrev behind : Env
  behind = put true v (computed x frame env) env

  pub true_with : AreTrue q frame env → AreTrue (with_equation v x q) frame behind
  true_with t =
      with_all (Solves frame behind) v x q (λ h. put_here v (computed x frame env) env ∙ sym (value_other v (computed x frame env) env x frame h))
      (true_without v (computed x frame env) env q frame t)

-- ---- what they say

source_true : (frame : ℕ) (env : Env) (v : ℕ) (x : Value) → env v ≡ computed x frame env → env (source_in v x) ≡ env v
source_true frame env v (val.Same (Variable u)) h = sym h
source_true frame env v (val.Same (Number k)) h = refl
source_true frame env v (val.Extended kind x) h = refl
source_true frame env v (val.Binary operator x y) h = refl
source_true frame env v (val.Holds t) h = refl
source_true frame env v (val.FrameAddress offset) h = refl

-- a variable that is set to itself gets what it has
itself_is : (env : Env) (frame v : ℕ) (x : Value) → is_itself v x ≡ true → computed x frame env ≡ env v
itself_is env frame v (val.Same (Variable u)) h = ap env (eqb-true u v h)
itself_is env frame v _ h = absurd cc

-- a variable that is set to itself changes nothing
pub true_itself : (v : ℕ) (x : Value) (q : List Equation) (frame : ℕ) (env : Env) → is_itself v x ≡ true → AreTrue q frame env → AreTrue q frame (put true v (computed x frame env) env)
true_itself v x q frame env h t =
    subst (λ (e : Env). AreTrue q frame e) (sym (ap (λ (y : ℕ). put true v y env) (itself_is env frame v x h) ∙ own_put v env)) t

module _ (c : Classes) (frame : ℕ) (env : Env) where
  copy_true : (q : List Equation) → AreTrue q frame env → (v : ℕ) → env (copy_source c q v) ≡ env v
  copy_true [] t v = refl
  copy_true (e ∷ q) t v = by (is_copy c v e) refl (copy_true q t.1 v) where
    by : (b : Bool) → is_copy c v e ≡ b → env (copy_source c q v) ≡ env v → env (if b then source_in v e.value else copy_source c q v) ≡ env v
    by true h rest =
        let p = and_parts (nat_eq e.variable v) (are_alike c (source_in v e.value) v) h in
        source_true frame env v e.value (subst (λ (u : ℕ). env u ≡ computed e.value frame env) (eqb-true e.variable v p.0) t.0)
    by false h rest = rest

  held_true : (q : List Equation) → AreTrue q frame env → (v : ℕ) (x : Value) → computed (held_value c q v x) frame env ≡ computed x frame env
  held_true [] t v x = refl
  held_true (e ∷ q) t v x = by (holds_already c v x e) refl (held_true q t.1 v x) where
    by : (b : Bool) → holds_already c v x e ≡ b → computed (held_value c q v x) frame env ≡ computed x frame env
        → computed (if b then val.Same (Variable e.variable) else held_value c q v x) frame env ≡ computed x frame env
    by true h rest =
        let p = and_parts (of_values.eq e.value x) (not (nat_eq e.variable v) && are_alike c e.variable v) h in
        t.0 ∙ ap (λ (z : Value). computed z frame env) (values_same e.value x p.0)
    by false h rest = rest

  -- the sum that a variable holds
  sum_true : (w n v : ℕ) → env v ≡ plus (env w) n → computed (base_sum_or c w n (val.Same (Variable v))) frame env ≡ env v
  unfolding combined
  sum_true w n v h = by (fits_offset n && c.s w) where
    by : (b : Bool) → computed (if b then val.Binary Add (Variable w) (Number n) else val.Same (Variable v)) frame env ≡ env v
    by true = sym h
    by false = refl

  as_sum_true : (x : Value) (v : ℕ) → env v ≡ computed x frame env → computed (as_sum_or c x (val.Same (Variable v))) frame env ≡ env v
  unfolding combined
  as_sum_true (val.Binary Add (Variable w) (Number n)) v h = sum_true w n v h
  as_sum_true (val.Binary Add (Number n) (Variable w)) v h = sum_true w n v (h ∙ ap (λ (sum : ℕ). sum % 2 ^ 32) (add_comm n (env w)))
  as_sum_true _ v h = refl

  held_sum_true : (q : List Equation) → AreTrue q frame env → (v : ℕ) → computed (held_sum c q v) frame env ≡ env v
  held_sum_true [] t v = refl
  held_sum_true (e ∷ q) t v = by (nat_eq e.variable v) refl (held_sum_true q t.1 v) where
    by : (b : Bool) → nat_eq e.variable v ≡ b → computed (held_sum c q v) frame env ≡ env v
        → computed (if b then as_sum_or c e.value (val.Same (Variable v)) else held_sum c q v) frame env ≡ env v
    by true h rest = as_sum_true e.value v (subst (λ (u : ℕ). env u ≡ computed e.value frame env) (eqb-true e.variable v h) t.0)
    by false h rest = rest

  again_true : (q : List Equation) → AreTrue q frame env → (v : ℕ) → computed (computed_again c q v) frame env ≡ env v
  again_true q t v = by (c.s v && not (c.needs v)) where
    by : (b : Bool) → computed (if b then held_sum c q v else val.Same (Variable v)) frame env ≡ env v
    by true = held_sum_true q t v
    by false = refl

  module _ (q : List Equation) (t : AreTrue q frame env) where
    pub value_same : (x : Operand) → value (propagated_operand c q x) env ≡ value x env
    value_same (Variable v) = copy_true q t v
    value_same (Number k) = refl

    pub holds_same : (x : Test) → holds (propagated_test c q x) env ≡ holds x env
    holds_same x = rw (value_same x.left, value_same x.right) refl

    computed_same : (x : Value) → computed (propagated_value c q x) frame env ≡ computed x frame env
    computed_same (val.Same x) = value_same x
    computed_same (val.Extended kind x) = ap (λ (z : ℕ). extended kind z) (value_same x)
    computed_same (val.Binary operator x y) = rw (value_same x, value_same y) refl
    computed_same (val.Holds x) = ap (λ (b : Bool). if b then 1 else 0) (holds_same x)
    computed_same (val.FrameAddress offset) = refl

    once_same : (v : ℕ) (x : Value) → computed (computed_once c q v x) frame env ≡ computed x frame env
    once_same v x = by (is_operand x) where
      by : (b : Bool) → computed (if b then x else held_value c q v x) frame env ≡ computed x frame env
      by true = refl
      by false = held_true q t v x

    -- of what is assigned to v
    pub assigned_same : (v : ℕ) (x : Value) → computed (assigned_value c q v x) frame env ≡ computed x frame env
    assigned_same v x = by (is_itself v x) refl where
      by : (b : Bool) → is_itself v x ≡ b → computed (if b then computed_again c q v else computed_once c q v (propagated_value c q x)) frame env ≡ computed x frame env
      by true h = again_true q t v ∙ sym (itself_is env frame v x h)
      by false h = once_same v (propagated_value c q x) ∙ computed_same x

    pub values_alike : (xs : List Operand) → values (propagated_operands c q xs) env ≡ values xs env
    values_alike [] = refl
    values_alike (x ∷ xs) = rw (value_same x, values_alike xs) refl

pub same_length : (c : Classes) (q : List Equation) (xs : List Operand) → length (propagated_operands c q xs) ≡ length xs
same_length c q [] = refl
same_length c q (x ∷ xs) = ap suc (same_length c q xs)

-- Which variables come into code: only those that the known equations name. What holds of these and of the code's own holds of all.
use Rattle.std.proofs.Common.{◌≡◌, ℕ, ◌^◌, ◌<◌, Bool, true, false, not, ◌&&◌, nat_eq, if◌then◌else◌, List, [], ◌∷◌, Option, Some, None, refl, subst}
use Rattle.std.proofs.lemmas.Bool.{eqb-true, ltb-true, and_parts}
use Rattle.std.specs.List.{AllByRecursion}
use Rattle.dae_ir.specs.Classes.{Classes}
use Rattle.dae_ir.specs.declared.form.Operand.TheVariants.{Variable, Number}
use Rattle.dae_ir.specs.declared.form.Value.{Value}
use Rattle.dae_ir.specs.declared.form.Value.TheVariants as val
use Rattle.dae_meaning.specs.declared.Operator.TheVariants.{Add}
use Rattle.dae_commons.specs.declared.equations.Equation.{Equation}
use Rattle.dae_commons.specs.Equations.{without_variable, with_equation, equations_in, met}
use Rattle.dae_commons.specs.Copies.{are_alike, source_in, is_copy, copy_source, propagated_value, holds_already, held_value, is_operand, computed_once}
use Rattle.dae_commons.specs.Sums.{is_itself, fits_offset, base_sum_or, as_sum_or, held_sum, computed_again, assigned_value}
use Rattle.dae_commons.proofs.Lists.{without_all, with_all, first_all, all_more}

-- the variable of a sum with a number, or v
abbrev pub base_in : ℕ → Value → ℕ
base_in v (val.Binary Add (Variable w) (Number n)) = w
base_in v (val.Binary Add (Number n) (Variable w)) = w
base_in v x = v

module _ (P : ℕ → Type 0) where
  -- an equation's variable, what it is a copy of, and to what it adds a number
  abbrev pub IsNamed : Equation → Type 0
  IsNamed e = P e.variable × P (source_in e.variable e.value) × P (base_in e.variable e.value)

  abbrev pub AreNamed : List Equation → Type 0
  AreNamed q = AllByRecursion IsNamed q

  pub source_named : (c : Classes) (q : List Equation) (v : ℕ) → AreNamed q → P v → P (copy_source c q v)
  source_named c [] v all own = own
  source_named c (e ∷ q) v all own = by (is_copy c v e) refl (source_named c q v all.1 own) where
    by : (b : Bool) → is_copy c v e ≡ b → P (copy_source c q v) → P (if b then source_in v e.value else copy_source c q v)
    by true h rest =
        let p = and_parts (nat_eq e.variable v) (are_alike c (source_in v e.value) v) h in
        subst (λ (u : ℕ). P (source_in u e.value)) (eqb-true e.variable v p.0) (all.0).1
    by false h rest = rest

  -- what holds of values
  module _ (Q : Value → Type 0) (copies : (u : ℕ) → P u → Q (val.Same (Variable u))) (sums : (w n : ℕ) → P w → n < 2 ^ 11 → Q (val.Binary Add (Variable w) (Number n))) where
    held_named : (c : Classes) (q : List Equation) (v : ℕ) (x : Value) → AreNamed q → Q x → Q (held_value c q v x)
    held_named c [] v x all own = own
    held_named c (e ∷ q) v x all own = by (holds_already c v x e) (held_named c q v x all.1 own) where
      by : (b : Bool) → Q (held_value c q v x) → Q (if b then val.Same (Variable e.variable) else held_value c q v x)
      by true rest = copies e.variable (all.0).0
      by false rest = rest

    once_named : (c : Classes) (q : List Equation) (v : ℕ) (x : Value) → AreNamed q → Q x → Q (computed_once c q v x)
    once_named c q v x all own = by (is_operand x) where
      by : (b : Bool) → Q (if b then x else held_value c q v x)
      by true = own
      by false = held_named c q v x all own

    sum_named : (c : Classes) (w n v : ℕ) → P w → Q (val.Same (Variable v)) → Q (base_sum_or c w n (val.Same (Variable v)))
    sum_named c w n v base own = by (fits_offset n && c.s w) refl where
      by : (b : Bool) → (fits_offset n && c.s w) ≡ b → Q (if b then val.Binary Add (Variable w) (Number n) else val.Same (Variable v))
      by true h = sums w n base (ltb-true n (2 ^ 11) (and_parts (fits_offset n) (c.s w) h).0)
      by false h = own

    as_sum_named : (c : Classes) (u v : ℕ) (x : Value) → P (base_in u x) → Q (val.Same (Variable v)) → Q (as_sum_or c x (val.Same (Variable v)))
    as_sum_named c u v (val.Binary Add (Variable w) (Number n)) base own = sum_named c w n v base own
    as_sum_named c u v (val.Binary Add (Number n) (Variable w)) base own = sum_named c w n v base own
    as_sum_named c u v _ base own = own

    held_sum_named : (c : Classes) (q : List Equation) (v : ℕ) → AreNamed q → Q (val.Same (Variable v)) → Q (held_sum c q v)
    held_sum_named c [] v all own = own
    held_sum_named c (e ∷ q) v all own = by (nat_eq e.variable v) (held_sum_named c q v all.1 own) where
      by : (b : Bool) → Q (held_sum c q v) → Q (if b then as_sum_or c e.value (val.Same (Variable v)) else held_sum c q v)
      by true rest = as_sum_named c e.variable v e.value (all.0).2 own
      by false rest = rest

    again_named : (c : Classes) (q : List Equation) (v : ℕ) → AreNamed q → Q (val.Same (Variable v)) → Q (computed_again c q v)
    again_named c q v all own = by (c.s v && not (c.needs v)) where
      by : (b : Bool) → Q (if b then held_sum c q v else val.Same (Variable v))
      by true = held_sum_named c q v all own
      by false = own

    itself_named : (v : ℕ) (x : Value) → is_itself v x ≡ true → Q x → Q (val.Same (Variable v))
    itself_named v (val.Same (Variable u)) h own = subst (λ (w : ℕ). Q (val.Same (Variable w))) (eqb-true u v h) own
    itself_named v _ h own = absurd cc

    -- what is assigned: of a value, and of it with its operands propagated
    pub assigned_value_named : (c : Classes) (q : List Equation) (v : ℕ) (x : Value) → AreNamed q → Q x → Q (propagated_value c q x) → Q (assigned_value c q v x)
    assigned_value_named c q v x all own other = by (is_itself v x) refl where
      by : (b : Bool) → is_itself v x ≡ b → Q (if b then computed_again c q v else computed_once c q v (propagated_value c q x))
      by true h = again_named c q v all (itself_named v x h own)
      by false h = once_named c q v (propagated_value c q x) all other

  -- ---- behind items

  pub without_named : (v : ℕ) (q : List Equation) → AreNamed q → AreNamed (without_variable v q)
  without_named v q all = without_all IsNamed IsNamed v (λ e h is. is) q all

  pub with_named : (v : ℕ) (x : Value) (q : List Equation) → P v → P (source_in v x) → P (base_in v x) → AreNamed q → AreNamed (with_equation v x q)
  with_named v x q own source base all = with_all IsNamed v x q (λ h. (own, source, base)) (without_named v q all)

  pub met_named : (j k : Option (List Equation)) → AreNamed (equations_in j) → AreNamed (equations_in k) → AreNamed (equations_in (met j k))
  met_named None k all also = also
  met_named (Some q) None all also = all
  met_named (Some q) (Some r) all also = first_all IsNamed q r all

pub named_more : (P P' : ℕ → Type 0) → ((u : ℕ) → P u → P' u) → (q : List Equation) → AreNamed P q → AreNamed P' q
named_more P P' h q all = all_more (IsNamed P) (IsNamed P') (λ e is. (h e.variable is.0, h (source_in e.variable e.value) is.1, h (base_in e.variable e.value) is.2)) q all

-- Lists of equations: what holds of each equation behind what sets a variable, and where two ways meet.
use Rattle.std.proofs.Common.{◌≡◌, ℕ, zero, suc, Bool, true, false, nat_eq, if◌then◌else◌, List, [], ◌∷◌, ◌++◌, take, inl, inr, refl, sym, subst}
use Rattle.std.proofs.lemmas.Bool.{eqb-true, and_parts, or_cases}
use Rattle.std.specs.List.{AllByRecursion}
use Rattle.dae_ir.specs.contracts.form.ValuePartialEq.TheImpl.{ghosts as of_values}
use Rattle.dae_ir.specs.declared.form.Value.{Value}
use Rattle.dae_commons.specs.declared.equations.Equation.{Equation}
use Rattle.dae_commons.specs.Equations.{value_involves, involves, without_variable, equation, equation_of, with_equation, same_equation, is_among, both_known}
use Rattle.dae_commons.proofs.Values.{values_same}

-- ---- behind what sets a variable

pub without_all : (R S : Equation → Type 0) (v : ℕ) → ((e : Equation) → involves v e ≡ false → R e → S e) → (q : List Equation) → AllByRecursion R q → AllByRecursion S (without_variable v q)
without_all R S v h [] all = tt
without_all R S v h (e ∷ q) all = by (involves v e) refl (without_all R S v h q all.1) where
  by : (b : Bool) → involves v e ≡ b → AllByRecursion S (without_variable v q) → AllByRecursion S (if b then without_variable v q else e ∷ without_variable v q)
  by true is rest = rest
  by false is rest = (h e is all.0, rest)

take_all : (R : Equation → Type 0) (n : ℕ) (q : List Equation) → AllByRecursion R q → AllByRecursion R (take n q)
take_all R zero [] all = tt
take_all R zero (e ∷ q) all = tt
take_all R (suc n) [] all = tt
take_all R (suc n) (e ∷ q) all = (all.0, take_all R n q all.1)

pub with_all : (R : Equation → Type 0) (v : ℕ) (x : Value) (q : List Equation) → (value_involves v x ≡ false → R (equation v x)) → AllByRecursion R (without_variable v q) → AllByRecursion R (with_equation v x q)
with_all R v x q new all = take_all R 32 (equation_of v x ++ without_variable v q) (by (value_involves v x) refl) where
  by : (b : Bool) → value_involves v x ≡ b → AllByRecursion R ((if b then [] else equation v x ∷ []) ++ without_variable v q)
  by true is = all
  by false is = (new is, all)

-- ---- where two ways meet

equations_same : (d e : Equation) → same_equation d e ≡ true → d ≡ e
equations_same d e h =
    let p = and_parts (nat_eq d.variable e.variable) (of_values.eq d.value e.value) h in
    let variable : d.variable ≡ e.variable = eqb-true d.variable e.variable p.0 in
    let value : d.value ≡ e.value = values_same d.value e.value p.1 in
    λ i. record { variable = variable i; value = value i }

among_all : (R : Equation → Type 0) (d : Equation) (q : List Equation) → is_among d q ≡ true → AllByRecursion R q → R d
among_all R d [] is all = absurd cc
among_all R d (e ∷ q) is all =
    elim (or_cases (same_equation d e) (is_among d q) is) [
      | inl here ↦ subst R (sym (equations_same d e here)) all.0
      | inr further ↦ among_all R d q further all.1
    ]

pub first_all : (R : Equation → Type 0) (q r : List Equation) → AllByRecursion R q → AllByRecursion R (both_known q r)
first_all R [] r all = tt
first_all R (e ∷ q) r all = by (is_among e r) (first_all R q r all.1) where
  by : (b : Bool) → AllByRecursion R (both_known q r) → AllByRecursion R (if b then e ∷ both_known q r else both_known q r)
  by true rest = (all.0, rest)
  by false rest = rest

pub second_all : (R : Equation → Type 0) (q r : List Equation) → AllByRecursion R r → AllByRecursion R (both_known q r)
second_all R [] r all = tt
second_all R (e ∷ q) r all = by (is_among e r) refl (second_all R q r all) where
  by : (b : Bool) → is_among e r ≡ b → AllByRecursion R (both_known q r) → AllByRecursion R (if b then e ∷ both_known q r else both_known q r)
  by true is rest = (among_all R e r is all, rest)
  by false is rest = rest

pub all_of_both : (R S T : Equation → Type 0) → ((e : Equation) → R e → S e → T e) → (q : List Equation) → AllByRecursion R q → AllByRecursion S q → AllByRecursion T q
all_of_both R S T h [] all also = tt
all_of_both R S T h (e ∷ q) all also = (h e all.0 also.0, all_of_both R S T h q all.1 also.1)

pub all_more : (R S : Equation → Type 0) → ((e : Equation) → R e → S e) → (q : List Equation) → AllByRecursion R q → AllByRecursion S q
all_more R S h [] all = tt
all_more R S h (e ∷ q) all = (h e all.0, all_more R S h q all.1)

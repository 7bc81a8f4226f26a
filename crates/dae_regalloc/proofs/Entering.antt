-- What is live at the place of an action, and at the entry of a function.
use Rattle.std.proofs.Common.{◌≡◌, ℕ, ◌+◌, Bool, true, false, not, ◌&&◌, ◌||◌, refl, ap, sym, ◌∙◌, arith}
use Rattle.std.proofs.Math.Path.{fun_ext}
use Rattle.std.specs.Prelude.{Some, nat_eq}
use Rattle.std.proofs.lemmas.Bool.Decides.{nat_tests}
use Rattle.dae_base.proofs.Laws.{or_nothing}
use Rattle.dae_ir.specs.Classes.{VariableSet}
use Rattle.dae_select_walks.specs.Live.{with_all, only, is, parameters_of}
use Rattle.dae_select_live.specs.Members.{without}

or_swap : (a b : Bool) → a || b ≡ b || a
or_swap true true = refl
or_swap true false = refl
or_swap false true = refl
or_swap false false = refl

pub with_none : (m : VariableSet) → m ≡ with_all m (λ u. false)
with_none m = fun_ext (λ u. sym (or_nothing (m u)))

pub with_one : (v : ℕ) (m : VariableSet) → with_all (only v) m ≡ with_all m (λ u. nat_eq u v)
with_one v m = fun_ext (λ u. or_swap (nat_eq u v) (m u))

also_in : (c b : Bool) → (b ≡ true → c ≡ true) → c || b ≡ c
also_in true b h = refl
also_in false true h = sym (h refl)
also_in false false h = refl

-- one that is there already
pub with_same : (v : ℕ) (m s : VariableSet) → is (Some v) ≡ s → m v ≡ true → with_all m s ≡ m
with_same v m s e there = ap (with_all m) (sym e) ∙ fun_ext (λ u. also_in (m u) (nat_eq u v) (λ h. (let same : u ≡ v = grind (arith, nat_tests) in ap m same ∙ there)))

kept_out : (b c : Bool) → (b ≡ true → c ≡ false) → (b || c) && not b ≡ c
kept_out true true h = sym (h refl)
kept_out true false h = refl
kept_out false true h = refl
kept_out false false h = refl

-- one that comes and goes again
pub without_added : (v : ℕ) (m : VariableSet) → m v ≡ false → without v (with_all (only v) m) ≡ m
without_added v m absent = fun_ext (λ u. kept_out (nat_eq u v) (m u) (λ h. (let same : u ≡ v = grind (arith, nat_tests) in ap m same ∙ absent)))

no_parameters : (u : ℕ) → parameters_of 0 u ≡ false
no_parameters u = grind (arith, nat_tests)

pub before_parameters : (m : VariableSet) → m ≡ with_all m (parameters_of 0)
before_parameters m = fun_ext (λ u. sym (ap (λ (b : Bool). m u || b) (no_parameters u) ∙ or_nothing (m u)))

or_in : (a b c d : Bool) → a || c ≡ d → a || (b || c) ≡ b || d
or_in true true c d e = refl
or_in true false c d e = e
or_in false true c d e = refl
or_in false false c d e = e

next_parameter : (i u : ℕ) → nat_eq u (i + 1) || parameters_of i u ≡ parameters_of (i + 1) u
next_parameter i u = grind (arith, nat_tests)

pub one_parameter_more : (m : VariableSet) (i : ℕ) → with_all (only (i + 1)) (with_all m (parameters_of i)) ≡ with_all m (parameters_of (i + 1))
one_parameter_more m i = fun_ext (λ u. or_in (nat_eq u (i + 1)) (m u) (parameters_of i u) (parameters_of (i + 1) u) (next_parameter i u))

-- What conditions test, what items give, and how often lists stand.
use Rattle.std.proofs.Common.{◌≡◌, ℕ, Bool, true, false, nat_eq, if◌then◌else◌, List, [], ◌∷◌, length, get_or, Some, None, refl, ap, sym, ◌∙◌, subst, arith}
use Rattle.std.proofs.lemmas.Bool.{eqb-true}
use Rattle.std.proofs.lemmas.Option.{same_Some}
use Rattle.dae_base.specs.declared.Place.{Place}
use Rattle.dae_meaning.specs.declared.Comparison.{Comparison}
use Rattle.dae_meaning.specs.declared.Comparison.TheVariants.{Equal, NotEqual, LessSigned, AtLeastSigned, LessUnsigned, AtLeastUnsigned}
use Rattle.dae_ir.specs.Code.{Done}
use Rattle.dae_ir.specs.Form.{before, form_of}
use Rattle.dae_ir.specs.declared.form.Operand.{Operand}
use Rattle.dae_ir.specs.declared.form.Operand.TheVariants.{Variable, Number}
use Rattle.dae_ir.specs.declared.form.Value.{Value}
use Rattle.dae_ir.specs.declared.form.Value.TheVariants as val
use Rattle.dae_ir.specs.declared.form.Test.{Test}
use Rattle.dae_ir.specs.declared.form.Item.{Item}
use Rattle.dae_ir.specs.declared.form.Item.TheVariants.{Assign, Load, Store, Print, Expect, Break, Continue, Call, Return, Halt}
use Rattle.dae_ir.specs.declared.form.Statement.{Statement}
use Rattle.dae_ir.specs.declared.form.Statement.TheVariants as statement
use Rattle.dae_threads.specs.Threaded.{gives_number, is_light, is_nonzero, IsSpread, OfNothing, Doubled}
use Rattle.dae_threads.specs.Walked.{beside_zero, nonzero_tested, number_assigned, number_given}

none_some : {X : Type 0} (n : ℕ) → None ≡ Some n → X
none_some n h = absurd (let c : None ≡ Some n = h in cc)

-- ---- conditions

-- compared with 0
beside_is : (x y : Operand) (v : ℕ) → beside_zero x y ≡ Some v → (x ≡ Variable v) × (y ≡ Number 0)
beside_is (Variable u) (Number n) v h = by (nat_eq n 0) refl h where
  by : (b : Bool) → nat_eq n 0 ≡ b → (if b then Some u else None) ≡ Some v → (Variable u ≡ Variable v) × (Number n ≡ Number 0)
  by true is some = (ap (λ (k : ℕ). Variable k) (same_Some u v some), ap (λ (k : ℕ). Number k) (eqb-true n 0 is))
  by false is some = none_some v some
beside_is (Variable u) (Variable w) v h = none_some v h
beside_is (Number n) (Variable w) v h = none_some v h
beside_is (Number n) (Number m) v h = none_some v h

abbrev test_of : Comparison → Operand → Operand → Test
test_of comparison x y = record { comparison = comparison; left = x; right = y }

test_is : (comparison : Comparison) (x y : Operand) (v : ℕ) → nonzero_tested comparison x y ≡ Some v → test_of comparison x y ≡ is_nonzero v
test_is NotEqual x y v h =
    let both = beside_is x y v h in
    ap (λ (z : Operand). test_of NotEqual z y) both.0 ∙ ap (λ (z : Operand). test_of NotEqual (Variable v) z) both.1
test_is Equal x y v h = none_some v h
test_is LessSigned x y v h = none_some v h
test_is AtLeastSigned x y v h = none_some v h
test_is LessUnsigned x y v h = none_some v h
test_is AtLeastUnsigned x y v h = none_some v h

pub tested_is : (t : Test) (v : ℕ) → nonzero_tested t.comparison t.left t.right ≡ Some v → t ≡ is_nonzero v
tested_is t v h = test_is t.comparison t.left t.right v h

-- ---- items

assigned_is : (v u : ℕ) (x : Value) (n : ℕ) → number_assigned v u x ≡ Some n → Assign u x ≡ gives_number v n
assigned_is v u (val.Same (Number m)) n h = by (nat_eq u v) refl h where
  by : (b : Bool) → nat_eq u v ≡ b → (if b then Some m else None) ≡ Some n → gives_number u m ≡ gives_number v n
  by true is some = ap (λ (k : ℕ). gives_number k m) (eqb-true u v is) ∙ ap (λ (k : ℕ). gives_number v k) (same_Some m n some)
  by false is some = none_some n some
assigned_is v u (val.Same (Variable w)) n h = none_some n h
assigned_is v u (val.Extended kind x) n h = none_some n h
assigned_is v u (val.Binary operator x y) n h = none_some n h
assigned_is v u (val.Holds t) n h = none_some n h
assigned_is v u (val.FrameAddress offset) n h = none_some n h

pub given_is : (v : ℕ) (item : Item) (n : ℕ) → number_given v item ≡ Some n → item ≡ gives_number v n
given_is v (Assign u x) n h = assigned_is v u x n h
given_is v (Load u kind x) n h = none_some n h
given_is v (Store width x y) n h = none_some n h
given_is v (Print spelling x) n h = none_some n h
given_is v (Expect check) n h = none_some n h
given_is v Break n h = none_some n h
given_is v Continue n h = none_some n h
given_is v (Call u g xs) n h = none_some n h
given_is v (Return x) n h = none_some n h
given_is v (Halt x) n h = none_some n h

-- ---- lists that stand so many times

pub spread_empty : (count : ℕ) (ss : List Statement) → length ss ≡ 0 → IsSpread count (form_of ss) 0
spread_empty count [] none = OfNothing count
spread_empty count (s ∷ ss) none = absurd (omega (arith, none))

-- a statement alone
pub alone_is : (ss : List Statement) (s : Statement) → length ss ≡ 1 → s ≡ get_or ss 0 s → form_of ss ≡ before s Done
alone_is [] s one is = absurd (omega (arith, one))
alone_is (s' ∷ []) s one is = ap (λ (t : Statement). before t Done) (sym is)
alone_is (s' ∷ t ∷ ss) s one is = absurd (omega (arith, one))

pub spread_simple : (s : Statement) (place : Place) (item : Item) → s ≡ statement.Simple place item → is_light item ≡ true → IsSpread 2 (before s Done) 1
spread_simple s place item is light = subst (λ (t : Statement). IsSpread 2 (before t Done) 1) (sym is) (Doubled place item light)

-- What reads a closed set alone is the same where the variables agree on it.
use Rattle.std.proofs.Common.{◌≡◌, ℕ, ◌+◌, Bool, true, false, ◌&&◌, nat_eq, List, [], ◌∷◌, if◌then◌else◌, refl, arith}
use Rattle.std.proofs.lemmas.Bool.Decides.{nat_tests}
use Rattle.dae_base.proofs.Laws.{and_true}
use Rattle.dae_meaning.specs.Worlds.{World}
use Rattle.dae_meaning.specs.Variables.{Env, put, entered}
use Rattle.dae_ir.specs.Form.{value, values, computed, holds, fault, Program}
use Rattle.dae_ir.specs.Classes.{VariableSet, has, has_value, has_test, has_check, ArgumentsKept}
use Rattle.dae_ir_pair.specs.Laws.{AgreeOn}
use Rattle.dae_ir.specs.declared.form.Operand.{Operand}
use Rattle.dae_ir.specs.declared.form.Operand.TheVariants.{Variable, Number}
use Rattle.dae_ir.specs.declared.form.Value.{Value}
use Rattle.dae_ir.specs.declared.form.Value.TheVariants.{Same, Extended, Binary, Holds, FrameAddress}
use Rattle.dae_ir.specs.declared.form.Test.{Test}
use Rattle.dae_ir.specs.declared.form.Check.{Check}
use Rattle.dae_ir.specs.declared.form.Check.TheVariants.{Place, InBounds, Zero, Room, Frame, Abort}

module _ (c : VariableSet) (env other : Env) (agree : AgreeOn c env other) where
  pub value_agrees : (x : Operand) → has c x ≡ true → value x other ≡ value x env
  value_agrees (Variable v) h = agree v h
  value_agrees (Number k) h = refl

  pub holds_agrees : (t : Test) → has_test c t ≡ true → holds t other ≡ holds t env
  holds_agrees t h =
      let b = and_true (has c t.left) (has c t.right) h in rw (value_agrees t.left b.0, value_agrees t.right b.1)

  pub computed_agrees : (x : Value) (frame : ℕ) → has_value c x ≡ true → computed x frame other ≡ computed x frame env
  computed_agrees (Same x) frame h = value_agrees x h
  computed_agrees (Extended kind x) frame h = rw (value_agrees x h)
  computed_agrees (Binary operator x y) frame h =
      let b = and_true (has c x) (has c y) h in rw (value_agrees x b.0, value_agrees y b.1)
  computed_agrees (Holds t) frame h = rw (holds_agrees t h)
  computed_agrees (FrameAddress offset) frame h = refl

  pub fault_agrees : (p : Program) (check : Check) (w : World) → has_check c check ≡ true → fault p check w other ≡ fault p check w env
  fault_agrees p (Place width x) w h = rw (value_agrees x h)
  fault_agrees p (InBounds x offset) w h = rw (value_agrees x h)
  fault_agrees p (Zero x) w h = rw (value_agrees x h)
  fault_agrees p (Room f) w h = refl
  fault_agrees p Frame w h = refl
  fault_agrees p Abort w h = refl

  pub put_agrees : (v x y : ℕ) → (c v ≡ true → y ≡ x) → AgreeOn c (put true v x env) (put (c v) v y other)
  put_agrees v x y h u m = by (nat_eq u v) refl (c v) refl where
    by : (b : Bool) → nat_eq u v ≡ b → (d : Bool) → c v ≡ d → (if (d && b) then y else other u) ≡ (if (true && b) then x else env u)
    by true e true k = h k
    by true e false k = let same : u ≡ v = grind (arith, nat_tests) in let f : c u ≡ false = rw (same) k in cc
    by false e true k = agree u m
    by false e false k = agree u m

-- what is passed agrees with what the form passes, for the parameters of the set from k on
abbrev pub Passes : VariableSet → ℕ → List ℕ → List ℕ → Type 0
Passes c k [] [] = Unit {0}
Passes c k [] (y ∷ ys) = ⊥
Passes c k (x ∷ xs) [] = ⊥
Passes c k (x ∷ xs) (y ∷ ys) = (c k ≡ true → y ≡ x) × Passes c (k + 1) xs ys

pub passes_same : (c : VariableSet) (k : ℕ) (xs : List ℕ) → Passes c k xs xs
passes_same c k [] = tt
passes_same c k (x ∷ xs) = (λ _. refl, passes_same c (k + 1) xs)

pub values_pass : (callee c : VariableSet) (env other : Env) → AgreeOn c env other → (k : ℕ) (xs : List Operand) → ArgumentsKept callee c k xs → Passes callee k (values xs env) (values xs other)
values_pass callee c env other agree k [] h = tt
values_pass callee c env other agree k (x ∷ xs) h = (λ m. value_agrees c env other agree x (h.0 m), values_pass callee c env other agree (k + 1) xs h.1)

pub entered_agree : (c : VariableSet) (k : ℕ) (xs ys : List ℕ) → Passes c k xs ys → AgreeOn c (entered (λ _. true) k xs) (entered c k ys)
entered_agree c k [] [] h = λ v m. refl
entered_agree c k [] (y ∷ ys) h = absurd h
entered_agree c k (x ∷ xs) [] h = absurd h
entered_agree c k (x ∷ xs) (y ∷ ys) h =
    put_agrees c (entered (λ _. true) (k + 1) xs) (entered c (k + 1) ys) (entered_agree c (k + 1) xs ys h.1) k x y h.0

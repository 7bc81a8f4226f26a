-- A variable that a value is computed from needn't go out of a set before what the value reads comes in.
use Rattle.std.proofs.Common.{◌≡◌, ℕ, Bool, true, false, not, ◌&&◌, ◌||◌, if◌then◌else◌, nat_eq, Option, Some, None, refl, ap, ◌∙◌, eqb-true}
use Rattle.std.proofs.Math.Path.{fun_ext}
use Rattle.dae_ir.specs.Classes.{VariableSet}
use Rattle.dae_ir.specs.declared.form.Value.{Value}
use Rattle.dae_ir.specs.declared.stream.Action.{Action}
use Rattle.dae_ir.specs.declared.stream.Action.TheVariants as action
use Rattle.dae_select_walks.specs.Live.{with_all, in_value, reads, sets, is}

at_one : (x : Value) (v : ℕ) (s : VariableSet) → in_value x v ≡ true → (u : ℕ) → in_value x u || (s u && not false) ≡ in_value x u || (s u && not (nat_eq u v))
at_one x v s read u = by (nat_eq u v) refl
  where
    by : (b : Bool) → nat_eq u v ≡ b → in_value x u || (s u && not false) ≡ in_value x u || (s u && not b)
    by false e = refl
    by true e = (let here : in_value x u ≡ true = ap (in_value x) (eqb-true u v e) ∙ read in rw here refl)

of_value : (x : Value) (v : ℕ) (s : VariableSet) (b : Bool) → in_value x v ≡ b
    → with_all (in_value x) (λ u. s u && not (is (if b then None else Some v) u)) ≡ with_all (in_value x) (λ u. s u && not (nat_eq u v))
of_value x v s true e = fun_ext (at_one x v s e)
of_value x v s false e = refl

pub left_anew : (a : Action) (v : ℕ) (x : Value) (out : Option ℕ) → a ≡ action.Set v x → out ≡ (if in_value x v then None else Some v)
    → (s : VariableSet) → with_all (reads a) (λ u. s u && not (is out u)) ≡ with_all (reads a) (λ u. s u && not (sets a u))
left_anew a v x out set is_out s = rw (set, is_out) (of_value x v s (in_value x v) refl)

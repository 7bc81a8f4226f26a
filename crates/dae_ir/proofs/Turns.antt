-- More turns: what has ended stays so, and what goes on has printed a front.
use Rattle.std.proofs.Common.{◌≡◌, ℕ, zero, suc, Bool, List, refl}
use Rattle.dae_meaning.specs.Worlds.{World, ticked}
use Rattle.dae_meaning.specs.Results.{Result, At, Over}
use Rattle.dae_meaning.specs.Alike.{IsUnder, Stays, Grows}
use Rattle.dae_meaning.specs.Variables.{Env}
use Rattle.dae_meaning.proofs.Laws.{Along, AreUnder, Prints, prints, bind_under, turns_under, choice_under, within_under}
use Rattle.dae_ir.specs.Code.{Code, Done, Do, If, Loop, CodeMeaning, exec}
use Rattle.dae_ir.specs.Form.{Program, Calls, values, fault, called, ended, does, meaning, calls_of}
use Rattle.dae_ir.specs.Laws.{Counting, MoreTurns}
use Rattle.dae_ir.specs.declared.form.Check.TheVariants.{Room}
use Rattle.dae_ir.specs.declared.form.Item.{Item}
use Rattle.dae_ir.specs.declared.form.Item.TheVariants.{Assign, Load, Store, Print, Expect, Break, Continue, Call, Return, Halt}
use Rattle.dae_ir.proofs.Along.{code_along, does_along, calls_along, form_prints}

module _ {M L T E : Type 0} (m m' : CodeMeaning L T E) (grows : (item : L) → Along Prints (m'.does item)) (under : (item : L) → AreUnder (m.does item) (m'.does item)) (same : (t : T) (e : E) → m'.holds t e ≡ m.holds t e) where
  pub code_under : (n : ℕ) (code : Code M L T) → AreUnder (exec m n code) (exec m' (suc n) code)
  code_under n Done e w = Stays _
  code_under n (Do mark item k) e w = bind_under _ _ _ _ (under item e w) (code_under n k) (code_along Prints prints m' grows (suc n) k)
  code_under n (If mark t p q k) e w =
      bind_under _ _ _ _ (rw (same t e) (choice_under (m.holds t e) _ _ _ _ (code_under n p e (ticked w)) (code_under n q e (ticked w)))) (code_under n k) (code_along Prints prints m' grows (suc n) k)
  code_under n (Loop mark b c k) e w =
      bind_under _ _ _ _ (turns_under (exec m n b) (exec m n c) (exec m' (suc n) b) (exec m' (suc n) c) (code_under n b) (code_under n c) (code_along Prints prints m' grows (suc n) b) (code_along Prints prints m' grows (suc n) c) n e w)
      (code_under n k) (code_along Prints prints m' grows (suc n) k)

ended_under : (got : Env → Env) (w : World) (r s : Result Env) → IsUnder r s → IsUnder (ended {E = Env} got w r) (ended got w s)
ended_under got w r s (Stays t) = Stays _
ended_under got w r s (Grows u (At way e v) h) = Grows u _ h
ended_under got w r s (Grows u (Over end v) h) = Grows u _ h

module _ (p : Program) (counted : ℕ → Bool) (calls more : Calls) (under : (f : ℕ) (xs : List ℕ) (w : World) → IsUnder (calls f xs w) (more f xs w)) where
  does_under : (item : Item) → AreUnder (does p counted calls item) (does p counted more item)
  does_under (Call v f xs) e w = within_under (fault p (Room f) w e) w _ _ (ended_under _ w _ _ (under f (values xs e) (called xs w)))
  does_under (Assign v x) e w = Stays _
  does_under (Load v kind x) e w = Stays _
  does_under (Store width x y) e w = Stays _
  does_under (Print spelling x) e w = Stays _
  does_under (Expect check) e w = Stays _
  does_under Break e w = Stays _
  does_under Continue e w = Stays _
  does_under (Return x) e w = Stays _
  does_under (Halt x) e w = Stays _

pub more_turns : (p : Program) (counted : Counting) → MoreTurns p counted
more_turns p counted n zero f xs w = Stays _
more_turns p counted n (suc limit) f xs w =
    code_under (meaning p (counted f) (calls_of p counted n limit)) (meaning p (counted f) (calls_of p counted (suc n) limit))
    (does_along Prints form_prints p (counted f) (calls_of p counted (suc n) limit) (calls_along Prints form_prints p counted (suc n) limit))
    (does_under p (counted f) (calls_of p counted n limit) (calls_of p counted (suc n) limit) (more_turns p counted n limit)) (λ t e. refl) n (p.body f) _ _

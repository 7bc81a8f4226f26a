-- A main that halts and never returns gives no result: its call is over.
use Rattle.std.proofs.Common.{◌≡◌, ℕ, zero, suc, Bool, true, false, ◌&&◌, ◌||◌, Option, Some, None, if◌then◌else◌, refl}
use Rattle.dae_meaning.specs.Worlds.{World, ticked}
use Rattle.dae_meaning.specs.Results.{Result, At, Over, Next, Leaves, Skips, Returns, End, Run, ◌▷◌, ◌↻◌, turns, within, checked}
use Rattle.dae_meaning.specs.Variables.{Env}
use Rattle.dae_base.specs.Words.{width_of}
use Rattle.dae_base.proofs.Laws.{and_first, and_second}
use Rattle.std.specs.Prelude.{length}
use Rattle.dae_meaning.specs.Operations.{misplaced}
use Rattle.dae_ir.specs.Code.{Done, Do, If, Loop, exec}
use Rattle.dae_ir.specs.Form.{Form, Program, Calls, value, fault, ended, does, meaning, holds}
use Rattle.dae_ir.specs.Rounds.{stays}
use Rattle.dae_ir.specs.Scope.{closes, never_returns}
use Rattle.dae_ir.specs.declared.form.Check.TheVariants.{Room}
use Rattle.dae_ir.specs.declared.form.Item.{Item}
use Rattle.dae_ir.specs.declared.form.Item.TheVariants.{Assign, Load, Store, Print, Expect, Break, Continue, Call, Return, Halt}
use Rattle.dae_lower.proofs.Laws.{IsLeft}

-- ---- it doesn't return, and leaves a loop or goes to its step only inside of one

abbrev pub IsOut : {E : Type 0} → Bool → Result E → Type 0
IsOut inside (At Next e w) = Unit {0}
IsOut inside (At Leaves e w) = inside ≡ true
IsOut inside (At Skips e w) = inside ≡ true
IsOut inside (At Returns e w) = ⊥
IsOut inside (Over end w) = Unit {0}

module _ {E : Type 0} where
  then_out : (inside : Bool) (r : Result E) (f : Run E) → IsOut inside r → ((e : E) (w : World) → IsOut inside (f e w)) → IsOut inside (r ▷ f)
  then_out inside (At Next e w) f h k = k e w
  then_out inside (At Leaves e w) f h k = h
  then_out inside (At Skips e w) f h k = h
  then_out inside (At Returns e w) f h k = h
  then_out inside (Over end w) f h k = h

  turn_out : (inside : Bool) (r : Result E) (f : Run E) → IsOut true r → ((e : E) (w : World) → IsOut inside (f e w)) → IsOut inside (r ↻ f)
  turn_out inside (At Next e w) f h k = k e w
  turn_out inside (At Leaves e w) f h k = tt
  turn_out inside (At Skips e w) f h k = k e w
  turn_out inside (At Returns e w) f h k = h
  turn_out inside (Over end w) f h k = h

  turns_out : (inside : Bool) (b c : Run E) → ((e : E) (w : World) → IsOut true (b e w)) → ((e : E) (w : World) → IsOut true (c e w)) → (n : ℕ) (e : E) (w : World) → IsOut inside (turns b c n e w)
  turns_out inside b c hb hc zero e w = tt
  turns_out inside b c hb hc (suc n) e w =
      turn_out inside (b e (ticked w)) _ (hb e (ticked w)) (λ e w. turn_out inside (c e w) _ (hc e w) (turns_out inside b c hb hc n))

  choice_out : (inside d : Bool) (r s : Result E) → IsOut inside r → IsOut inside s → IsOut inside (if d then r else s)
  choice_out inside true r s h k = h
  choice_out inside false r s h k = k

within_out : (inside : Bool) (o : Option ℕ) (w : World) (r : Result Env) → IsOut inside r → IsOut inside (within o w r)
within_out inside None w r h = h
within_out inside (Some code) w r h = tt

checked_out : (inside : Bool) (o : Option ℕ) (e : Env) (w : World) → IsOut inside (checked o e w)
checked_out inside None e w = tt
checked_out inside (Some code) e w = tt

ended_out : (inside : Bool) (got : Env → Env) (w : World) (r : Result Env) → IsOut inside (ended {E = Env} got w r)
ended_out inside got w (At way e u) = tt
ended_out inside got w (Over end u) = tt

allowed : (inside : Bool) → (inside || false) ≡ true → inside ≡ true
allowed true h = refl
allowed false h = cc

module _ (p : Program) (counted : ℕ → Bool) (calls : Calls) (n : ℕ) where
  does_out : (inside : Bool) (place : _) (item : Item) (k : Form) → never_returns (Do place item k) ≡ true → stays inside (Do place item k) ≡ true → (e : Env) (w : World) → IsOut inside (does p counted calls item e w)
  does_out inside place (Assign v x) k h s e w = tt
  does_out inside place (Load v kind x) k h s e w = within_out inside (misplaced (width_of kind) (value x e) (length w.memory)) w _ tt
  does_out inside place (Store width x y) k h s e w = within_out inside (misplaced width (value x e) (length w.memory)) w _ tt
  does_out inside place (Print spelling x) k h s e w = tt
  does_out inside place (Expect check) k h s e w = checked_out inside (fault p check w e) e (ticked w)
  does_out inside place Break k h s e w = allowed inside (and_first _ _ s)
  does_out inside place Continue k h s e w = allowed inside (and_first _ _ s)
  does_out inside place (Call v f xs) k h s e w = within_out inside (fault p (Room f) w e) w _ (ended_out inside _ w _)
  does_out inside place (Return x) k h s e w = cc
  does_out inside place (Halt x) k h s e w = tt

  pub code_out : (inside : Bool) (code : Form) → never_returns code ≡ true → stays inside code ≡ true → (e : Env) (w : World) → IsOut inside (exec (meaning p counted calls) n code e w)
  code_out inside Done h s e w = tt
  code_out inside (Do place item k) h s e w =
      then_out inside _ _ (does_out inside place item k h s e w) (code_out inside k (and_second _ _ h) (and_second _ _ s))
  code_out inside (If place t x y k) h s e w =
      let rest = and_second (never_returns x) (never_returns y && never_returns k) h in
      let more = and_second (stays inside x) (stays inside y && stays inside k) s in
      then_out inside _ _
      (choice_out inside (holds t e) _ _
      (code_out inside x (and_first (never_returns x) (never_returns y && never_returns k) h) (and_first (stays inside x) (stays inside y && stays inside k) s) e (ticked w))
      (code_out inside y (and_first (never_returns y) (never_returns k) rest) (and_first (stays inside y) (stays inside k) more) e (ticked w)))
      (code_out inside k (and_second (never_returns y) (never_returns k) rest) (and_second (stays inside y) (stays inside k) more))
  code_out inside (Loop place x y k) h s e w =
      let rest = and_second (never_returns x) (never_returns y && never_returns k) h in
      let more = and_second (stays true x) (stays true y && stays inside k) s in
      then_out inside _ _
      (turns_out inside (exec (meaning p counted calls) n x) (exec (meaning p counted calls) n y)
      (code_out true x (and_first (never_returns x) (never_returns y && never_returns k) h) (and_first (stays true x) (stays true y && stays inside k) s))
      (code_out true y (and_first (never_returns y) (never_returns k) rest) (and_first (stays true y) (stays inside k) more)) n e w)
      (code_out inside k (and_second (never_returns y) (never_returns k) rest) (and_second (stays true y) (stays inside k) more))

-- ---- and its end isn't reached

then_left : {E : Type 0} (r : Result E) (f : Run E) → ((e : E) (w : World) → IsLeft (f e w)) → IsLeft (r ▷ f)
then_left (At Next e w) f k = k e w
then_left (At Leaves e w) f k = tt
then_left (At Skips e w) f k = tt
then_left (At Returns e w) f k = tt
then_left (Over end w) f k = tt

module _ (p : Program) (counted : ℕ → Bool) (calls : Calls) (n : ℕ) where
  pub code_left : (code : Form) → closes code ≡ true → (e : Env) (w : World) → IsLeft (exec (meaning p counted calls) n code e w)
  code_left Done h e w = cc
  code_left (Do place (Return x) k) h e w = tt
  code_left (Do place (Halt x) k) h e w = tt
  code_left (Do place (Assign v x) k) h e w = then_left (does p counted calls (Assign v x) e w) _ (code_left k h)
  code_left (Do place (Load v kind x) k) h e w = then_left (does p counted calls (Load v kind x) e w) _ (code_left k h)
  code_left (Do place (Store width x y) k) h e w = then_left (does p counted calls (Store width x y) e w) _ (code_left k h)
  code_left (Do place (Print spelling x) k) h e w = then_left (does p counted calls (Print spelling x) e w) _ (code_left k h)
  code_left (Do place (Expect check) k) h e w = then_left (does p counted calls (Expect check) e w) _ (code_left k h)
  code_left (Do place Break k) h e w = tt
  code_left (Do place Continue k) h e w = tt
  code_left (Do place (Call v f xs) k) h e w = then_left (does p counted calls (Call v f xs) e w) _ (code_left k h)
  code_left (If place t x y k) h e w = then_left _ _ (code_left k h)
  code_left (Loop place x y k) h e w = then_left _ _ (code_left k h)

-- ---- so it is over

pub record IsOverResult {E : Type 0} (r : Result E) : Type 0 where
  pub end : End
  pub world : World
  pub is : r ≡ Over end world

over_result : {E : Type 0} (r : Result E) → IsOut false r → IsLeft r → IsOverResult r
over_result (At Next e w) h k = absurd k
over_result (At Leaves e w) h k = cc
over_result (At Skips e w) h k = cc
over_result (At Returns e w) h k = absurd h
over_result (Over end w) h k = record { end = end; world = w; is = refl }

pub main_is_over : (p : Program) (counted : ℕ → Bool) (calls : Calls) (n : ℕ) (code : Form) → never_returns code ≡ true → stays false code ≡ true → closes code ≡ true → (e : Env) (w : World) → IsOverResult (exec (meaning p counted calls) n code e w)
main_is_over p counted calls n code h s c e w = over_result _ (code_out p counted calls n false code h s e w) (code_left p counted calls n code c e w)

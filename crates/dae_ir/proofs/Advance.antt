-- Items are only added, and where a bound on turns ran out, so many turns were made.
use Rattle.std.proofs.Common.{length, ◌≡◌, ℕ, zero, suc, ◌+◌, ◌≤◌, Bool, true, false, List, Option, Some, None, if◌then◌else◌, refl, subst, arith}
use Rattle.dae_meaning.specs.Worlds.{World, ticked}
use Rattle.dae_meaning.specs.Results.{Result, At, Over, Next, Leaves, Skips, Returns, Halted, Trapped, Going, Astray, Run, ◌▷◌, ◌↻◌, turns, world_of, checked, within}
use Rattle.dae_base.specs.Words.{width_of}
use Rattle.dae_meaning.specs.Operations.{misplaced}
use Rattle.dae_ir.specs.declared.form.Check.TheVariants.{Room}
use Rattle.dae_ir.specs.Code.{Code, Done, Do, If, Loop, CodeMeaning, exec}
use Rattle.dae_meaning.specs.Variables.{Env}
use Rattle.dae_ir.specs.Form.{value, values, fault, called as with_call, Calls, ended, does, meaning, Program, calls_of}
use Rattle.dae_ir.specs.Laws.{Counting, GoingTakesTurns}
use Rattle.dae_ir.specs.declared.form.Item.{Item}
use Rattle.dae_ir.specs.declared.form.Item.TheVariants.{Assign, Load, Store, Print, Expect, Break, Continue, Call, Return, Halt}

abbrev is_going : {E : Type 0} → Result E → Bool
is_going (At way e w) = false
is_going (Over (Halted status) w) = false
is_going (Over (Trapped code) w) = false
is_going (Over Going w) = true
is_going (Over Astray w) = false

-- from w on
record Advances (n : ℕ) (w : World) {E : Type 0} (r : Result E) : Type 0 where
  items : w.items ≤ (world_of r).items
  turns : is_going r ≡ true → w.items + n ≤ (world_of r).items

module _ {E : Type 0} where
  later : (n : ℕ) (w u : World) (r : Result E) → w.items ≤ u.items → Advances n u r → Advances n w r
  later n w u r h a = record { items = omega (arith, h, a.items); turns = λ g. omega (arith, h, a.turns g) }

  bind_advances : (n : ℕ) (w : World) (r : Result E) (f : Run E) → Advances n w r → ((e : E) (u : World) → Advances n u (f e u)) → Advances n w (r ▷ f)
  bind_advances n w (At Next e u) f h k = later n w u (f e u) h.items (k e u)
  bind_advances n w (At Leaves e u) f h k = h
  bind_advances n w (At Skips e u) f h k = h
  bind_advances n w (At Returns e u) f h k = h
  bind_advances n w (Over end u) f h k = h

  -- d items come first
  loop_advances : (n k d m : ℕ) → d + k ≡ m → m ≤ n → (w u : World) → w.items + d ≤ u.items → (r : Result E) (f : Run E) → Advances n u r → ((e : E) (v : World) → Advances k v (f e v)) → Advances m w (r ↻ f)
  loop_advances n k d m is few w u h r f a b = by r a where
    goes : (e : E) (v : World) → u.items ≤ v.items → Advances m w (f e v)
    goes e v i = let c = b e v in record { items = omega (arith, h, i, c.items); turns = λ g. omega (arith, h, i, is, c.turns g) }

    by : (r : Result E) → Advances n u r → Advances m w (r ↻ f)
    by (At Next e v) a = goes e v a.items
    by (At Leaves e v) a = record { items = omega (arith, h, a.items); turns = λ g. cc }
    by (At Skips e v) a = goes e v a.items
    by (At Returns e v) a = record { items = omega (arith, h, a.items); turns = λ g. cc }
    by (Over end v) a = record { items = omega (arith, h, a.items); turns = λ g. omega (arith, h, few, a.turns g) }

  turns_advance : (n : ℕ) (b c : Run E) → ((e : E) (w : World) → Advances n w (b e w)) → ((e : E) (w : World) → Advances n w (c e w)) → (k : ℕ) → k ≤ n → (e : E) (w : World) → Advances k w (turns b c k e w)
  turns_advance n b c hb hc zero few e w = record { items = omega (arith); turns = λ g. omega (arith) }
  turns_advance n b c hb hc (suc k) few e w =
      loop_advances n k 1 (suc k) (omega (arith)) few w (ticked w) (omega (arith)) (b e (ticked w)) _ (hb e (ticked w))
      (λ e v. loop_advances n k 0 k (omega (arith)) (omega (arith, few)) v v (omega (arith)) (c e v) _ (hc e v) (turns_advance n b c hb hc k (omega (arith, few))))

  choice_advances : (n : ℕ) (w : World) (d : Bool) (r s : Result E) → Advances n w r → Advances n w s → Advances n w (if d then r else s)
  choice_advances n w true r s h k = h
  choice_advances n w false r s h k = k

module _ {M L T E : Type 0} (m : CodeMeaning L T E) (n : ℕ) (items : (item : L) (e : E) (w : World) → Advances n w (m.does item e w)) where
  code_advances : (code : Code M L T) (e : E) (w : World) → Advances n w (exec m n code e w)
  code_advances Done e w = record { items = omega (arith); turns = λ g. cc }
  code_advances (Do mark item k) e w = bind_advances n w (m.does item e w) _ (items item e w) (code_advances k)
  code_advances (If mark t p q k) e w =
      bind_advances n w _ _ (later n w (ticked w) _ (omega (arith)) (choice_advances n (ticked w) (m.holds t e) _ _ (code_advances p e (ticked w)) (code_advances q e (ticked w)))) (code_advances k)
  code_advances (Loop mark b s k) e w =
      bind_advances n w _ _ (turns_advance n (exec m n b) (exec m n s) (code_advances b) (code_advances s) n (omega (arith)) e w) (code_advances k)

checked_advances : (n : ℕ) (o : Option ℕ) (e : Env) (w : World) → Advances n w (checked o e (ticked w))
checked_advances n None e w = record { items = omega (arith); turns = λ g. cc }
checked_advances n (Some code) e w = record { items = omega (arith); turns = λ g. cc }

within_advances : (n : ℕ) (o : Option ℕ) (w : World) (r : Result Env) → Advances n w r → Advances n w (within o w r)
within_advances n None w r h = h
within_advances n (Some code) w r h = record { items = omega (arith); turns = λ g. cc }

ended_advances : (n : ℕ) (got : Env → Env) (w u : World) (r : Result Env) → Advances n u r → w.items ≤ u.items → Advances n w (ended {E = Env} got w r)
ended_advances n got w v (At way e u) h l = record { items = omega (arith, h.items, l); turns = λ g. cc }
ended_advances n got w v (Over end u) h l = record { items = omega (arith, h.items, l); turns = λ g. omega (arith, h.turns g, l) }

module _ (p : Program) (counted : ℕ → Bool) (n : ℕ) (calls : Calls) (called : (f : ℕ) (xs : List ℕ) (w : World) → Advances n w (calls f xs w)) where
  does_advances : (item : Item) (e : Env) (w : World) → Advances n w (does p counted calls item e w)
  does_advances (Assign v x) e w = record { items = omega (arith); turns = λ g. cc }
  does_advances (Load v kind x) e w = within_advances n (misplaced (width_of kind) (value x e) (length w.memory)) w _ (record { items = omega (arith); turns = λ g. cc })
  does_advances (Store width x y) e w = within_advances n (misplaced width (value x e) (length w.memory)) w _ (record { items = omega (arith); turns = λ g. cc })
  does_advances (Print spelling x) e w = record { items = omega (arith); turns = λ g. cc }
  does_advances (Expect check) e w = checked_advances n (fault p check w e) e w
  does_advances Break e w = record { items = omega (arith); turns = λ g. cc }
  does_advances Continue e w = record { items = omega (arith); turns = λ g. cc }
  does_advances (Call v f xs) e w = within_advances n (fault p (Room f) w e) w _ (ended_advances n _ w (with_call xs w) (calls f (values xs e) (with_call xs w)) (called f (values xs e) (with_call xs w)) (omega (arith)))
  does_advances (Return x) e w = record { items = omega (arith); turns = λ g. cc }
  does_advances (Halt x) e w = record { items = omega (arith); turns = λ g. cc }

calls_advance : (p : Program) (counted : Counting) (n limit f : ℕ) (xs : List ℕ) (w : World) → Advances n w (calls_of p counted n limit f xs w)
calls_advance p counted n zero f xs w = record { items = omega (arith); turns = λ g. cc }
calls_advance p counted n (suc limit) f xs w =
    later n w _ _ (omega (arith)) (code_advances (meaning p (counted f) (calls_of p counted n limit)) n (does_advances p (counted f) n (calls_of p counted n limit) (calls_advance p counted n limit)) (p.body f) _ _)

pub going_takes_turns : (p : Program) (counted : Counting) → GoingTakesTurns p counted
going_takes_turns p counted n limit f xs w u is =
    let a = subst (λ (r : Result Env). Advances n w r) is (calls_advance p counted n limit f xs w) in a.turns refl

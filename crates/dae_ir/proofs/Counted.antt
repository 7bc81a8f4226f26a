-- Which loads are counted changes nothing but their number.
use Rattle.std.proofs.Common.{◌≡◌, ℕ, zero, suc, ◌+◌, ◌≤◌, Bool, true, false, List, Option, Some, None, length, if◌then◌else◌, refl, subst, arith}
use Rattle.dae_base.specs.Words.{width_of}
use Rattle.dae_meaning.specs.Worlds.{World, ticked, back, with_loads}
use Rattle.dae_meaning.specs.Results.{Result, At, Next, Leaves, Skips, Returns, Halted, Trapped, Astray, Run, checked, within}
use Rattle.dae_meaning.specs.Alike.{Alike, BothAt, BothOver, FirstStrays, Alikes, LoadsApart, Apart, AtMost, AtLeast}
use Rattle.dae_meaning.specs.Operations.{misplaced}
use Rattle.dae_meaning.specs.Variables.{Env, entered}
use Rattle.dae_meaning.proofs.Laws.{bind_alike, turns_alike, within_both}
use Rattle.dae_ir.specs.Code.{Code, Done, Do, If, Loop, CodeMeaning, exec}
use Rattle.dae_ir.specs.Form.{Program, Calls, value, values, fault, called, ended, does, meaning, with_stored, with_printed, deeper, calls_of}
use Rattle.dae_ir.specs.Laws.{Counting, FewerLoads, IsWithinLoads}
use Rattle.dae_ir.specs.declared.form.Check.{Check}
use Rattle.dae_ir.specs.declared.form.Check.TheVariants.{Place, InBounds, Zero, Room, Frame, Abort}
use Rattle.dae_ir.specs.declared.form.Item.{Item}
use Rattle.dae_ir.specs.declared.form.Item.TheVariants.{Assign, Load, Store, Print, Expect, Break, Continue, Call, Return, Halt}

-- the number after a load that counts by the flag
abbrev counts : Bool → ℕ → ℕ
counts b a = if b then a + 1 else a

-- where the numbers are related by R, they stay so at each load
module _ (R : ℕ → ℕ → Type 0) where
  abbrev Ends : {E : Type 0} → Result E → Result E → Type 0
  Ends {E} r s = Alike (λ (x y : E). x ≡ y) (LoadsApart R) r s

  abbrev Goes : {E : Type 0} → Run E → Run E → Type 0
  Goes {E} f g = (e : E) (w : World) (a b : ℕ) → R a b → Ends (f e (with_loads a w)) (g e (with_loads b w))

  at : {E : Type 0} (f g : Run E) (e : E) (w u : World) → Goes f g → LoadsApart R w u → Ends (f e w) (g e u)
  at f g e w u h (Apart v a b l) = h e v a b l

  any : {E : Type 0} (f g : Run E) → Goes f g → Alikes (λ (x y : E). x ≡ y) (LoadsApart R) f g
  any f g h e x w u q l = subst (λ y. Ends (f e w) (g y u)) q (at f g e w u h l)

  ticks : (w u : World) → LoadsApart R w u → LoadsApart R (ticked w) (ticked u)
  ticks w u (Apart v a b l) = Apart (ticked v) a b l

  both : {E : Type 0} (e : E) (w : World) (a b : ℕ) → R a b → Ends (At Next e (with_loads a w)) (At Next e (with_loads b w))
  both e w a b l = BothAt Next e e (with_loads a w) (with_loads b w) refl (Apart w a b l)

  choice : {E : Type 0} (d : Bool) (r s r' s' : Result E) → Ends r r' → Ends s s' → Ends (if d then r else s) (if d then r' else s')
  choice true r s r' s' h k = h
  choice false r s r' s' h k = k

  module _ {M L T E : Type 0} (m m' : CodeMeaning L T E) (items : (item : L) → Goes (m.does item) (m'.does item)) (same : (t : T) (e : E) → m'.holds t e ≡ m.holds t e) (n : ℕ) where
    code_goes : (code : Code M L T) → Goes (exec m n code) (exec m' n code)
    code_goes Done e w a b l = both e w a b l
    code_goes (Do mark item k) e w a b l =
        bind_alike _ _ (m.does item e (with_loads a w)) (m'.does item e (with_loads b w)) (exec m n k) (exec m' n k) (items item e w a b l) (any _ _ (code_goes k))
    code_goes (If mark t p q k) e w a b l =
        bind_alike _ _ _ _ (exec m n k) (exec m' n k) (rw (same t e) (choice (m.holds t e) _ _ _ _ (code_goes p e (ticked w) a b l) (code_goes q e (ticked w) a b l))) (any _ _ (code_goes k))
    code_goes (Loop mark p q k) e w a b l =
        bind_alike _ _ _ _ (exec m n k) (exec m' n k)
        (turns_alike _ _ ticks (exec m n p) (exec m n q) (exec m' n p) (exec m' n q) (any _ _ (code_goes p)) (any _ _ (code_goes q)) n e e (with_loads a w) (with_loads b w) refl (Apart w a b l)) (any _ _ (code_goes k))

  check_goes : (o : Option ℕ) → Goes {E = Env} (checked o) (checked o)
  check_goes None e w a b l = both e w a b l
  check_goes (Some code) e w a b l = BothOver (Trapped code) (with_loads a w) (with_loads b w) (Apart w a b l)

  gone_back : (w u v : World) (c d : ℕ) → LoadsApart R u v → LoadsApart R (back (with_loads c w) u) (back (with_loads d w) v)
  gone_back w u v c d (Apart x a b l) = Apart (back w x) a b l

  ended_goes : (got : Env → Env) (w : World) (c d : ℕ) (r s : Result Env) → Ends r s → Ends (ended {E = Env} got (with_loads c w) r) (ended {E = Env} got (with_loads d w) s)
  ended_goes got w c d r s (BothAt way e f u v q l) = BothAt Next (got e) (got f) _ _ (rw q refl) (gone_back w u v c d l)
  ended_goes got w c d r s (BothOver end u v l) = BothOver end u v l
  ended_goes got w c d r s (FirstStrays u x) = FirstStrays u _

  module _ (p : Program) (counted more : ℕ → Bool) (step : (v a b : ℕ) → R a b → R (counts (counted v) a) (counts (more v) b)) (calls calls' : Calls)
      (enters : (f : ℕ) (xs : List ℕ) (w : World) (a b : ℕ) → R a b → Ends (calls f xs (with_loads a w)) (calls' f xs (with_loads b w))) where
    -- no check looks at the number
    same_fault : (check : Check) (e : Env) (w : World) (a : ℕ) → fault p check (with_loads a w) e ≡ fault p check w e
    same_fault (Place width x) e w a = refl
    same_fault (InBounds x offset) e w a = refl
    same_fault (Zero x) e w a = refl
    same_fault (Room f) e w a = refl
    same_fault Frame e w a = refl
    same_fault Abort e w a = refl

    placed : (o : Option ℕ) (w : World) (a b : ℕ) (r s : Result Env) → Ends r s → Ends (within o (with_loads a w) r) (within o (with_loads b w) s)
    placed o w a b r s h = within_both _ _ o (with_loads a w) (with_loads b w) r s h

    item_goes : (item : Item) → Goes (does p counted calls item) (does p more calls' item)
    item_goes (Assign v x) e w a b l = both _ (ticked w) a b l
    item_goes (Load v kind x) e w a b l = placed (misplaced (width_of kind) (value x e) (length w.memory)) w a b _ _ (both _ (ticked w) _ _ (step v a b l))
    item_goes (Store width x y) e w a b l = placed (misplaced width (value x e) (length w.memory)) w a b _ _ (both e (with_stored width (value x e) (value y e) w) a b l)
    item_goes (Print spelling x) e w a b l = both e (with_printed spelling (value x e) w) a b l
    item_goes (Expect check) e w a b l = rw (same_fault check e w a, same_fault check e w b) (check_goes (fault p check w e) e (ticked w) a b l)
    item_goes Break e w a b l = BothAt Leaves e e _ _ refl (Apart (ticked w) a b l)
    item_goes Continue e w a b l = BothAt Skips e e _ _ refl (Apart (ticked w) a b l)
    item_goes (Call v f xs) e w a b l = placed (fault p (Room f) w e) w a b _ _ (ended_goes _ w a b _ _ (enters f (values xs e) (called xs w) a b l))
    item_goes (Return x) e w a b l = BothAt Returns _ _ _ _ refl (Apart (ticked w) a b l)
    item_goes (Halt x) e w a b l = BothOver (Halted (value x e)) _ _ (Apart (ticked w) a b l)

  calls_go : (p : Program) (counted more : Counting) → ((f v a b : ℕ) → R a b → R (counts (counted f v) a) (counts (more f v) b)) → (n limit f : ℕ) (xs : List ℕ) (w : World) (a b : ℕ) → R a b
      → Ends (calls_of p counted n limit f xs (with_loads a w)) (calls_of p more n limit f xs (with_loads b w))
  calls_go p counted more step n zero f xs w a b l = BothOver Astray _ _ (Apart w a b l)
  calls_go p counted more step n (suc limit) f xs w a b l =
      code_goes (meaning p (counted f) (calls_of p counted n limit)) (meaning p (more f) (calls_of p more n limit))
      (item_goes p (counted f) (more f) (step f) (calls_of p counted n limit) (calls_of p more n limit) (calls_go p counted more step n limit)) (λ t e. refl) n (p.body f) (entered (λ _. true) 1 xs) (deeper p f w) a b l

fewer_step : (x y : Bool) → (x ≡ true → y ≡ true) → (a b : ℕ) → a ≤ b → counts x a ≤ counts y b
fewer_step true true h a b l = omega (arith, l)
fewer_step true false h a b l = absurd (let z : false ≡ true = h refl in cc)
fewer_step false true h a b l = omega (arith, l)
fewer_step false false h a b l = l

pub fewer_loads : (p : Program) (counted more : Counting) → IsWithinLoads counted more → FewerLoads p counted more
fewer_loads p counted more inside = record {
  fewer = λ n limit f xs w. calls_go AtMost p counted more (λ f v a b l. fewer_step (counted f v) (more f v) (inside f v) a b l) n limit f xs w w.loads w.loads (omega (arith));
  more' = λ n limit f xs w. calls_go AtLeast p more counted (λ f v a b l. fewer_step (counted f v) (more f v) (inside f v) b a l) n limit f xs w w.loads w.loads (omega (arith));
}

-- Code in which variables hold values for loops does what the code does, in the same world, with the same in all other variables.
use Rattle.std.proofs.Common.{◌≡◌, ℕ, zero, suc, Bool, true, false, nat_eq, if◌then◌else◌, List, [], length, Option, Some, None, refl, ap, sym, ◌∙◌, subst}
use Rattle.std.proofs.lemmas.Bool.{eqb-true}
use Rattle.dae_base.specs.Words.{plus, width_of, loaded}
use Rattle.dae_base.specs.declared.Width.TheVariants.{B1}
use Rattle.dae_meaning.specs.Alike.{Alike, BothAt, BothOver, FirstStrays, Alikes, Same}
use Rattle.dae_meaning.specs.Worlds.{World, ticked, fetched, back}
use Rattle.dae_meaning.specs.Results.{Result, At, Over, Next, Leaves, Skips, Returns, Halted, Trapped, Astray, turns, within, checked}
use Rattle.dae_meaning.specs.Variables.{Env, put, entered}
use Rattle.dae_meaning.specs.Operations.{misplaced}
use Rattle.dae_meaning.proofs.Laws.{bind_alike, turns_alike, within_both, alike_weaker}
use Rattle.dae_ir.specs.Code.{Done, Do, If, Loop, exec}
use Rattle.dae_ir.specs.Form.{Form, Program, Calls, value, values, holds, computed, fault, called, ended, does, meaning, with_stored, with_printed, deeper, calls_of, all_loads}
use Rattle.dae_ir.specs.Classes.{has_value, has_check}
use Rattle.dae_ir.specs.declared.form.Value.{Value}
use Rattle.dae_ir.specs.declared.form.Check.{Check}
use Rattle.dae_ir.specs.declared.form.Check.TheVariants.{Place as Good, InBounds, Zero, Room, Frame, Abort}
use Rattle.dae_ir.specs.declared.form.Item.{Item}
use Rattle.dae_ir.specs.declared.form.Item.TheVariants.{Assign, Load, Store, Print, Expect, Break, Continue, Call, Return, Halt}
use Rattle.dae_ir.proofs.Laws.{same_room}
use Rattle.dae_hoist.specs.Hoisted.{found_or, hoisted_item, hoisted_code}
use Rattle.dae_hoist.specs.Kept.{Hoisting, ItemKept, IsKept, is_kept, set_behind}
use Rattle.dae_hoist.specs.Forms.{EndsEqual}
use Rattle.dae_hoist.proofs.Reading.{Agrees, value_same, holds_same, computed_same, values_same}

no_value : {X : Type 0} (x : Value) → Some x ≡ None → X
no_value x h = absurd (let c : Some x ≡ None = h in cc)

module _ (t : Hoisting) (e f : Env) (g : Agrees t e f) where
  -- a variable gets the same
  pub put_agrees : (v x y : ℕ) → x ≡ y → Agrees t (put true v x e) (put true v y f)
  put_agrees v x y same u none = by (nat_eq u v) where
    by : (b : Bool) → (if b then x else e u) ≡ (if b then y else f u)
    by true = same
    by false = g u none

  -- one that holds a value for loops gets anything
  pub held_agrees : (v x y : ℕ) (z : Value) → t.holding v ≡ Some z → Agrees t (put true v x e) (put true v y f)
  held_agrees v x y z held u none = by (nat_eq u v) refl where
    by : (b : Bool) → nat_eq u v ≡ b → (if b then x else e u) ≡ (if b then y else f u)
    by true is = no_value z (sym held ∙ ap (λ (w : ℕ). t.holding w) (sym (eqb-true u v is)) ∙ none)
    by false is = g u none

  -- what is assigned
  assigned_agrees : (v frame : ℕ) (x : Value) → has_value (is_kept t) x ≡ true → Agrees t (put true v (computed x frame e) e) (put true v (computed (found_or (t.holding v) x) frame f) f)
  assigned_agrees v frame x h = by (t.holding v) refl where
    by : (o : Option Value) → t.holding v ≡ o → Agrees t (put true v (computed x frame e) e) (put true v (computed (found_or o x) frame f) f)
    by None is = put_agrees v (computed x frame e) (computed x frame f) (computed_same t e f g x frame h)
    by (Some z) is = held_agrees v (computed x frame e) (computed z frame f) z is

module _ (p q : Program) (frames : (k : ℕ) → q.frame k ≡ p.frame k) (limits : q.limit ≡ p.limit) (bound : ℕ) (calls calls' : Calls)
    (enters : (k : ℕ) (xs : List ℕ) (w : World) → Alike EndsEqual Same (calls k xs w) (calls' k xs w)) (t : Hoisting) where
  abbrev every : ℕ → Bool
  every v = true

  abbrev IsAlike : Result Env → Result Env → Type 0
  IsAlike r s = Alike (Agrees t) Same r s

  module _ (e f : Env) (g : Agrees t e f) (w : World) where
    same_fault : (check : Check) → has_check (is_kept t) check ≡ true → fault p check w e ≡ fault q check w f
    same_fault (Good width x) h = ap (λ (y : ℕ). misplaced width y (length w.memory)) (value_same t e f g x h)
    same_fault (InBounds x offset) h = ap (λ (y : ℕ). misplaced B1 (plus y offset) (length w.memory)) (value_same t e f g x h)
    same_fault (Zero x) h = ap (λ (y : ℕ). if nat_eq y 0 then Some 1 else None) (value_same t e f g x h)
    same_fault (Room k) h = sym (same_room p q frames limits k f w)
    same_fault Frame h = refl
    same_fault Abort h = refl

    checked_alike : (o : Option ℕ) → IsAlike (checked o e (ticked w)) (checked o f (ticked w))
    checked_alike None = BothAt Next e f (ticked w) (ticked w) g refl
    checked_alike (Some code) = BothOver (Trapped code) (ticked w) (ticked w) refl

    ended_alike : (v : ℕ) (r s : Result Env) → Alike EndsEqual Same r s → IsAlike (ended (λ (x : Env). put true v (x 0) e) w r) (ended (λ (x : Env). put true v (x 0) f) w s)
    ended_alike v r s (BothAt way a b w1 w2 same worlds) =
        BothAt Next (put true v (a 0) e) (put true v (b 0) f) (back w w1) (back w w2) (put_agrees t e f g v (a 0) (b 0) same) (ap (λ (u : World). back w u) worlds)
    ended_alike v r s (BothOver end w1 w2 worlds) = BothOver end w1 w2 worlds
    ended_alike v r s (FirstStrays w1 x) = FirstStrays w1 (ended (λ (x : Env). put true v (x 0) f) w x)

    item_alike : (us : List ℕ) (item : Item) → ItemKept t us item → IsAlike (does p every calls item e w) (does q every calls' (hoisted_item t.holding item) f w)
    item_alike us (Assign v x) h =
        BothAt Next (put true v (computed x w.frame e) e) (put true v (computed (found_or (t.holding v) x) w.frame f) f) (ticked w) (ticked w) (assigned_agrees t e f g v w.frame x h.0) refl
    item_alike us (Load v kind x) h =
        subst (λ (y : ℕ). IsAlike (does p every calls (Load v kind x) e w) (within (misplaced (width_of kind) y (length w.memory)) w (At Next (put true v (loaded kind y w.memory) f) (fetched true w)))) (value_same t e f g x h.1)
        (within_both (Agrees t) Same (misplaced (width_of kind) (value x e) (length w.memory)) w w (At Next (put true v (loaded kind (value x e) w.memory) e) (fetched true w)) (At Next (put true v (loaded kind (value x e) w.memory) f) (fetched true w))
        (BothAt Next (put true v (loaded kind (value x e) w.memory) e) (put true v (loaded kind (value x e) w.memory) f) (fetched true w) (fetched true w) (put_agrees t e f g v (loaded kind (value x e) w.memory) (loaded kind (value x e) w.memory) refl) refl))
    item_alike us (Store width x y) h =
        subst (λ (a : ℕ). IsAlike (does p every calls (Store width x y) e w) (within (misplaced width a (length w.memory)) w (At Next f (with_stored width a (value y f) w)))) (value_same t e f g x h.0)
        (subst (λ (b : ℕ). IsAlike (does p every calls (Store width x y) e w) (within (misplaced width (value x e) (length w.memory)) w (At Next f (with_stored width (value x e) b w)))) (value_same t e f g y h.1)
        (within_both (Agrees t) Same (misplaced width (value x e) (length w.memory)) w w (At Next e (with_stored width (value x e) (value y e) w)) (At Next f (with_stored width (value x e) (value y e) w))
        (BothAt Next e f (with_stored width (value x e) (value y e) w) (with_stored width (value x e) (value y e) w) g refl)))
    item_alike us (Print spelling x) h =
        BothAt Next e f (with_printed spelling (value x e) w) (with_printed spelling (value x f) w) g (ap (λ (y : ℕ). with_printed spelling y w) (value_same t e f g x h))
    item_alike us (Expect check) h =
        subst (λ (o : Option ℕ). IsAlike (checked (fault p check w e) e (ticked w)) (checked o f (ticked w))) (same_fault check h) (checked_alike (fault p check w e))
    item_alike us Break h = BothAt Leaves e f (ticked w) (ticked w) g refl
    item_alike us Continue h = BothAt Skips e f (ticked w) (ticked w) g refl
    item_alike us (Call v k xs) h =
        subst (λ (o : Option ℕ). IsAlike (does p every calls (Call v k xs) e w) (within o w (ended (λ (x : Env). put true v (x 0) f) w (calls' k (values xs f) (called xs w))))) (sym (same_room p q frames limits k f w))
        (subst (λ (ys : List ℕ). IsAlike (does p every calls (Call v k xs) e w) (within (fault p (Room k) w e) w (ended (λ (x : Env). put true v (x 0) f) w (calls' k ys (called xs w))))) (values_same t e f g xs h.1)
        (within_both (Agrees t) Same (fault p (Room k) w e) w w (ended (λ (x : Env). put true v (x 0) e) w (calls k (values xs e) (called xs w))) (ended (λ (x : Env). put true v (x 0) f) w (calls' k (values xs e) (called xs w)))
        (ended_alike v (calls k (values xs e) (called xs w)) (calls' k (values xs e) (called xs w)) (enters k (values xs e) (called xs w)))))
    item_alike us (Return x) h =
        BothAt Returns (put true 0 (value x e) e) (put true 0 (value x f) f) (ticked w) (ticked w) (put_agrees t e f g 0 (value x e) (value x f) (value_same t e f g x h)) refl
    item_alike us (Halt x) h =
        subst (λ (y : ℕ). IsAlike (Over (Halted (value x e)) (ticked w)) (Over (Halted y) (ticked w))) (value_same t e f g x h) (BothOver (Halted (value x e)) (ticked w) (ticked w) refl)

  choice_alike : (b : Bool) (r s r' s' : Result Env) → IsAlike r r' → IsAlike s s' → IsAlike (if b then r else s) (if b then r' else s')
  choice_alike true r s r' s' h k = h
  choice_alike false r s r' s' h k = k

  abbrev runs_old : Form → Env → World → Result Env
  runs_old code = exec (meaning p every calls) bound code

  abbrev runs_new : Form → Env → World → Result Env
  runs_new code = exec (meaning q every calls') bound (hoisted_code t.holding code)

  -- the same world, under two names
  in_one_world : (code : Form) → ((e f : Env) → Agrees t e f → (w : World) → IsAlike (runs_old code e w) (runs_new code f w)) → Alikes (Agrees t) Same (runs_old code) (runs_new code)
  in_one_world code h e f w u g worlds = subst (λ (z : World). IsAlike (runs_old code e w) (runs_new code f z)) worlds (h e f g w)

  pub code_alike : (us : List ℕ) (code : Form) → IsKept t us code → (e f : Env) → Agrees t e f → (w : World) → IsAlike (runs_old code e w) (runs_new code f w)
  code_alike us Done h e f g w = BothAt Next e f w w g refl
  code_alike us (Do place item k) h e f g w =
      bind_alike (Agrees t) Same (does p every calls item e w) (does q every calls' (hoisted_item t.holding item) f w) (runs_old k) (runs_new k) (item_alike e f g w us item h.0)
      (in_one_world k (code_alike (set_behind us item) k h.1))
  code_alike us (If place test x y k) h e f g w =
      bind_alike (Agrees t) Same (if holds test e then runs_old x e (ticked w) else runs_old y e (ticked w)) (if holds test f then runs_new x f (ticked w) else runs_new y f (ticked w)) (runs_old k) (runs_new k)
      (subst (λ (b : Bool). IsAlike (if holds test e then runs_old x e (ticked w) else runs_old y e (ticked w)) (if b then runs_new x f (ticked w) else runs_new y f (ticked w))) (holds_same t e f g test h.0)
      (choice_alike (holds test e) (runs_old x e (ticked w)) (runs_old y e (ticked w)) (runs_new x f (ticked w)) (runs_new y f (ticked w)) (code_alike us x h.1 e f g (ticked w)) (code_alike us y h.2 e f g (ticked w))))
      (in_one_world k (code_alike us k h.3))
  code_alike us (Loop place x y k) h e f g w =
      bind_alike (Agrees t) Same (turns (runs_old x) (runs_old y) bound e w) (turns (runs_new x) (runs_new y) bound f w) (runs_old k) (runs_new k)
      (turns_alike (Agrees t) Same (λ w u l. ap (λ (z : World). ticked z) l) (runs_old x) (runs_old y) (runs_new x) (runs_new y) (in_one_world x (code_alike us x h.0)) (in_one_world y (code_alike us y h.1)) bound e f w w g refl)
      (in_one_world k (code_alike us k h.2))

-- ---- whole programs

module _ (p q : Program) (frames : (k : ℕ) → q.frame k ≡ p.frame k) (limits : q.limit ≡ p.limit) (ts : ℕ → Hoisting) (bodies : (k : ℕ) → q.body k ≡ hoisted_code (ts k).holding (p.body k))
    (kept : (k : ℕ) → IsKept (ts k) [] (p.body k)) (result : (k : ℕ) → (ts k).holding 0 ≡ None) where
  abbrev CallsAlike : ℕ → ℕ → Type 0
  CallsAlike n depth = (k : ℕ) (xs : List ℕ) (w : World) → Alike EndsEqual Same (calls_of p all_loads n depth k xs w) (calls_of q all_loads n depth k xs w)

  call_alike : (n depth : ℕ) → CallsAlike n depth → CallsAlike n (suc depth)
  call_alike n depth enters k xs w =
      rw (bodies k, frames k)
      (alike_weaker (Agrees (ts k)) Same EndsEqual Same (λ e f g. g 0 (result k)) (λ w u l. l) _ _
      (code_alike p q frames limits n (calls_of p all_loads n depth) (calls_of q all_loads n depth) enters (ts k) [] (p.body k) (kept k) (entered (λ _. true) 1 xs) (entered (λ _. true) 1 xs) (λ v none. refl) (deeper p k w)))

  pub calls_alike : (n depth : ℕ) → CallsAlike n depth
  calls_alike n zero k xs w = BothOver Astray w w refl
  calls_alike n (suc depth) k xs w = call_alike n depth (calls_alike n depth) k xs w

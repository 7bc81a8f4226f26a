-- How many items were executed changes nothing of what comes behind.
use Rattle.std.proofs.Common.{◌≡◌, ℕ, zero, suc, ◌+◌, ◌≤◌, Bool, true, false, List, Option, Some, None, length, if◌then◌else◌, refl, ap, sym, ◌∙◌, subst, arith}
use Rattle.dae_base.specs.Words.{width_of, loaded}
use Rattle.dae_meaning.specs.Worlds.{World, ticked, fetched, back}
use Rattle.dae_meaning.specs.Results.{Result, At, Next, Leaves, Skips, Returns, Halted, Trapped, Astray, Run, checked, within}
use Rattle.dae_meaning.specs.Alike.{Alike, BothAt, BothOver, FirstStrays, Alikes}
use Rattle.dae_meaning.specs.Operations.{misplaced}
use Rattle.dae_meaning.specs.Variables.{Env, put, entered}
use Rattle.dae_meaning.proofs.Laws.{bind_alike, turns_alike, within_both, alike_then, alike_weaker}
use Rattle.dae_ir.specs.Code.{Done, Do, If, Loop, exec}
use Rattle.dae_ir.specs.Form.{Form, Program, Calls, value, values, computed, holds, fault, called, ended, does, meaning, with_stored, with_printed, deeper, calls_of, all_loads}
use Rattle.dae_ir.specs.Laws.{SameVariables}
use Rattle.dae_ir.specs.declared.form.Check.{Check}
use Rattle.dae_ir.specs.declared.form.Check.TheVariants.{Place as Good, InBounds, Zero, Room, Frame, Abort}
use Rattle.dae_ir.specs.declared.form.Item.{Item}
use Rattle.dae_ir.specs.declared.form.Item.TheVariants.{Assign, Load, Store, Print, Expect, Break, Continue, Call, Return, Halt}
use Rattle.dae_ir.proofs.Laws.{same_room}
use Rattle.dae_threads.specs.Forms.{HasNoMoreItems, having_done}

-- ---- worlds

pub no_more : (w : World) (a b : ℕ) → b ≤ a → HasNoMoreItems (having_done a w) (having_done b w)
no_more w a b l = record { items = l; rest = refl }

more : (n a b : ℕ) → b ≤ a → b + n ≤ a + n
more n a b l = omega (arith, l)

pub further_items : (w u v : World) → HasNoMoreItems w u → HasNoMoreItems u v → HasNoMoreItems w v
further_items w u v h k = record {
  items = (let few = h.items in let fewer = k.items in omega (arith, few, fewer));
  rest = k.rest ∙ ap (λ (z : World). having_done v.items z) h.rest;
}

pub ticks : (w u : World) → HasNoMoreItems w u → HasNoMoreItems (ticked w) (ticked u)
ticks w u h = record { items = more 1 w.items u.items h.items; rest = ap (λ (z : World). ticked z) h.rest }

gone_back : (w u v : World) → HasNoMoreItems u v → HasNoMoreItems (back w u) (back w v)
gone_back w u v h = record { items = h.items; rest = ap (λ (z : World). back w z) h.rest }

-- ---- ends

-- with the same variables, and no more items
abbrev pub Ends : Result Env → Result Env → Type 0
Ends r s = Alike SameVariables HasNoMoreItems r s

abbrev pub Goes : Run Env → Run Env → Type 0
Goes f g = (e : Env) (w : World) (a b : ℕ) → b ≤ a → Ends (f e (having_done a w)) (g e (having_done b w))

pub any : (f g : Run Env) → Goes f g → Alikes SameVariables HasNoMoreItems f g
any f g h e x w u same l =
    let go : Ends (f e w) (g e (having_done u.items w)) = h e w w.items u.items l.items in
    subst (λ (y : Env). Ends (f e w) (g y u)) same (subst (λ (z : World). Ends (f e w) (g e z)) (sym l.rest) go)

variables_on : (e g : Env) → (f : Env) × SameVariables e f × SameVariables f g → SameVariables e g
variables_on e g h = h.1 ∙ h.2

pub items_then : (w v : World) → (u : World) × HasNoMoreItems w u × HasNoMoreItems u v → HasNoMoreItems w v
items_then w v h = further_items w h.0 v h.1 h.2

ends_then : (r s t : Result Env) → Ends r s → Ends s t → Ends r t
ends_then r s t h k = alike_weaker _ _ SameVariables HasNoMoreItems variables_on items_then r t (alike_then SameVariables HasNoMoreItems SameVariables HasNoMoreItems r s t h k)

pub goes_then : (f g h : Run Env) → Goes f g → Goes g h → Goes f h
goes_then f g h first second e w a b l =
    let same : a ≤ a = omega arith in
    ends_then (f e (having_done a w)) (g e (having_done a w)) (h e (having_done b w)) (first e w a a same) (second e w a b l)

next : (e : Env) (w : World) (a b : ℕ) → b ≤ a → Ends (At Next e (having_done a w)) (At Next e (having_done b w))
next e w a b l = BothAt Next e e (having_done a w) (having_done b w) refl (no_more w a b l)

pub choice_goes : (d : Bool) (r s r' s' : Result Env) → Ends r r' → Ends s s' → Ends (if d then r else s) (if d then r' else s')
choice_goes true r s r' s' h k = h
choice_goes false r s r' s' h k = k

check_goes : (o : Option ℕ) (e : Env) (w : World) (a b : ℕ) → b ≤ a → Ends (checked o e (having_done a w)) (checked o e (having_done b w))
check_goes None e w a b l = next e w a b l
check_goes (Some code) e w a b l = BothOver (Trapped code) (having_done a w) (having_done b w) (no_more w a b l)

ended_goes : (v : ℕ) (e : Env) (w : World) (a b : ℕ) (r s : Result Env) → Ends r s → Ends (ended (λ (x : Env). put true v (x 0) e) (having_done a w) r) (ended (λ (x : Env). put true v (x 0) e) (having_done b w) s)
ended_goes v e w a b r s (BothAt way x y u z same l) =
    BothAt Next (put true v (x 0) e) (put true v (y 0) e) (back w u) (back w z) (ap (λ (f : Env). put true v (f 0) e) same) (gone_back w u z l)
ended_goes v e w a b r s (BothOver end u z l) = BothOver end u z l
ended_goes v e w a b r s (FirstStrays u z) = FirstStrays u (ended (λ (x : Env). put true v (x 0) e) (having_done b w) z)

-- what code does in a program
abbrev pub runs : Program → (ℕ → Bool) → Calls → ℕ → Form → Run Env
runs p counted calls n code = exec (meaning p counted calls) n code

-- ---- items

abbrev pub CallsGo : Calls → Calls → Type 0
CallsGo calls calls' = (f : ℕ) (xs : List ℕ) (w : World) (a b : ℕ) → b ≤ a → Ends (calls f xs (having_done a w)) (calls' f xs (having_done b w))

module _ (p q : Program) (frames : (k : ℕ) → q.frame k ≡ p.frame k) (limits : q.limit ≡ p.limit) (counted : ℕ → Bool) (calls calls' : Calls) (enters : CallsGo calls calls') where
  same_fault : (check : Check) (e : Env) (w : World) (a b : ℕ) → fault q check (having_done b w) e ≡ fault p check (having_done a w) e
  same_fault (Good width x) e w a b = refl
  same_fault (InBounds x offset) e w a b = refl
  same_fault (Zero x) e w a b = refl
  same_fault (Room f) e w a b = same_room p q frames limits f e w
  same_fault Frame e w a b = refl
  same_fault Abort e w a b = refl

  placed : (o : Option ℕ) (w : World) (a b : ℕ) (r s : Result Env) → Ends r s → Ends (within o (having_done a w) r) (within o (having_done b w) s)
  placed o w a b r s h = within_both SameVariables HasNoMoreItems o (having_done a w) (having_done b w) r s h

  pub item_goes : (item : Item) → Goes (does p counted calls item) (does q counted calls' item)
  item_goes (Assign v x) e w a b l = next (put true v (computed x w.frame e) e) w (a + 1) (b + 1) (more 1 a b l)
  item_goes (Load v kind x) e w a b l =
      placed (misplaced (width_of kind) (value x e) (length w.memory)) w a b _ _ (next (put true v (loaded kind (value x e) w.memory) e) (fetched (counted v) w) (a + 1) (b + 1) (more 1 a b l))
  item_goes (Store width x y) e w a b l =
      placed (misplaced width (value x e) (length w.memory)) w a b _ _ (next e (with_stored width (value x e) (value y e) w) (a + 1) (b + 1) (more 1 a b l))
  item_goes (Print spelling x) e w a b l = next e (with_printed spelling (value x e) w) (a + 1) (b + 1) (more 1 a b l)
  item_goes (Expect check) e w a b l =
      subst (λ (o : Option ℕ). Ends (checked (fault p check (having_done a w) e) e (ticked (having_done a w))) (checked o e (ticked (having_done b w)))) (sym (same_fault check e w a b))
      (check_goes (fault p check (having_done a w) e) e w (a + 1) (b + 1) (more 1 a b l))
  item_goes Break e w a b l = BothAt Leaves e e (having_done (a + 1) w) (having_done (b + 1) w) refl (no_more w (a + 1) (b + 1) (more 1 a b l))
  item_goes Continue e w a b l = BothAt Skips e e (having_done (a + 1) w) (having_done (b + 1) w) refl (no_more w (a + 1) (b + 1) (more 1 a b l))
  item_goes (Call v f xs) e w a b l =
      subst (λ (o : Option ℕ). Ends (does p counted calls (Call v f xs) e (having_done a w)) (within o (having_done b w) (ended (λ (x : Env). put true v (x 0) e) (having_done b w) (calls' f (values xs e) (called xs (having_done b w))))))
      (sym (same_fault (Room f) e w a b))
      (placed (fault p (Room f) (having_done a w) e) w a b _ _
      (ended_goes v e w a b (calls f (values xs e) (called xs (having_done a w))) (calls' f (values xs e) (called xs (having_done b w)))
      (enters f (values xs e) w (a + (2 + length xs)) (b + (2 + length xs)) (more (2 + length xs) a b l))))
  item_goes (Return x) e w a b l = BothAt Returns (put true 0 (value x e) e) (put true 0 (value x e) e) (having_done (a + 1) w) (having_done (b + 1) w) refl (no_more w (a + 1) (b + 1) (more 1 a b l))
  item_goes (Halt x) e w a b l = BothOver (Halted (value x e)) (having_done (a + 1) w) (having_done (b + 1) w) (no_more w (a + 1) (b + 1) (more 1 a b l))

  -- ---- code

  module _ (n : ℕ) where
    abbrev old : Form → Run Env
    old code = runs p counted calls n code

    abbrev new : Form → Run Env
    new code = runs q counted calls' n code

    pub code_goes : (code : Form) → Goes (old code) (new code)
    code_goes Done e w a b l = next e w a b l
    code_goes (Do place item k) e w a b l =
        bind_alike SameVariables HasNoMoreItems (does p counted calls item e (having_done a w)) (does q counted calls' item e (having_done b w)) (old k) (new k) (item_goes item e w a b l) (any (old k) (new k) (code_goes k))
    code_goes (If place t x y k) e w a b l =
        bind_alike SameVariables HasNoMoreItems _ _ (old k) (new k)
        (choice_goes (holds t e) _ _ _ _ (code_goes x e w (a + 1) (b + 1) (more 1 a b l)) (code_goes y e w (a + 1) (b + 1) (more 1 a b l))) (any (old k) (new k) (code_goes k))
    code_goes (Loop place x y k) e w a b l =
        bind_alike SameVariables HasNoMoreItems _ _ (old k) (new k)
        (turns_alike SameVariables HasNoMoreItems ticks (old x) (old y) (new x) (new y) (any (old x) (new x) (code_goes x)) (any (old y) (new y) (code_goes y)) n e e (having_done a w) (having_done b w) refl (no_more w a b l))
        (any (old k) (new k) (code_goes k))

-- ---- a program with itself

pub itself_goes : (p : Program) (n limit : ℕ) → CallsGo (calls_of p all_loads n limit) (calls_of p all_loads n limit)
itself_goes p n zero f xs w a b l = BothOver Astray (having_done a w) (having_done b w) (no_more w a b l)
itself_goes p n (suc limit) f xs w a b l =
    code_goes p p (λ k. refl) refl (all_loads f) (calls_of p all_loads n limit) (calls_of p all_loads n limit) (itself_goes p n limit) n (p.body f) (entered (λ _. true) 1 xs) (deeper p f w) a b l

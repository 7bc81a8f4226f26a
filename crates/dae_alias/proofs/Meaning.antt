-- Reuse keeps the meaning.
use Rattle.std.proofs.Common.{◌≡◌, ℕ, zero, suc, ◌+◌, ◌^◌, ◌<◌, ◌≤◌, Bool, true, false, ◌||◌, nat_eq, if◌then◌else◌, List, [], ◌∷◌, ◌++◌, length, Option, Some, None, refl, ap, sym, ◌∙◌, subst, arith}
use Rattle.std.specs.Prelude.{nat_lt}
use Rattle.std.specs.List.{AllByRecursion}
use Rattle.dae_base.specs.Words.{plus, size, width_of, loaded, stored, extended}
use Rattle.dae_base.specs.declared.Place.{Place}
use Rattle.dae_base.specs.declared.Width.{Width}
use Rattle.dae_base.specs.declared.Width.TheVariants.{B1}
use Rattle.dae_base.specs.declared.LoadKind.{LoadKind}
use Rattle.dae_base.proofs.Laws.{stored_length}
use Rattle.dae_meaning.specs.Worlds.{World, ticked, fetched, back}
use Rattle.dae_meaning.specs.Results.{Result, At, Next, Leaves, Skips, Returns, Halted, Trapped, Astray, Run, ◌▷◌, within, checked}
use Rattle.dae_meaning.specs.Alike.{Alike, BothAt, BothOver, FirstStrays, Alikes}
use Rattle.dae_meaning.specs.Variables.{Env, put, entered}
use Rattle.dae_meaning.specs.Operations.{misplaced, spelled, passed}
use Rattle.dae_meaning.proofs.Laws.{bind_alike, turns_alike, within_both, alike_weaker}
use Rattle.dae_ir.specs.Code.{Done, Do, If, Loop, exec, Each}
use Rattle.dae_ir.specs.Form.{Form, Program, Calls, value, values, holds, computed, fault, called, ended, does, meaning, with_stored, deeper, calls_of, all_loads}
use Rattle.dae_ir.specs.Scope.{IsIn, ValueIn, TestIn, CheckIn, ItemIn}
use Rattle.dae_ir.specs.declared.form.Operand.{Operand}
use Rattle.dae_ir.specs.declared.form.Operand.TheVariants.{Variable, Number}
use Rattle.dae_ir.specs.declared.form.Value.{Value}
use Rattle.dae_ir.specs.declared.form.Value.TheVariants as val
use Rattle.dae_ir.specs.declared.form.Test.{Test}
use Rattle.dae_ir.specs.declared.form.Check.{Check}
use Rattle.dae_ir.specs.declared.form.Check.TheVariants.{Place as Good, InBounds, Zero, Room, Frame, Abort}
use Rattle.dae_ir.specs.declared.form.Function.{Function}
use Rattle.dae_ir.specs.declared.form.Item.TheVariants.{Assign, Load, Store, Print, Expect, Break, Continue, Call, Return, Halt}
use Rattle.dae_alias.specs.Stretches.{KnownInStretch, nothing, symbol, followed, renewed, after, set}
use Rattle.dae_alias.specs.declared.held.Held.{Held}
use Rattle.dae_alias.specs.Reuse.{Holders, held_in, still_held, copy, loads_in, reused, turned, number_of, known_behind, held_behind}
use Rattle.dae_alias.specs.Laws.{counted, Cheaper, Costs, SameBelow, SameResult, IsReused, ReuseKeepsMeaning}
use Rattle.dae_alias.proofs.Words.{placed_within}
use Rattle.dae_alias.proofs.Facts.{Means, Facts, begins, sets, hides, below_other, operand_means, follows, held_stored, found, facts_more, spares_old, spares_new, load_met, put_here, some_is}

-- ---- variables below n that hold the same

module _ (n : ℕ) (e f : Env) (q : SameBelow n e f) where
  value_same : (x : Operand) → IsIn n x → value x e ≡ value x f
  value_same (Variable v) i = q v i
  value_same (Number k) i = refl

  holds_same : (t : Test) → TestIn n t → holds t e ≡ holds t f
  holds_same t i = rw (value_same t.left i.0, value_same t.right i.1) refl

  computed_same : (x : Value) (frame : ℕ) → ValueIn n x → computed x frame e ≡ computed x frame f
  computed_same (val.Same x) frame i = value_same x i
  computed_same (val.Extended kind x) frame i = ap (λ (a : ℕ). extended kind a) (value_same x i)
  computed_same (val.Binary operator x y) frame i = rw (value_same x i.0, value_same y i.1) refl
  computed_same (val.Holds t) frame i = ap (λ (b : Bool). if b then 1 else 0) (holds_same t i)
  computed_same (val.FrameAddress offset) frame i = refl

  values_same : (xs : List Operand) → AllByRecursion (IsIn n) xs → values xs e ≡ values xs f
  values_same [] i = refl
  values_same (x ∷ xs) i = rw (value_same x i.0, values_same xs i.1) refl

if_same : (b : Bool) (y x z : ℕ) → x ≡ z → (if b then y else x) ≡ (if b then y else z)
if_same true y x z h = refl
if_same false y x z h = h

put_same : (n v y : ℕ) (e f : Env) → SameBelow n e f → SameBelow n (put true v y e) (put true v y f)
put_same n v y e f q w small = if_same (nat_eq w v) y (e w) (f w) (q w small)

put_two : (n v y z : ℕ) (e f : Env) → y ≡ z → SameBelow n e f → SameBelow n (put true v y e) (put true v z f)
put_two n v y z e f same q = subst (λ (a : ℕ). SameBelow n (put true v y e) (put true v a f)) same (put_same n v y e f q)

put_hidden : (n u y : ℕ) (e f : Env) → n ≤ u → SameBelow n e f → SameBelow n e (put true u y f)
put_hidden n u y e f large same w small = rw (below_other w u n small large) (same w small)

-- ---- one function

module _ (functions : List Function) (p q : Program) (frames : (g : ℕ) → q.frame g ≡ p.frame g) (limits : q.limit ≡ p.limit) (n : ℕ) (bound : ℕ) (calls calls' : Calls)
    (enters : (g : ℕ) (xs : List ℕ) (w u : World) → Cheaper w u → Alike SameResult Cheaper (calls g xs w) (calls' g xs u))
    (h : Holders) (apart : (i j u : ℕ) → h i ≡ Some u → h j ≡ Some u → i ≡ j) (own : (i u : ℕ) → h i ≡ Some u → n ≤ u) where
  abbrev every : ℕ → Bool
  every v = true

  abbrev Ends : Result Env → Result Env → Type 0
  Ends r s = Alike (SameBelow n) Cheaper r s

  abbrev old : Form → Run Env
  old code = exec (meaning p every calls) bound code

  abbrev new : Form → Run Env
  new code = exec (meaning q every calls') bound code

  ticks : (w u : World) → Cheaper w u → Cheaper (ticked w) (ticked u)
  ticks w u (Costs v i l j k fits few cheap) = Costs v (i + 1) l (j + 1) k fits few (omega (arith, cheap))

  same_room : (g : ℕ) (e f : Env) (w : World) (i l j k : ℕ) → fault p (Room g) (counted i l w) e ≡ fault q (Room g) (counted j k w) f
  same_room g e f w i l j k =
      sym (ap (λ (limit : ℕ). passed (nat_lt limit (w.depth + 1) || nat_lt (length w.memory) (w.top + q.frame g))) limits
      ∙ ap (λ (frame : ℕ). passed (nat_lt p.limit (w.depth + 1) || nat_lt (length w.memory) (w.top + frame))) (frames g))

  same_fault : (check : Check) → CheckIn (length functions) n check → (e f : Env) → SameBelow n e f → (w : World) (i l j k : ℕ) → fault p check (counted i l w) e ≡ fault q check (counted j k w) f
  same_fault (Good width x) c e f s w i l j k = ap (λ (a : ℕ). misplaced width a (length w.memory)) (value_same n e f s x c)
  same_fault (InBounds x offset) c e f s w i l j k = ap (λ (a : ℕ). misplaced B1 (plus a offset) (length w.memory)) (value_same n e f s x c.0)
  same_fault (Zero x) c e f s w i l j k = ap (λ (a : ℕ). if nat_eq a 0 then Some 1 else None) (value_same n e f s x c)
  same_fault (Room g) c e f s w i l j k = same_room g e f w i l j k
  same_fault Frame c e f s w i l j k = refl
  same_fault Abort c e f s w i l j k = refl

  -- ---- items that end a stretch

  gone_back : (w u v : World) (i l j k : ℕ) → Cheaper u v → Cheaper (back (counted i l w) u) (back (counted j k w) v)
  gone_back w u v i l j k (Costs x a b c d fits few cheap) = Costs (back w x) a b c d fits few cheap

  ended_goes : (v : ℕ) (e f : Env) → SameBelow n e f → (w : World) (i l j k : ℕ) (r s : Result Env) → Alike SameResult Cheaper r s
      → Ends (ended (λ (x : Env). put true v (x 0) e) (counted i l w) r) (ended (λ (x : Env). put true v (x 0) f) (counted j k w) s)
  ended_goes v e f s w i l j k r t (BothAt way x y a b same c) = BothAt Next _ _ _ _ (put_two n v (x 0) (y 0) e f same s) (gone_back w a b i l j k c)
  ended_goes v e f s w i l j k r t (BothOver end a b c) = BothOver end a b c
  ended_goes v e f s w i l j k r t (FirstStrays a x) = FirstStrays a _

  call_goes : (v g : ℕ) (xs : List Operand) → AllByRecursion (IsIn n) xs → (e f : Env) → SameBelow n e f → (w : World) (i l j k : ℕ) → length w.memory ≤ 2 ^ 32 → k ≤ l → j ≤ i + l
      → Ends (does p every calls (Call v g xs) e (counted i l w)) (does q every calls' (Call v g xs) f (counted j k w))
  call_goes v g xs names e f s w i l j k fits few cheap =
      subst (λ (o : Option ℕ). Ends (does p every calls (Call v g xs) e (counted i l w)) (within o (counted j k w) (ended (λ (x : Env). put true v (x 0) f) (counted j k w) (calls' g (values xs f) (called xs (counted j k w))))))
      (same_room g e f w i l j k)
      (within_both _ _ (fault p (Room g) (counted i l w) e) (counted i l w) (counted j k w) _ _
      (ended_goes v e f s w i l j k _ _
      (subst (λ (ys : List ℕ). Alike SameResult Cheaper (calls g (values xs e) (called xs (counted i l w))) (calls' g ys (called xs (counted j k w)))) (values_same n e f s xs names)
      (enters g (values xs e) (called xs (counted i l w)) (called xs (counted j k w)) (Costs w (i + (2 + length xs)) l (j + (2 + length xs)) k fits few (omega (arith, cheap)))))))

  -- ---- a stretch

  -- it goes on alike, whatever is known and held, where that is true
  abbrev Goes : Form → (ℕ → KnownInStretch → List Held → Form) → Type 0
  Goes code code' =
      (s : KnownInStretch) (held : List Held) (l : ℕ) (e f : Env) (w : World) (i a j b : ℕ) → length w.memory ≤ 2 ^ 32 → b ≤ a → j ≤ i + a →
      SameBelow n e f → Facts h n s held l w.frame f w.memory → Ends (old code e (counted i a w)) (new (code' l s held) f (counted j b w))

  -- as at a stretch's start
  anew : (code code' : Form) → ((e f : Env) (w : World) (i a j b : ℕ) → length w.memory ≤ 2 ^ 32 → b ≤ a → j ≤ i + a → SameBelow n e f → Ends (old code e (counted i a w)) (new code' f (counted j b w)))
      → Alikes (SameBelow n) Cheaper (old code) (new code')
  anew code code' goes e f w u s c = by w u c where
    by : (w u : World) → Cheaper w u → Ends (old code e w) (new code' f u)
    by w u (Costs v i a j b fits few cheap) = goes e f v i a j b fits few cheap s

  -- ---- loads

  module _ (place : Place) (v : ℕ) (kind : LoadKind) (x : Operand) (k : Form) (k' : ℕ → KnownInStretch → List Held → Form) (rest : Goes k k') (small : v < n) (named : IsIn n x) where
    abbrev width : Width
    width = width_of kind

    -- the load's address is a
    abbrev loads_at : ℕ → Env → World → Result Env
    loads_at a e w = within (misplaced width a (length w.memory)) w (At Next (put true v (loaded kind a w.memory) e) (fetched true w)) ▷ old k

    module _ (s : KnownInStretch) (held : List Held) (l : ℕ) (e f : Env) (w : World) (i a j b : ℕ) (fits : length w.memory ≤ 2 ^ 32) (few : b ≤ a) (cheap : j ≤ i + a)
        (same : SameBelow n e f) (facts : Facts h n s held l w.frame f w.memory) where
      abbrev y : ℕ
      y = loaded kind (value x f) w.memory

      address : Means facts.past w.frame s.times (value x f) (symbol s x)
      address = operand_means n facts.past w.frame s f facts.values x named

      abbrev Loads : Form → Type 0
      Loads code = Ends (loads_at (value x f) e (counted i a w)) (new code f (counted j b w))

      -- the load is executed, and then it goes on
      plain : (s' : KnownInStretch) (held' : List Held) → (misplaced width (value x f) (length w.memory) ≡ None → Facts h n s' held' (suc l) w.frame (put true v y f) w.memory) → Loads (Do place (Load v kind x) (k' (suc l) s' held'))
      plain s' held' then' = by (misplaced width (value x f) (length w.memory)) refl where
        by : (o : Option ℕ) → misplaced width (value x f) (length w.memory) ≡ o
            → Ends (within o (counted i a w) (At Next (put true v y e) (fetched true (counted i a w))) ▷ old k)
            (within o (counted j b w) (At Next (put true v y f) (fetched true (counted j b w))) ▷ new (k' (suc l) s' held'))
        by (Some code) placed = FirstStrays (counted i a w) _
        by None placed = rest s' held' (suc l) _ _ w (i + 1) (a + 1) (j + 1) (b + 1) fits (omega (arith, few)) (omega (arith, cheap)) (put_same n v y e f same) (then' placed)

      -- what it loads is in u, and is copied
      copies : (u : ℕ) (s' : KnownInStretch) (held' : List Held) → (misplaced width (value x f) (length w.memory) ≡ None → (f u ≡ y) × Facts h n s' held' (suc l) w.frame (put true v y f) w.memory)
          → Loads (Do place (copy v u) (k' (suc l) s' held'))
      copies u s' held' then' = by (misplaced width (value x f) (length w.memory)) refl where
        by : (o : Option ℕ) → misplaced width (value x f) (length w.memory) ≡ o
            → Ends (within o (counted i a w) (At Next (put true v y e) (fetched true (counted i a w))) ▷ old k) (new (Do place (copy v u) (k' (suc l) s' held')) f (counted j b w))
        by (Some code) placed = FirstStrays (counted i a w) _
        by None placed =
            let t = then' placed in
            rest s' held' (suc l) (put true v y e) (put true v (f u) f) w (i + 1) (a + 1) (j + 1) b fits (omega (arith, few)) (omega (arith, cheap))
            (put_two n v y (f u) e f (sym t.0) same) (subst (λ (z : ℕ). Facts h n s' held' (suc l) w.frame (put true v z f) w.memory) (sym t.0) t.1)

      -- it goes into u, and is copied
      splits : (u : ℕ) (s' : KnownInStretch) (held' : List Held) → n ≤ u
          → (misplaced width (value x f) (length w.memory) ≡ None → Facts h n s' held' (suc l) w.frame (put true v y (put true u y f)) w.memory) → Loads (Do place (Load u kind x) (Do place (copy v u) (k' (suc l) s' held')))
      splits u s' held' far then' = by (misplaced width (value x f) (length w.memory)) refl where
        by : (o : Option ℕ) → misplaced width (value x f) (length w.memory) ≡ o
            → Ends (within o (counted i a w) (At Next (put true v y e) (fetched true (counted i a w))) ▷ old k)
            (within o (counted j b w) (At Next (put true u y f) (fetched true (counted j b w))) ▷ new (Do place (copy v u) (k' (suc l) s' held')))
        by (Some code) placed = FirstStrays (counted i a w) _
        by None placed =
            let f' : Env = put true u y f in
            let here : f' u ≡ y = put_here u y f in
            rest s' held' (suc l) (put true v y e) (put true v (f' u) f') w (i + 1) (a + 1) (j + 1 + 1) (b + 1) fits (omega (arith, few)) (omega (arith, cheap))
            (put_two n v y (f' u) e f' (sym here) (put_hidden n u y e f far same))
            (subst (λ (z : ℕ). Facts h n s' held' (suc l) w.frame (put true v z f') w.memory) (sym here) (then' placed))

      room : misplaced width (value x f) (length w.memory) ≡ None → value x f + size width ≤ length w.memory
      room placed = placed_within width (value x f) (length w.memory) placed

      -- a load that is held
      again : (g : Held) → held_in held kind (symbol s x) ≡ Some g → misplaced width (value x f) (length w.memory) ≡ None → Facts h n (set s v (Some g.value)) held (suc l) w.frame (put true v y f) w.memory
      again g is placed =
          let z = found h facts.past w.frame s.times l f w.memory held kind (symbol s x) g is facts.kept in
          facts_more h n (set s v (Some g.value)) held l w.frame _ w.memory
          (sets h n s held l w.frame f w.memory v y (Some g.value) (spares_old h apart n own l v small) facts (record { agree = z.finds (value x f) address.agree (room placed); old = z.old_value }))

      load_by : (given : Option Held) (holder : Option ℕ) → held_in held kind (symbol s x) ≡ given → h (number_of given l) ≡ holder
          → Loads (turned place v kind x given holder (k' (suc l) (known_behind s v given) (held_behind s held l v kind x given)))
      load_by None None is mine =
          plain (set s v None) (record { kind = kind; at = symbol s x; value = renewed s v; number = l } ∷ held)
          (λ placed. load_met h n s held l w.frame f w.memory v (value x f) kind (symbol s x) fits (spares_old h apart n own l v small)
          (λ u it. absurd (let e : None ≡ Some u = sym mine ∙ it in cc)) (room placed) facts address)
      load_by (Some g) None is mine = plain (set s v (Some g.value)) held (again g is)
      load_by None (Some u) is mine =
          let far = own l u mine in
          splits u (set s v None) (record { kind = kind; at = symbol s x; value = renewed s v; number = l } ∷ held) far
          (λ placed. load_met h n s held l w.frame (put true u y f) w.memory v (value x f) kind (symbol s x) fits (spares_old h apart n own l v small)
          (λ u' it. (let e : u ≡ u' = some_is u u' (sym mine ∙ it) in
          subst (λ (z : ℕ). (nat_eq z v ≡ false) × (put true u y f z ≡ y)) e (spares_old h apart n own (suc l) v small l u (omega arith) mine, put_here u y f)))
          (room placed) (hides h n s held l w.frame f w.memory u y far (spares_new h apart n own l u mine) facts) address)
      load_by (Some g) (Some u) is mine =
          copies u (set s v (Some g.value)) held
          (λ placed. (let z = found h facts.past w.frame s.times l f w.memory held kind (symbol s x) g is facts.kept in z.holds u mine (value x f) address.agree (room placed), again g is placed))

    load_goes : (s : KnownInStretch) (held : List Held) (l : ℕ) (e f : Env) (w : World) (i a j b : ℕ) → length w.memory ≤ 2 ^ 32 → b ≤ a → j ≤ i + a
        → SameBelow n e f → Facts h n s held l w.frame f w.memory
        → Ends (loads_at (value x e) e (counted i a w))
        (new (turned place v kind x (held_in held kind (symbol s x)) (h (number_of (held_in held kind (symbol s x)) l))
        (k' (suc l) (known_behind s v (held_in held kind (symbol s x))) (held_behind s held l v kind x (held_in held kind (symbol s x))))) f (counted j b w))
    load_goes s held l e f w i a j b fits few cheap same facts =
        subst (λ (z : ℕ). Ends (loads_at z e (counted i a w)) (new (turned place v kind x (held_in held kind (symbol s x)) (h (number_of (held_in held kind (symbol s x)) l))
        (k' (suc l) (known_behind s v (held_in held kind (symbol s x))) (held_behind s held l v kind x (held_in held kind (symbol s x))))) f (counted j b w)))
        (sym (value_same n e f same x named)) (load_by s held l e f w i a j b fits few cheap same facts (held_in held kind (symbol s x)) (h (number_of (held_in held kind (symbol s x)) l)) refl refl)

  -- ---- stores

  store_goes : (place : Place) (width : Width) (x y : Operand) (k : Form) (k' : ℕ → KnownInStretch → List Held → Form) → Goes k k' → IsIn n x → IsIn n y
      → (s : KnownInStretch) (held : List Held) (l : ℕ) (e f : Env) (w : World) (i a j b : ℕ) → length w.memory ≤ 2 ^ 32 → b ≤ a → j ≤ i + a
      → SameBelow n e f → Facts h n s held l w.frame f w.memory
      → Ends (old (Do place (Store width x y) k) e (counted i a w)) (new (Do place (Store width x y) (k' l s (still_held held (symbol s x) width))) f (counted j b w))
  store_goes place width x y k k' rest named named' s held l e f w i a j b fits few cheap same facts =
      rw (value_same n e f same x named, value_same n e f same y named') (by (misplaced width (value x f) (length w.memory)) refl) where
        by : (o : Option ℕ) → misplaced width (value x f) (length w.memory) ≡ o
            → Ends (within o (counted i a w) (At Next e (with_stored width (value x f) (value y f) (counted i a w))) ▷ old k)
            (within o (counted j b w) (At Next f (with_stored width (value x f) (value y f) (counted j b w))) ▷ new (k' l s (still_held held (symbol s x) width)))
        by (Some code) placed = FirstStrays (counted i a w) _
        by None placed =
            let m = operand_means n facts.past w.frame s f facts.values x named in
            let same_length = stored_length width (value x f) (value y f) w.memory in
            rest s (still_held held (symbol s x) width) l e f (record w { memory = stored width (value x f) (value y f) w.memory; stores = w.stores + 1 }) (i + 1) a (j + 1) b
            (rw same_length fits) few (omega (arith, cheap)) same
            (record {
              past = facts.past;
              values = facts.values;
              kept = held_stored h facts.past w.frame s.times l f w.memory fits width (symbol s x) m.old (value x f) (value y f) same_length m.agree
                  (placed_within width (value x f) (length w.memory) placed) held facts.kept;
            })

  -- ---- code

  test_goes : (t : Test) → TestIn n t → (e f : Env) → SameBelow n e f → (r s r' s' : Result Env) → Ends r r' → Ends s s' → Ends (if holds t e then r else s) (if holds t f then r' else s')
  test_goes t names e f same r s r' s' then' else' = rw (holds_same n e f same t names) (by (holds t f)) where
    by : (b : Bool) → Ends (if b then r else s) (if b then r' else s')
    by true = then'
    by false = else'

  check_goes : (o : Option ℕ) (k k' : Form) (w : World) (s : KnownInStretch) (held : List Held) (l : ℕ) (e f : Env) (i a j b : ℕ)
      → Ends (old k e (counted (i + 1) a w)) (new k' f (counted (j + 1) b w)) → length w.memory ≤ 2 ^ 32 → b ≤ a → j ≤ i + a
      → Ends (checked o e (ticked (counted i a w)) ▷ old k) (checked o f (ticked (counted j b w)) ▷ new k')
  check_goes None k k' w s held l e f i a j b rest fits few cheap = rest
  check_goes (Some code) k k' w s held l e f i a j b rest fits few cheap = BothOver (Trapped code) _ _ (Costs w (i + 1) a (j + 1) b fits few (omega (arith, cheap)))

  -- from a stretch's start
  start : (k k' : Form) (code : ℕ → KnownInStretch → List Held → Form) → Goes k code → (l : ℕ) → (e f : Env) (w : World) (i a j b : ℕ) → length w.memory ≤ 2 ^ 32 → b ≤ a → j ≤ i + a → SameBelow n e f
      → Ends (old k e (counted i a w)) (new (code l nothing []) f (counted j b w))
  start k k' code goes l e f w i a j b fits few cheap same = goes nothing [] l e f w i a j b fits few cheap same (begins h n l w.frame f w.memory)

  begin : (k : Form) (code : ℕ → KnownInStretch → List Held → Form) → Goes k code → (l : ℕ) → Alikes (SameBelow n) Cheaper (old k) (new (code l nothing []))
  begin k code goes l = anew k (code l nothing []) (start k k code goes l)

  code_goes : (code : Form) → Each (ItemIn functions n) (TestIn n) code → Goes code (λ l s held. reused h s held l code)
  code_goes Done names s held l e f w i a j b fits few cheap same facts = BothAt Next e f _ _ same (Costs w i a j b fits few cheap)
  code_goes (Do place (Assign v x) k) names s held l e f w i a j b fits few cheap same facts =
      let target = names.0 in
      let rest = code_goes k names.1 in
      rest (after s (Assign v x)) held l _ _ w (i + 1) a (j + 1) b fits few (omega (arith, cheap))
      (put_two n v (computed x w.frame e) (computed x w.frame f) e f (computed_same n e f same x w.frame target.1) same)
      (sets h n s held l w.frame f w.memory v (computed x w.frame f) (followed s x) (spares_old h apart n own l v ((target.0).1)) facts (follows n facts.past w.frame s f facts.values x target.1))
  code_goes (Do place (Load v kind x) k) names s held l e f w i a j b fits few cheap same facts =
      let target = names.0 in
      load_goes place v kind x k (λ l s held. reused h s held l k) (code_goes k names.1) ((target.0).1) target.1 s held l e f w i a j b fits few cheap same facts
  code_goes (Do place (Store width x y) k) names s held l e f w i a j b fits few cheap same facts =
      let target = names.0 in
      store_goes place width x y k (λ l s held. reused h s held l k) (code_goes k names.1) target.0 target.1 s held l e f w i a j b fits few cheap same facts
  code_goes (Do place (Print spelling x) k) names s held l e f w i a j b fits few cheap same facts =
      rw (value_same n e f same x names.0)
      (start k k (λ l s held. reused h s held l k) (code_goes k names.1) l e f (record w { printed = w.printed ++ spelled spelling (value x f) }) (i + 1) a (j + 1) b fits few (omega (arith, cheap)) same)
  code_goes (Do place (Expect check) k) names s held l e f w i a j b fits few cheap same facts =
      subst (λ (o : Option ℕ). Ends (checked o e (ticked (counted i a w)) ▷ old k) (checked (fault q check (counted j b w) f) f (ticked (counted j b w)) ▷ new (reused h s held l k)))
      (sym (same_fault check names.0 e f same w i a j b))
      (check_goes (fault q check (counted j b w) f) k (reused h s held l k) w s held l e f i a j b
      (code_goes k names.1 s held l e f w (i + 1) a (j + 1) b fits few (omega (arith, cheap)) same facts) fits few cheap)
  code_goes (Do place Break k) names s held l e f w i a j b fits few cheap same facts = BothAt Leaves e f _ _ same (Costs w (i + 1) a (j + 1) b fits few (omega (arith, cheap)))
  code_goes (Do place Continue k) names s held l e f w i a j b fits few cheap same facts = BothAt Skips e f _ _ same (Costs w (i + 1) a (j + 1) b fits few (omega (arith, cheap)))
  code_goes (Do place (Call v g xs) k) names s held l e f w i a j b fits few cheap same facts =
      let call = names.0 in
      bind_alike _ _ (does p every calls (Call v g xs) e (counted i a w)) (does q every calls' (Call v g xs) f (counted j b w)) (old k) (new (reused h nothing [] l k))
      (call_goes v g xs call.2 e f same w i a j b fits few cheap) (begin k (λ l s held. reused h s held l k) (code_goes k names.1) l)
  code_goes (Do place (Return x) k) names s held l e f w i a j b fits few cheap same facts =
      BothAt Returns _ _ _ _ (put_two n 0 (value x e) (value x f) e f (value_same n e f same x names.0) same) (Costs w (i + 1) a (j + 1) b fits few (omega (arith, cheap)))
  code_goes (Do place (Halt x) k) names s held l e f w i a j b fits few cheap same facts =
      rw (value_same n e f same x names.0) (BothOver (Halted (value x f)) _ _ (Costs w (i + 1) a (j + 1) b fits few (omega (arith, cheap))))
  code_goes (If place t x y k) names s held l e f w i a j b fits few cheap same facts =
      bind_alike _ _ _ _ (old k) (new (reused h nothing [] (l + loads_in x + loads_in y) k))
      (test_goes t names.0 e f same _ _ _ _
      (start x x (λ l s held. reused h s held l x) (code_goes x names.1) l e f w (i + 1) a (j + 1) b fits few (omega (arith, cheap)) same)
      (start y y (λ l s held. reused h s held l y) (code_goes y names.2) (l + loads_in x) e f w (i + 1) a (j + 1) b fits few (omega (arith, cheap)) same))
      (begin k (λ l s held. reused h s held l k) (code_goes k names.3) (l + loads_in x + loads_in y))
  code_goes (Loop place x y k) names s held l e f w i a j b fits few cheap same facts =
      bind_alike _ _ _ _ (old k) (new (reused h nothing [] (l + loads_in x + loads_in y) k))
      (turns_alike _ _ ticks (old x) (old y) (new (reused h nothing [] l x)) (new (reused h nothing [] (l + loads_in x) y))
      (begin x (λ l s held. reused h s held l x) (code_goes x names.0) l)
      (begin y (λ l s held. reused h s held l y) (code_goes y names.1) (l + loads_in x)) bound e f (counted i a w) (counted j b w) same (Costs w i a j b fits few cheap))
      (begin k (λ l s held. reused h s held l k) (code_goes k names.2) (l + loads_in x + loads_in y))

-- ---- whole programs

call_same : (functions : List Function) (h : ℕ → Holders) (own : ℕ → ℕ) (p q : Program) → IsReused functions h own p q → (n limit : ℕ)
    → ((f : ℕ) (xs : List ℕ) (w u : World) → Cheaper w u → Alike SameResult Cheaper (calls_of p all_loads n limit f xs w) (calls_of q all_loads n limit f xs u))
    → (f : ℕ) (xs : List ℕ) (w u : World) → Cheaper w u → Alike SameResult Cheaper (calls_of p all_loads n (suc limit) f xs w) (calls_of q all_loads n (suc limit) f xs u)
call_same functions h own p q is n limit enters f xs w u (Costs v i a j b fits few cheap) =
    rw (is.body f, is.frame f)
    (alike_weaker (SameBelow (own f)) Cheaper SameResult Cheaper (λ e g same. same 0 (is.some f)) (λ w u c. c) _ _
    (start functions p q is.frame is.limit (own f) n (calls_of p all_loads n limit) (calls_of q all_loads n limit) enters (h f) (is.apart f) (is.own f) (p.body f) (p.body f)
    (λ l s held. reused (h f) s held l (p.body f))
    (code_goes functions p q is.frame is.limit (own f) n (calls_of p all_loads n limit) (calls_of q all_loads n limit) enters (h f) (is.apart f) (is.own f) (p.body f) (is.names f))
    0 (entered (λ _. true) 1 xs) (entered (λ _. true) 1 xs) (deeper p f v) i a j b fits few cheap (λ w small. refl)))

pub reuse_keeps_meaning : ReuseKeepsMeaning
reuse_keeps_meaning functions h own p q is n zero f xs w u c = BothOver Astray w u c
reuse_keeps_meaning functions h own p q is n (suc limit) f xs w u c = call_same functions h own p q is n limit (reuse_keeps_meaning functions h own p q is n limit) f xs w u c

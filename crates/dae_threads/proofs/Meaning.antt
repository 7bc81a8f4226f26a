-- Code in which conditions are threaded does what the code does, in no more items.
use Rattle.std.proofs.Common.{◌≡◌, ℕ, zero, suc, ◌+◌, ◌%◌, ◌^◌, ◌≤◌, Bool, true, false, not, ◌||◌, nat_eq, if◌then◌else◌, refl, ap, sym, ◌∙◌, subst, arith}
use Rattle.std.proofs.Common.{Option, Some, None, length}
use Rattle.std.proofs.Math.Nat.{add_comm}
use Rattle.std.proofs.lemmas.Bool.{eq-eqb}
use Rattle.dae_base.specs.Words.{plus}
use Rattle.dae_base.specs.declared.Place.{Place}
use Rattle.dae_base.specs.declared.Width.TheVariants.{B1}
use Rattle.dae_meaning.specs.Worlds.{World, ticked}
use Rattle.dae_meaning.specs.Results.{Result, At, Over, Next, Leaves, Skips, Returns, Trapped, Astray, Run, ◌▷◌, turns, checked}
use Rattle.dae_meaning.specs.Alike.{BothOver}
use Rattle.dae_meaning.specs.Operations.{combined, compared, misplaced}
use Rattle.dae_meaning.specs.declared.Operator.TheVariants.{Add}
use Rattle.dae_meaning.specs.Variables.{Env, put, entered}
use Rattle.dae_meaning.proofs.Laws.{bind_alike, turns_alike}
use Rattle.dae_ir.specs.Code.{Done, Do, If, Loop}
use Rattle.dae_ir.specs.Form.{Form, Program, Calls, value, holds, does, deeper, calls_of, all_loads}
use Rattle.dae_ir.specs.declared.form.Operand.{Operand}
use Rattle.dae_ir.specs.declared.form.Operand.TheVariants.{Variable, Number}
use Rattle.dae_ir.specs.declared.form.Value.TheVariants.{Binary}
use Rattle.dae_ir.specs.declared.form.Check.TheVariants.{Place as Good, InBounds}
use Rattle.dae_ir.specs.declared.form.Item.{Item}
use Rattle.dae_ir.specs.declared.form.Item.TheVariants.{Assign, Load, Store, Print, Expect, Break, Continue, Call, Return, Halt}
use Rattle.dae_ir.specs.declared.form.Test.{Test}
use Rattle.dae_threads.specs.Forms.{HasNoMoreItems, having_done}
use Rattle.dae_ir.specs.Laws.{SameVariables}
use Rattle.dae_threads.specs.Threaded.{gives_sum, leads_away, ends_early, code_then, is_nonzero, list_for, IsLed, LedTo, LedInBoth, BehindItem, BehindIf, BehindLoop, IsThreaded, Unchanged, InTurn, InRest, InLists, InLoop, Threads, ListBehind, NumberLast, ChecksFirst}
use Rattle.dae_threads.proofs.Items.{Ends, Goes, runs, CallsGo, any, goes_then, choice_goes, no_more, ticks, item_goes, code_goes, itself_goes}

-- ---- one stretch, and then others

bind_next : (r : Result Env) → r ▷ (λ e w. At Next e w) ≡ r
bind_next (At Next e w) = refl
bind_next (At Leaves e w) = refl
bind_next (At Skips e w) = refl
bind_next (At Returns e w) = refl
bind_next (Over end w) = refl

bind_both : (r : Result Env) (f g : Run Env) → (r ▷ f) ▷ g ≡ r ▷ (λ e w. f e w ▷ g)
bind_both (At Next e w) f g = refl
bind_both (At Leaves e w) f g = refl
bind_both (At Skips e w) f g = refl
bind_both (At Returns e w) f g = refl
bind_both (Over end w) f g = refl

bind_same : (r : Result Env) (f g : Run Env) → ((e : Env) (w : World) → f e w ≡ g e w) → r ▷ f ≡ r ▷ g
bind_same (At Next e w) f g h = h e w
bind_same (At Leaves e w) f g h = refl
bind_same (At Skips e w) f g h = refl
bind_same (At Returns e w) f g h = refl
bind_same (Over end w) f g h = refl

-- ---- a variable that got a number

is_given : (v n : ℕ) (e : Env) → put true v n e v ≡ n
is_given v n e = rw (eq-eqb v v refl) refl

decided : (v n : ℕ) (e : Env) → holds (is_nonzero v) (put true v n e) ≡ not (nat_eq n 0)
unfolding compared
decided v n e = ap (λ (k : ℕ). not (nat_eq k 0)) (is_given v n e)

sum_got : (v n : ℕ) (x : Operand) (e : Env) → put true v (combined Add (value x e) n) e v ≡ plus (value x e) n
unfolding combined
sum_got v n x e = is_given v (plus (value x e) n) e

sum_ordered : (n : ℕ) (x : Operand) (e : Env) → combined Add (value x e) n ≡ combined Add n (value x e)
unfolding combined
sum_ordered n x e = ap (λ (sum : ℕ). sum % 2 ^ 32) (add_comm (value x e) n)

-- ---- code, in one program

module _ (p : Program) (counted : ℕ → Bool) (calls : Calls) (enters : CallsGo calls calls) (n : ℕ) where
  abbrev run : Form → Run Env
  run = runs p counted calls n

  same : (code : Form) → Goes (run code) (run code)
  same code = code_goes p p (λ k. refl) refl counted calls calls enters n code

  -- the condition, without what is behind it
  abbrev decides : ℕ → Form → Form → Run Env
  decides v x y e w = if holds (is_nonzero v) e then run x e (ticked w) else run y e (ticked w)

  choice_led : (d : Bool) (r s r' s' : Result Env) (g : Run Env) → Ends (r ▷ g) r' → Ends (s ▷ g) s' → Ends ((if d then r else s) ▷ g) (if d then r' else s')
  choice_led true r s r' s' g h k = h
  choice_led false r s r' s' g h k = k

  -- behind its number the list that is for it goes on
  at_end : (x y : Form) (e : Env) (w : World) (a b : ℕ) → b ≤ a → (c : Bool) → Ends (if not c then run x e (ticked (having_done a w)) else run y e (ticked (having_done a w))) (run (if c then y else x) e (having_done b w))
  at_end x y e w a b l true = same y e w (a + 1) b (omega (arith, l))
  at_end x y e w a b l false = same x e w (a + 1) b (omega (arith, l))

  led_end : (v m : ℕ) (x y : Form) (e : Env) (w : World) (a b : ℕ) → b ≤ a → Ends (decides v x y (put true v m e) (having_done a w)) (run (list_for m x y) (put true v m e) (having_done b w))
  led_end v m x y e w a b l =
      subst (λ (c : Bool). Ends (if c then run x (put true v m e) (ticked (having_done a w)) else run y (put true v m e) (ticked (having_done a w))) (run (list_for m x y) (put true v m e) (having_done b w)))
      (sym (decided v m e)) (at_end x y (put true v m e) w a b l (nat_eq m 0))

  led_goes : (v : ℕ) (x y : Form) (i j : ℕ) (c d : Form) → IsLed v x y i j c d → Goes (λ e w. run c e w ▷ decides v x y) (run d)
  led_goes v x y i j c d (LedTo place m) e w a b l = led_end v m x y e w (a + 1) (b + 1) (omega (arith, l))
  led_goes v x y i j c d (LedInBoth place t i1 j1 i2 j2 f f' g g' first second) e w a b l =
      let left : Result Env = if holds t e then run f e (ticked (having_done a w)) else run g e (ticked (having_done a w)) in
      let right : Result Env = if holds t e then run f' e (ticked (having_done b w)) else run g' e (ticked (having_done b w)) in
      let both : Ends (left ▷ decides v x y) right =
      choice_led (holds t e) (run f e (ticked (having_done a w))) (run g e (ticked (having_done a w))) (run f' e (ticked (having_done b w))) (run g' e (ticked (having_done b w))) (decides v x y)
      (led_goes v x y i1 j1 f f' first e w (a + 1) (b + 1) (omega (arith, l))) (led_goes v x y i2 j2 g g' second e w (a + 1) (b + 1) (omega (arith, l))) in
      subst (λ (r : Result Env). Ends r (right ▷ run Done)) (sym (bind_both left (run Done) (decides v x y)))
      (subst (λ (r : Result Env). Ends (left ▷ decides v x y) r) (sym (bind_next right)) both)
  led_goes v x y i j c d (BehindItem place item i1 j1 k k' h) e w a b l =
      let first : Result Env = does p counted calls item e (having_done a w) in
      let second : Result Env = does p counted calls item e (having_done b w) in
      subst (λ (r : Result Env). Ends r (second ▷ run k')) (sym (bind_both first (run k) (decides v x y)))
      (bind_alike SameVariables HasNoMoreItems first second (λ e w. run k e w ▷ decides v x y) (run k') (item_goes p p (λ k. refl) refl counted calls calls enters item e w a b l)
      (any (λ e w. run k e w ▷ decides v x y) (run k') (led_goes v x y i1 j1 k k' h)))
  led_goes v x y i j c d (BehindIf place t f g i1 j1 k k' h) e w a b l =
      let first : Result Env = if holds t e then run f e (ticked (having_done a w)) else run g e (ticked (having_done a w)) in
      let second : Result Env = if holds t e then run f e (ticked (having_done b w)) else run g e (ticked (having_done b w)) in
      let alike : Ends first second = choice_goes (holds t e) _ _ _ _ (same f e w (a + 1) (b + 1) (omega (arith, l))) (same g e w (a + 1) (b + 1) (omega (arith, l))) in
      subst (λ (r : Result Env). Ends r (second ▷ run k')) (sym (bind_both first (run k) (decides v x y)))
      (bind_alike SameVariables HasNoMoreItems first second (λ e w. run k e w ▷ decides v x y) (run k') alike (any (λ e w. run k e w ▷ decides v x y) (run k') (led_goes v x y i1 j1 k k' h)))
  led_goes v x y i j c d (BehindLoop place f g i1 j1 k k' h) e w a b l =
      let first : Result Env = turns (run f) (run g) n e (having_done a w) in
      let second : Result Env = turns (run f) (run g) n e (having_done b w) in
      let alike : Ends first second =
      turns_alike SameVariables HasNoMoreItems ticks (run f) (run g) (run f) (run g) (any (run f) (run f) (same f)) (any (run g) (run g) (same g)) n e e (having_done a w) (having_done b w) refl (no_more w a b l) in
      subst (λ (r : Result Env). Ends r (second ▷ run k')) (sym (bind_both first (run k) (decides v x y)))
      (bind_alike SameVariables HasNoMoreItems first second (λ e w. run k e w ▷ decides v x y) (run k') alike (any (λ e w. run k e w ▷ decides v x y) (run k') (led_goes v x y i1 j1 k k' h)))

  -- a check comes before a sum: where it fails, the sum isn't worked out
  check_moved : (o : Option ℕ) (place : Place) (v : ℕ) (x : Operand) (m : ℕ) (k : Form) (e : Env) (w : World) (a b : ℕ) → b ≤ a
      → Ends (checked o (put true v (combined Add (value x e) m) e) (ticked (ticked (having_done a w))) ▷ run k) (checked o e (ticked (having_done b w)) ▷ run (Do place (gives_sum v x m) k))
  check_moved None place v x m k e w a b l = same k (put true v (combined Add (value x e) m) e) w (a + 1 + 1) (b + 1 + 1) (omega (arith, l))
  check_moved (Some code) place v x m k e w a b l = BothOver (Trapped code) (having_done (a + 1 + 1) w) (having_done (b + 1) w) (no_more w (a + 1 + 1) (b + 1) (omega (arith, l)))

  -- ---- a list that comes behind its If

  then_goes : (c d : Form) (e : Env) (w : World) → run (code_then c d) e w ≡ run c e w ▷ run d
  then_goes Done d e w = refl
  then_goes (Do place item k) d e w =
      let r : Result Env = does p counted calls item e w in
      bind_same r (run (code_then k d)) (λ f v. run k f v ▷ run d) (then_goes k d) ∙ sym (bind_both r (run k) (run d))
  then_goes (If place t x y k) d e w =
      let r : Result Env = if holds t e then run x e (ticked w) else run y e (ticked w) in
      bind_same r (run (code_then k d)) (λ f v. run k f v ▷ run d) (then_goes k d) ∙ sym (bind_both r (run k) (run d))
  then_goes (Loop place x y k) d e w =
      let r : Result Env = turns (run x) (run y) n e w in
      bind_same r (run (code_then k d)) (λ f v. run k f v ▷ run d) (then_goes k d) ∙ sym (bind_both r (run k) (run d))

  away_goes : (item : Item) → leads_away item ≡ true → (f g : Run Env) (e : Env) (w : World) → (does p counted calls item e w ▷ f) ▷ g ≡ does p counted calls item e w ▷ f
  away_goes (Assign v x) h f g e w = absurd (let z : false ≡ true = h in cc)
  away_goes (Load v kind x) h f g e w = absurd (let z : false ≡ true = h in cc)
  away_goes (Store width x y) h f g e w = absurd (let z : false ≡ true = h in cc)
  away_goes (Print spelling x) h f g e w = absurd (let z : false ≡ true = h in cc)
  away_goes (Expect check) h f g e w = absurd (let z : false ≡ true = h in cc)
  away_goes Break h f g e w = refl
  away_goes Continue h f g e w = refl
  away_goes (Call v k xs) h f g e w = absurd (let z : false ≡ true = h in cc)
  away_goes (Return x) h f g e w = refl
  away_goes (Halt x) h f g e w = refl

  -- behind what ends early nothing is done
  early_goes : (c : Form) → ends_early c ≡ true → (f : Run Env) (e : Env) (w : World) → run c e w ▷ f ≡ run c e w
  early_goes Done h f e w = absurd (let z : false ≡ true = h in cc)
  early_goes (Do place item k) h f e w = by (leads_away item) refl h (λ early. early_goes k early f) where
    by : (b : Bool) → leads_away item ≡ b → (b || ends_early k) ≡ true → (ends_early k ≡ true → (g : Env) (v : World) → run k g v ▷ f ≡ run k g v) → run (Do place item k) e w ▷ f ≡ run (Do place item k) e w
    by true is early rest = away_goes item is (run k) f e w
    by false is early rest =
        let r : Result Env = does p counted calls item e w in
        bind_both r (run k) f ∙ bind_same r (λ g v. run k g v ▷ f) (run k) (rest early)
  early_goes (If place t x y k) h f e w =
      let r : Result Env = if holds t e then run x e (ticked w) else run y e (ticked w) in
      bind_both r (run k) f ∙ bind_same r (λ g v. run k g v ▷ f) (run k) (early_goes k h f)
  early_goes (Loop place x y k) h f e w =
      let r : Result Env = turns (run x) (run y) n e w in
      bind_both r (run k) f ∙ bind_same r (λ g v. run k g v ▷ f) (run k) (early_goes k h f)

  either_goes : (d : Bool) (x y k : Form) → ends_early y ≡ true → (e : Env) (w : World)
      → (if d then run x e w else run y e w) ▷ run k ≡ (if d then run Done e w else run y e w) ▷ run (code_then x k)
  either_goes true x y k early e w = sym (then_goes x k e w)
  either_goes false x y k early e w = early_goes y early (run k) e w ∙ sym (early_goes y early (run (code_then x k)) e w)

  list_goes : (place : Place) (t : Test) (x y k : Form) → ends_early y ≡ true → Goes (run (If place t x y k)) (run (If place t Done y (code_then x k)))
  list_goes place t x y k early e w a b l =
      subst (λ (r : Result Env). Ends (run (If place t x y k) e (having_done a w)) r)
      (either_goes (holds t e) x y k early e (ticked (having_done b w))) (same (If place t x y k) e w a b l)

  -- a sum is the same with its number behind
  ordered_goes : (place : Place) (v m : ℕ) (x : Operand) (k : Form) → Goes (run (Do place (Assign v (Binary Add (Number m) x)) k)) (run (Do place (gives_sum v x m) k))
  ordered_goes place v m x k e w a b l =
      subst (λ (y : ℕ). Ends (run k (put true v y e) (having_done (a + 1) w)) (run k (put true v (combined Add (value x e) m) e) (having_done (b + 1) w)))
      (sum_ordered m x e) (same k (put true v (combined Add (value x e) m) e) w (a + 1) (b + 1) (omega (arith, l)))

  sum_goes : (place place' : Place) (v : ℕ) (x : Operand) (m : ℕ) (k : Form)
      → Goes (run (Do place (gives_sum v x m) (Do place' (Expect (Good B1 (Variable v))) k))) (run (Do place' (Expect (InBounds x m)) (Do place (gives_sum v x m) k)))
  sum_goes place place' v x m k e w a b l =
      subst (λ (y : ℕ). Ends (checked (misplaced B1 y (length w.memory)) (put true v (combined Add (value x e) m) e) (ticked (ticked (having_done a w))) ▷ run k)
      (checked (misplaced B1 (plus (value x e) m) (length w.memory)) e (ticked (having_done b w)) ▷ run (Do place (gives_sum v x m) k)))
      (sym (sum_got v m x e)) (check_moved (misplaced B1 (plus (value x e) m) (length w.memory)) place v x m k e w a b l)

  pub threaded_goes : (c d : Form) → IsThreaded c d → Goes (run c) (run d)
  threaded_goes c d (Unchanged c1) e w a b l = same c1 e w a b l
  threaded_goes c d (InTurn c1 d1 e1 f g) e w a b l = goes_then (run c1) (run d1) (run e1) (threaded_goes c1 d1 f) (threaded_goes d1 e1 g) e w a b l
  threaded_goes c d (InRest place item k k' h) e w a b l =
      bind_alike SameVariables HasNoMoreItems (does p counted calls item e (having_done a w)) (does p counted calls item e (having_done b w)) (run k) (run k') (item_goes p p (λ k. refl) refl counted calls calls enters item e w a b l)
      (any (run k) (run k') (threaded_goes k k' h))
  threaded_goes c d (InLists place t f f' g g' k k' first second h) e w a b l =
      bind_alike SameVariables HasNoMoreItems _ _ (run k) (run k')
      (choice_goes (holds t e) _ _ _ _ (threaded_goes f f' first e w (a + 1) (b + 1) (omega (arith, l))) (threaded_goes g g' second e w (a + 1) (b + 1) (omega (arith, l)))) (any (run k) (run k') (threaded_goes k k' h))
  threaded_goes c d (InLoop place f f' g g' k k' first second h) e w a b l =
      bind_alike SameVariables HasNoMoreItems _ _ (run k) (run k')
      (turns_alike SameVariables HasNoMoreItems ticks (run f) (run g) (run f') (run g') (any (run f) (run f') (threaded_goes f f' first)) (any (run g) (run g') (threaded_goes g g' second)) n e e (having_done a w) (having_done b w) refl (no_more w a b l))
      (any (run k) (run k') (threaded_goes k k' h))
  threaded_goes c d (Threads place place' t v i j i' j' more more' x y f f' g g' k first second spread spread' small) e w a b l =
      let left : Result Env = if holds t e then run f e (ticked (having_done a w)) else run g e (ticked (having_done a w)) in
      let right : Result Env = if holds t e then run f' e (ticked (having_done b w)) else run g' e (ticked (having_done b w)) in
      let both : Ends (left ▷ decides v x y) right =
      choice_led (holds t e) (run f e (ticked (having_done a w))) (run g e (ticked (having_done a w))) (run f' e (ticked (having_done b w))) (run g' e (ticked (having_done b w))) (decides v x y)
      (led_goes v x y i j f f' first e w (a + 1) (b + 1) (omega (arith, l))) (led_goes v x y i' j' g g' second e w (a + 1) (b + 1) (omega (arith, l))) in
      subst (λ (r : Result Env). Ends r (right ▷ run k)) (bind_both left (decides v x y) (run k))
      (bind_alike SameVariables HasNoMoreItems (left ▷ decides v x y) right (run k) (run k) both (any (run k) (run k) (same k)))
  threaded_goes c d (ListBehind place t x y k early) e w a b l = list_goes place t x y k early e w a b l
  threaded_goes c d (NumberLast place v m x k) e w a b l = ordered_goes place v m x k e w a b l
  threaded_goes c d (ChecksFirst place place' v x m k near) e w a b l = sum_goes place place' v x m k e w a b l

-- ---- whole programs

module _ (p q : Program) (frames : (k : ℕ) → q.frame k ≡ p.frame k) (limits : q.limit ≡ p.limit) (bodies : (k : ℕ) → IsThreaded (p.body k) (q.body k)) where
  at_entry : (f : ℕ) (w : World) → deeper q f w ≡ deeper p f w
  at_entry f w = ap (λ (frame : ℕ). record w { frame = w.top; top = w.top + frame; depth = w.depth + 1 }) (frames f)

  call_goes : (n limit : ℕ) → CallsGo (calls_of p all_loads n limit) (calls_of q all_loads n limit) → CallsGo (calls_of p all_loads n (suc limit)) (calls_of q all_loads n (suc limit))
  call_goes n limit enters f xs w a b l =
      let e : Env = entered (λ _. true) 1 xs in
      let first : Calls = calls_of p all_loads n limit in
      let second : Calls = calls_of q all_loads n limit in
      let old : Run Env = runs p (all_loads f) first n (p.body f) in
      let mid : Run Env = runs p (all_loads f) first n (q.body f) in
      let new : Run Env = runs q (all_loads f) second n (q.body f) in
      let body : Goes old new = goes_then old mid new (threaded_goes p (all_loads f) first (itself_goes p n limit) n (p.body f) (q.body f) (bodies f)) (code_goes p q frames limits (all_loads f) first second enters n (q.body f)) in
      subst (λ (v : World). Ends (old e (deeper p f (having_done a w))) (new e v)) (sym (at_entry f (having_done b w))) (body e (deeper p f w) a b l)

  pub calls_go : (n limit : ℕ) → CallsGo (calls_of p all_loads n limit) (calls_of q all_loads n limit)
  calls_go n zero f xs w a b l = BothOver Astray (having_done a w) (having_done b w) (no_more w a b l)
  calls_go n (suc limit) f xs w a b l = call_goes n limit (calls_go n limit) f xs w a b l

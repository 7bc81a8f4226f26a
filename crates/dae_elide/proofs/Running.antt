-- A form without the checks that are known to pass does just what the form does.
use Rattle.std.proofs.Common.{◌≡◌, ℕ, zero, suc, ◌+◌, ◌%◌, Bool, true, false, ◌&&◌, nat_eq, if◌then◌else◌, List, [], length, Option, Some, None, refl, ap, sym, ◌∙◌, subst, arith}
use Rattle.std.specs.Prelude.{nat_lt}
use Rattle.std.proofs.lemmas.Bool.{and_parts, lt-ltb, ltb-true}
use Rattle.std.proofs.lemmas.Bool.Decides.{nat_tests}
use Rattle.dae_base.specs.Words.{plus, size as bytes, width_of, loaded}
use Rattle.dae_base.specs.declared.Width.{Width}
use Rattle.dae_base.specs.declared.Width.TheVariants.{B1, B2, B4}
use Rattle.dae_base.proofs.Laws.{same_tests, stored_length}
use Rattle.dae_meaning.specs.Worlds.{World, KeepsMemory, ticked, fetched, back}
use Rattle.dae_meaning.specs.Results.{Result, At, Over, Next, Leaves, Skips, Returns, Run, ◌▷◌, ◌↻◌, turns, world_of, within, checked}
use Rattle.dae_meaning.specs.Variables.{Env, VariableSet, put, entered}
use Rattle.dae_meaning.specs.Operations.{misplaced, passed}
use Rattle.dae_meaning.proofs.Laws.{own_put}
use Rattle.dae_ir.specs.Code.{Done, Do, If, Loop, exec}
use Rattle.dae_ir.specs.Form.{Form, Program, Calls, value, values, holds, computed, fault, called, deeper, ended, with_stored, with_printed, meaning, calls_of}
use Rattle.dae_ir.specs.Laws.{Counting}
use Rattle.dae_ir.specs.declared.form.Operand.{Operand}
use Rattle.dae_ir.specs.declared.form.Operand.TheVariants.{Variable, Number}
use Rattle.dae_ir.specs.declared.form.Check.TheVariants.{Place as Good, InBounds, Zero, Room, Frame, Abort}
use Rattle.dae_ir.specs.declared.form.Item.TheVariants.{Assign, Load, Store, Print, Expect, Break, Continue, Call, Return, Halt}
use Rattle.dae_ir.specs.declared.stream.Action.TheVariants.{Set, Probe}
use Rattle.dae_ir.specs.declared.stream.Branch.TheVariants.{Silent}
use Rattle.dae_ir.proofs.Laws.{memory_kept, same_room}
use Rattle.dae_select_walks.specs.Facts.{Facts, LiesIn, Hold, any, unknown, bounds_in, is_aligned, is_good, with_bounds, facts_behind, facts_in_first, facts_in_second, facts_past_if, facts_at_turn, facts_at_step, facts_past_loop, Outs, outs, FactsGo, LeavesOnly}
use Rattle.dae_ir.specs.Deeds.{probed}
use Rattle.dae_select_walks.proofs.LawsOfWalks.{operand_is, aligned_is, good_is, returned_facts, deed_facts, facts_go, branch_lies}
use Rattle.dae_elide.specs.Elided.{as_actions, is_known, kept_width, itself, elided}

-- ---- the first byte of an access

-- where the address is a multiple of the width, and memory ends at one, the access stands in memory where its first byte does
first_byte : (width : Width) (n size : ℕ) → n % bytes width ≡ 0 → size % 4 ≡ 0 → misplaced B1 n size ≡ misplaced width n size
unfolding misplaced
first_byte B1 n size i j = refl
first_byte B2 n size i j =
    let a : nat_eq (n % 1) 0 ≡ true = grind (arith, nat_tests) in
    let b : nat_eq (n % 2) 0 ≡ true = rw i refl in
    let c : nat_lt size (n + 1) ≡ nat_lt size (n + 2) = same_tests (nat_lt size (n + 1)) (nat_lt size (n + 2)) (λ e. lt-ltb size (n + 2) (omega (arith, ltb-true size (n + 1) e))) (λ e. lt-ltb size (n + 1) (omega (arith, i, j, ltb-true size (n + 2) e))) in
    rw (a, b, c) refl
first_byte B4 n size i j =
    let a : nat_eq (n % 1) 0 ≡ true = grind (arith, nat_tests) in
    let b : nat_eq (n % 4) 0 ≡ true = rw i refl in
    let c : nat_lt size (n + 1) ≡ nat_lt size (n + 4) = same_tests (nat_lt size (n + 1)) (nat_lt size (n + 4)) (λ e. lt-ltb size (n + 4) (omega (arith, ltb-true size (n + 1) e))) (λ e. lt-ltb size (n + 1) (omega (arith, i, j, ltb-true size (n + 4) e))) in
    rw (a, b, c) refl

-- what is left of a check fails as the check does
narrow_is : (memory : ℕ) (facts : Facts) (width : Width) (v n size : ℕ) → LiesIn (bounds_in facts v) n → size ≡ memory → misplaced (kept_width memory facts width v) n size ≡ misplaced width n size
narrow_is memory facts width v n size lies same = by (is_aligned width (bounds_in facts v) && nat_eq (memory % 4) 0) refl where
  by : (c : Bool) → (is_aligned width (bounds_in facts v) && nat_eq (memory % 4) 0) ≡ c → misplaced (if c then B1 else width) n size ≡ misplaced width n size
  by true is =
      let both = and_parts (is_aligned width (bounds_in facts v)) (nat_eq (memory % 4) 0) is in
      let whole : memory % 4 ≡ 0 = (let t = both.1 in grind (arith, nat_tests)) in
      first_byte width n size (aligned_is width (bounds_in facts v) n lies both.0) (rw same whole)
  by false is = refl

module _ (p q : Program) (frames : (g : ℕ) → q.frame g ≡ p.frame g) (limits : q.limit ≡ p.limit) (memory : ℕ) (chosen : VariableSet) (counted : ℕ → Bool) (calls calls' : Calls)
    (enters : (g : ℕ) (xs : List ℕ) (w : World) → length w.memory ≡ memory → calls' g xs w ≡ calls g xs w)
    (keeps : (g : ℕ) (xs : List ℕ) (w : World) → KeepsMemory w (world_of (calls g xs w))) (bound : ℕ) where
  abbrev old : Form → Run Env
  old code = exec (meaning p counted calls) bound code

  abbrev new : Form → Run Env
  new code = exec (meaning q counted calls') bound code

  -- where it goes on, this is known, and memory is as large
  abbrev Knows : Facts → Env → World → Type 0
  Knows facts e w = Hold facts e × (length w.memory ≡ memory)

  abbrev Reaches : Outs → Result Env → Type 0
  Reaches o (At Next e w) = Knows o.next e w
  Reaches o (At Leaves e w) = Knows o.leaves e w
  Reaches o (At Skips e w) = Knows o.skips e w
  Reaches o (At Returns e w) = Unit {0}
  Reaches o (Over end w) = Unit {0}

  -- the second ends just as the first
  abbrev Ends : Outs → Result Env → Result Env → Type 0
  Ends o r s = (s ≡ r) × Reaches o r

  abbrev Goes : Facts → Outs → Run Env → Run Env → Type 0
  Goes facts o f g = (e : Env) (w : World) → Hold facts e → length w.memory ≡ memory → Ends o (f e w) (g e w)

  -- ---- one stretch, and then another

  then_ends : (o : Outs) (next : Facts) (r s : Result Env) (f g : Run Env) → Ends (outs next o.leaves o.skips) r s → Goes next o f g → Ends o (r ▷ f) (s ▷ g)
  then_ends o next (At Next e w) s f g h k = let rest = k e w h.1.0 h.1.1 in (ap (λ (t : Result Env). t ▷ g) h.0 ∙ rest.0, rest.1)
  then_ends o next (At Leaves e w) s f g h k = (ap (λ (t : Result Env). t ▷ g) h.0, h.1)
  then_ends o next (At Skips e w) s f g h k = (ap (λ (t : Result Env). t ▷ g) h.0, h.1)
  then_ends o next (At Returns e w) s f g h k = (ap (λ (t : Result Env). t ▷ g) h.0, tt)
  then_ends o next (Over end w) s f g h k = (ap (λ (t : Result Env). t ▷ g) h.0, tt)

  -- in a loop
  loop_ends : (o : Outs) (next past : Facts) (r s : Result Env) (f g : Run Env) → Ends (outs next past next) r s → Goes next (outs past o.leaves o.skips) f g → Ends (outs past o.leaves o.skips) (r ↻ f) (s ↻ g)
  loop_ends o next past (At Next e w) s f g h k = let rest = k e w h.1.0 h.1.1 in (ap (λ (t : Result Env). t ↻ g) h.0 ∙ rest.0, rest.1)
  loop_ends o next past (At Leaves e w) s f g h k = (ap (λ (t : Result Env). t ↻ g) h.0, h.1)
  loop_ends o next past (At Skips e w) s f g h k = let rest = k e w h.1.0 h.1.1 in (ap (λ (t : Result Env). t ↻ g) h.0 ∙ rest.0, rest.1)
  loop_ends o next past (At Returns e w) s f g h k = (ap (λ (t : Result Env). t ↻ g) h.0, tt)
  loop_ends o next past (Over end w) s f g h k = (ap (λ (t : Result Env). t ↻ g) h.0, tt)

  turns_end : (o : Outs) (turn step past : Facts) (b c b' c' : Run Env) → Goes turn (outs step past step) b b' → Goes step (outs turn past turn) c c' → (n : ℕ) → Goes turn (outs past o.leaves o.skips) (turns b c n) (turns b' c' n)
  turns_end o turn step past b c b' c' hb hc zero e w h size = (refl, tt)
  turns_end o turn step past b c b' c' hb hc (suc n) e w h size =
      loop_ends o step past (b e (ticked w)) (b' e (ticked w)) _ _ (hb e (ticked w) h size)
      (λ e w h size. loop_ends o turn past (c e w) (c' e w) _ _ (hc e w h size) (turns_end o turn step past b c b' c' hb hc n))

  -- ---- checks

  checked_ends : (c : Option ℕ) (facts : Facts) (o : Outs) (f g : Run Env) (e : Env) (w : World) → (c ≡ None → Hold facts e) → length w.memory ≡ memory → Goes facts o f g → Ends o (checked c e (ticked w) ▷ f) (checked c e (ticked w) ▷ g)
  checked_ends None facts o f g e w h size k = k e (ticked w) (h refl) size
  checked_ends (Some code) facts o f g e w h size k = (refl, tt)

  -- of a place, that stays
  stays : (width : Width) (v : ℕ) (facts : Facts) (o : Outs) (f g : Run Env) (e : Env) (w : World) → Hold facts e → length w.memory ≡ memory → Goes (facts_behind memory (Probe (Good width (Variable v))) facts) o f g
      → Ends o (checked (misplaced width (e v) (length w.memory)) e (ticked w) ▷ f) (checked (misplaced width (e v) (length w.memory)) e (ticked w) ▷ g)
  stays width v facts o f g e w h size k =
      checked_ends (misplaced width (e v) (length w.memory)) (facts_behind memory (Probe (Good width (Variable v))) facts) o f g e w
      (λ none. subst (λ (c : Option ℕ). LeavesOnly (Hold (facts_behind memory (Probe (Good width (Variable v))) facts)) (probed true c e)) none (deed_facts p true (Probe (Good width (Variable v))) w e facts memory size h)) size k

  -- of one of which the first byte may be left
  narrow_ends : (width : Width) (v : ℕ) (facts : Facts) (o : Outs) (f g : Run Env) (e : Env) (w : World) → Hold facts e → length w.memory ≡ memory → Goes (facts_behind memory (Probe (Good width (Variable v))) facts) o f g
      → Ends o (checked (misplaced width (e v) (length w.memory)) e (ticked w) ▷ f) (checked (misplaced (kept_width memory facts width v) (e v) (length w.memory)) e (ticked w) ▷ g)
  narrow_ends width v facts o f g e w h size k =
      subst (λ (c : Option ℕ). Ends o (checked (misplaced width (e v) (length w.memory)) e (ticked w) ▷ f) (checked c e (ticked w) ▷ g))
      (sym (narrow_is memory facts width v (e v) (length w.memory) (operand_is facts e (Variable v) h) size)) (stays width v facts o f g e w h size k)

  -- and one that is known to pass
  leaves : (width : Width) (v : ℕ) (facts : Facts) (o : Outs) (f g : Run Env) (e : Env) (w : World) → is_good memory width (bounds_in facts v) ≡ true → Hold facts e → length w.memory ≡ memory
      → Goes (facts_behind memory (Probe (Good width (Variable v))) facts) o f g → Ends o (checked (misplaced width (e v) (length w.memory)) e (ticked w) ▷ f) (g (put true v (e v) e) (ticked w))
  leaves width v facts o f g e w good h size k =
      let none : misplaced width (e v) (length w.memory) ≡ None =
      subst (λ (l : ℕ). misplaced width (e v) l ≡ None) (sym size) (good_is memory width (bounds_in facts v) (e v) (operand_is facts e (Variable v) h) good) in
      let both = stays width v facts o f g e w h size k in
      let passes : Ends o (checked None e (ticked w) ▷ f) (checked None e (ticked w) ▷ g) =
      subst (λ (c : Option ℕ). Ends o (checked c e (ticked w) ▷ f) (checked c e (ticked w) ▷ g)) none both in
      subst (λ (c : Option ℕ). Ends o (checked c e (ticked w) ▷ f) (g (put true v (e v) e) (ticked w))) (sym none)
      (subst (λ (d : Env). Ends o (checked None e (ticked w) ▷ f) (g d (ticked w))) (sym (own_put v e)) passes)

  -- ---- accesses and calls

  within_ends : (c : Option ℕ) (facts : Facts) (o : Outs) (f g : Run Env) (e : Env) (w u : World) → Hold facts e → length u.memory ≡ memory → Goes facts o f g → Ends o (within c w (At Next e u) ▷ f) (within c w (At Next e u) ▷ g)
  within_ends None facts o f g e w u h size k = k e u h size
  within_ends (Some code) facts o f g e w u h size k = (refl, tt)

  call_ends : (c : Option ℕ) (v : ℕ) (r : Result Env) (facts : Facts) (o : Outs) (f g : Run Env) (e : Env) (w : World) → Hold facts e → length (world_of r).memory ≡ memory → Goes (with_bounds v any facts) o f g
      → Ends o (within c w (ended (λ (x : Env). put true v (x 0) e) w r) ▷ f) (within c w (ended (λ (x : Env). put true v (x 0) e) w r) ▷ g)
  call_ends None v (At way x u) facts o f g e w h size k = k (put true v (x 0) e) (back w u) (returned_facts memory (Some v) (Some (x 0)) 0 [] facts e h) size
  call_ends None v (Over end u) facts o f g e w h size k = (refl, tt)
  call_ends (Some code) v r facts o f g e w h size k = (refl, tt)

  calls_end : (v g : ℕ) (xs : List Operand) (facts : Facts) (o : Outs) (c d : Run Env) (e : Env) (w : World) → Hold facts e → length w.memory ≡ memory → Goes (with_bounds v any facts) o c d
      → Ends o (within (fault p (Room g) w e) w (ended (λ (x : Env). put true v (x 0) e) w (calls g (values xs e) (called xs w))) ▷ c)
      (within (fault q (Room g) w e) w (ended (λ (x : Env). put true v (x 0) e) w (calls' g (values xs e) (called xs w))) ▷ d)
  calls_end v g xs facts o c d e w h size k =
      let r : Result Env = calls g (values xs e) (called xs w) in
      let kept = keeps g (values xs e) (called xs w) in
      let first : Result Env = within (fault p (Room g) w e) w (ended (λ (x : Env). put true v (x 0) e) w r) ▷ c in
      subst (λ (z : Option ℕ). Ends o first (within z w (ended (λ (x : Env). put true v (x 0) e) w (calls' g (values xs e) (called xs w))) ▷ d)) (sym (same_room p q frames limits g e w))
      (subst (λ (s : Result Env). Ends o first (within (fault p (Room g) w e) w (ended (λ (x : Env). put true v (x 0) e) w s) ▷ d)) (sym (enters g (values xs e) (called xs w) size))
      (call_ends (fault p (Room g) w e) v r facts o c d e w h (kept.size ∙ size) k))

  -- ---- code

  pub same_run : (code : Form) (facts : Facts) (o : Outs) → FactsGo memory facts (as_actions code) o → Goes facts o (old code) (new (elided memory chosen facts code))
  same_run Done facts o go e w h size = (refl, (go e h, size))
  same_run (Do place (Assign v x) k) facts o go e w h size =
      same_run k (facts_behind memory (Set v x) facts) o go (put true v (computed x w.frame e) e) (ticked w) (deed_facts p true (Set v x) w e facts memory size h) size
  same_run (Do place (Load v kind x) k) facts o go e w h size =
      let y = loaded kind (value x e) w.memory in
      within_ends (misplaced (width_of kind) (value x e) (length w.memory)) (with_bounds v any facts) o (old k) (new (elided memory chosen (with_bounds v any facts) k)) (put true v y e) w (fetched (counted v) w)
      (returned_facts memory (Some v) (Some y) 0 [] facts e h) size (same_run k (with_bounds v any facts) o go)
  same_run (Do place (Store width x y) k) facts o go e w h size =
      within_ends (misplaced width (value x e) (length w.memory)) facts o (old k) (new (elided memory chosen facts k)) e w (with_stored width (value x e) (value y e) w)
      h (stored_length width (value x e) (value y e) w.memory ∙ size) (same_run k facts o go)
  same_run (Do place (Print spelling x) k) facts o go e w h size = same_run k facts o go e (with_printed spelling (value x e) w) h size
  same_run (Do place (Expect (Good width (Variable v))) k) facts o go e w h size = by (same_run k known o go) (is_known memory chosen facts width v) refl where
    known : Facts
    known = facts_behind memory (Probe (Good width (Variable v))) facts

    by : Goes known o (old k) (new (elided memory chosen known k)) → (b : Bool) → is_known memory chosen facts width v ≡ b
        → Ends o (old (Do place (Expect (Good width (Variable v))) k) e w) (new (Do place (if b then itself v else Expect (Good (kept_width memory facts width v) (Variable v))) (elided memory chosen known k)) e w)
    by later true is = leaves width v facts o (old k) (new (elided memory chosen known k)) e w (and_parts (chosen v && nat_lt 0 v) (is_good memory width (bounds_in facts v)) is).1 h size later
    by later false is = narrow_ends width v facts o (old k) (new (elided memory chosen known k)) e w h size later
  same_run (Do place (Expect (Good width (Number n))) k) facts o go e w h size =
      checked_ends (misplaced width n (length w.memory)) facts o (old k) (new (elided memory chosen facts k)) e w (λ none. h) size (same_run k facts o go)
  same_run (Do place (Expect (InBounds x offset)) k) facts o go e w h size =
      checked_ends (misplaced B1 (plus (value x e) offset) (length w.memory)) facts o (old k) (new (elided memory chosen facts k)) e w (λ none. h) size (same_run k facts o go)
  same_run (Do place (Expect (Zero x)) k) facts o go e w h size =
      checked_ends (if nat_eq (value x e) 0 then Some 1 else None) facts o (old k) (new (elided memory chosen facts k)) e w (λ none. h) size (same_run k facts o go)
  same_run (Do place (Expect (Room g)) k) facts o go e w h size =
      subst (λ (c : Option ℕ). Ends o (checked (fault p (Room g) w e) e (ticked w) ▷ old k) (checked c e (ticked w) ▷ new (elided memory chosen facts k))) (sym (same_room p q frames limits g e w))
      (checked_ends (fault p (Room g) w e) facts o (old k) (new (elided memory chosen facts k)) e w (λ none. h) size (same_run k facts o go))
  same_run (Do place (Expect Frame) k) facts o go e w h size =
      checked_ends (passed (nat_lt (length w.memory) w.top)) facts o (old k) (new (elided memory chosen facts k)) e w (λ none. h) size (same_run k facts o go)
  same_run (Do place (Expect Abort) k) facts o go e w h size = (refl, tt)
  same_run (Do place Break k) facts o go e w h size = (refl, (go e h, size))
  same_run (Do place Continue k) facts o go e w h size = (refl, (go e h, size))
  same_run (Do place (Call v g xs) k) facts o go e w h size = calls_end v g xs facts o (old k) (new (elided memory chosen (with_bounds v any facts) k)) e w h size (same_run k (with_bounds v any facts) o go)
  same_run (Do place (Return x) k) facts o go e w h size = (refl, tt)
  same_run (Do place (Halt x) k) facts o go e w h size = (refl, tt)
  same_run (If place t a b k) facts o go e w h size =
      by (same_run a (facts_in_first (Silent t) facts) (outs past o.leaves o.skips) go.0) (same_run b (facts_in_second (Silent t) facts) (outs past o.leaves o.skips) go.1) (same_run k past o go.2) (holds t e) refl where
        past : Facts
        past = facts_past_if (Silent t) (as_actions a) (as_actions b) facts

        by : Goes (facts_in_first (Silent t) facts) (outs past o.leaves o.skips) (old a) (new (elided memory chosen (facts_in_first (Silent t) facts) a))
            → Goes (facts_in_second (Silent t) facts) (outs past o.leaves o.skips) (old b) (new (elided memory chosen (facts_in_second (Silent t) facts) b))
            → Goes past o (old k) (new (elided memory chosen past k)) → (c : Bool) → holds t e ≡ c
            → Ends o ((if c then old a e (ticked w) else old b e (ticked w)) ▷ old k)
            ((if c then new (elided memory chosen (facts_in_first (Silent t) facts) a) e (ticked w) else new (elided memory chosen (facts_in_second (Silent t) facts) b) e (ticked w)) ▷ new (elided memory chosen past k))
        by first second later true is = then_ends o past _ _ (old k) (new (elided memory chosen past k)) (first e (ticked w) (branch_lies (Silent t) true facts e h is) size) later
        by first second later false is = then_ends o past _ _ (old k) (new (elided memory chosen past k)) (second e (ticked w) (branch_lies (Silent t) false facts e h is) size) later
  same_run (Loop place b s k) facts o go e w h size =
      let turn : Facts = facts_at_turn memory (as_actions b) (as_actions s) facts in
      let step : Facts = facts_at_step memory (as_actions b) (as_actions s) facts in
      let past : Facts = facts_past_loop (as_actions b) (as_actions s) facts in
      then_ends o past _ _ (old k) (new (elided memory chosen past k))
      (turns_end o turn step past (old b) (old s) (new (elided memory chosen turn b)) (new (elided memory chosen step s)) (same_run b turn (outs step past step) go.1) (same_run s step (outs turn past turn) go.2) bound e w (go.0 e h) size)
      (same_run k past o go.3)

-- ---- calls inside one another

nothing_known : (e : Env) → Hold unknown e
nothing_known e = record { outer = tt; inner = tt }

module _ (p q : Program) (frames : (g : ℕ) → q.frame g ≡ p.frame g) (limits : q.limit ≡ p.limit) (memory : ℕ) (chosen : ℕ → VariableSet) (bodies : (g : ℕ) → q.body g ≡ elided memory (chosen g) unknown (p.body g)) (counted : Counting) where
  at_entry : (g : ℕ) (w : World) → deeper q g w ≡ deeper p g w
  at_entry g w = ap (λ (frame : ℕ). record w { frame = w.top; top = w.top + frame; depth = w.depth + 1 }) (frames g)

  pub same_calls : (n limit g : ℕ) (xs : List ℕ) (w : World) → length w.memory ≡ memory → calls_of q counted n limit g xs w ≡ calls_of p counted n limit g xs w
  same_calls n zero g xs w size = refl
  same_calls n (suc limit) g xs w size =
      let e : Env = entered (λ _. true) 1 xs in
      let inner = calls_of p counted n limit in
      let inner' = calls_of q counted n limit in
      let body : Form = p.body g in
      let o : Outs = outs unknown unknown unknown in
      let go : FactsGo memory unknown (as_actions body) o =
      facts_go memory (as_actions body) unknown o (record { next = λ e l. nothing_known e; leaves = λ e l. nothing_known e; skips = λ e l. nothing_known e }) in
      let run = same_run p q frames limits memory (chosen g) (counted g) inner inner' (λ g' ys v s. same_calls n limit g' ys v s) (λ g' ys v. memory_kept p counted n limit g' ys v) n body unknown o go e (deeper p g w) (nothing_known e) size in
      ap (λ (c : Form). exec (meaning q (counted g) inner') n c e (deeper q g w)) (bodies g)
      ∙ ap (λ (v : World). exec (meaning q (counted g) inner') n (elided memory (chosen g) unknown body) e v) (at_entry g w) ∙ run.0

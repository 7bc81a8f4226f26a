-- The form of a function does what a call of the function does, and the form of a program what the program does.
use Rattle.std.proofs.Common.{◌≡◌, ◌≢◌, ℕ, zero, suc, ◌+◌, ◌*◌, ◌<◌, ◌≤◌, ◌⊎◌, inl, inr, Bool, true, false, not, ◌&&◌, ◌||◌, nat_eq, nat_lt, List, [], ◌∷◌, length, Option, Some, None, if◌then◌else◌, refl, ap, sym, ◌∙◌, subst, arith}
use Rattle.std.proofs.lemmas.Bool.Decides.{nat_tests}
use Rattle.dae_base.specs.Words.{plus}
use Rattle.dae_base.specs.declared.Place.{Place}
use Rattle.dae_meaning.specs.Results.{Result, At, Over, Way, Next, Leaves, Skips, Returns, End, Halted, Trapped, Astray, Run, ◌▷◌, checked, within}
use Rattle.dae_meaning.specs.Worlds.{World, ticked, back}
use Rattle.dae_ir.specs.Code.{Done, Do, If, Loop, exec}
use Rattle.dae_meaning.specs.Operations.{passed, misplaced}
use Rattle.dae_ir.specs.Form.{Form, values as all_held, ended, deeper, Calls, meaning, Program, calls_of, all_loads}
use Rattle.dae_meaning.specs.Variables.{Env, put, entered}
use Rattle.dae_ir.specs.declared.form.Item.{Item}
use Rattle.dae_ir.specs.declared.form.Item.TheVariants.{Assign, Store, Expect, Call, Return, Halt, Load, Print, Break, Continue}
use Rattle.dae_ir.specs.declared.form.Check.TheVariants.{Room, Frame}
use Rattle.dae_ir.specs.declared.form.Operand.TheVariants.{Variable, Number}
use Rattle.dae_program.specs.declared.program.FrameSlot.{FrameSlot}
use Rattle.dae_program.specs.Trees as tree
use Rattle.dae_program.specs.Outcomes.{Outcome, Gives, Ends, unless, store, with_written}
use Rattle.dae_program.specs.Expressions.{ProgramSetup, return_to as returned}
use Rattle.dae_program.specs.Statements.{execute as does}
use Rattle.dae_program.specs.Calls.{keep_parameters as kept, enter as entered_world, no_room, result_of as came_back, call as program_calls}
use Rattle.dae_program.specs.Scope.{KeepsScope}
use Rattle.dae_lower.specs.Keeping.{IsKept}
use Rattle.dae_ir.specs.Scope.{is_end}
use Rattle.dae_lower.specs.Lowering.{Made, one, ◌≫◌, ◌⨾◌, checks, nowhere, Links, statements, parameters_stored, is_done, is_closed, closed, function_code, program_form}
use Rattle.dae_lower.proofs.Relation.{at, Agree, Kept, Alike, Both, Stop, exec_then, put_same, put_other}
use Rattle.dae_lower.proofs.Chains.{run}
use Rattle.dae_lower.proofs.Leaves.{Holding, agree_put, kept_put}
use Rattle.dae_lower.proofs.Arguments.{Called}
use Rattle.dae_lower.proofs.Doing.{everything, Same, Goes, Halts, same_from, after_statements, Does}
use Rattle.dae_lower.proofs.Statements.{PrintsDo, InitialisesDo, SwitchesDo, statements_do}

-- it goes elsewhere
abbrev pub IsLeft : {E : Type 0} → Result E → Type 0
IsLeft (At Next e w) = ⊥
IsLeft (At Leaves e w) = Unit {0}
IsLeft (At Skips e w) = Unit {0}
IsLeft (At Returns e w) = Unit {0}
IsLeft (Over end w) = Unit {0}

not_next_then : {E : Type 0} (r : Result E) (f : Run E) → IsLeft r → IsLeft (r ▷ f)
not_next_then (At Next e w) f h = absurd h
not_next_then (At Leaves e w) f h = h
not_next_then (At Skips e w) f h = h
not_next_then (At Returns e w) f h = h
not_next_then (Over end w) f h = h

then_not_next : {E : Type 0} (r : Result E) (f : Run E) → ((e : E) (w : World) → IsLeft (f e w)) → IsLeft (r ▷ f)
then_not_next (At Next e w) f h = h e w
then_not_next (At Leaves e w) f h = tt
then_not_next (At Skips e w) f h = tt
then_not_next (At Returns e w) f h = tt
then_not_next (Over end w) f h = tt

pub either_true : (a b c : Bool) → ((a && b) || c) ≡ true → (b ≡ true) ⊎ (c ≡ true)
either_true true true c h = inl refl
either_true true false c h = inr h
either_true false b c h = inr h

module _ (n : ℕ) (p : Program) (calls : Calls) where
  last_leaves : (item : Item) → is_end item ≡ true → (e : Env) (w : World) → IsLeft ((meaning p (λ v. true) calls).does item e w)
  last_leaves (Return x) h e w = tt
  last_leaves (Halt x) h e w = tt
  last_leaves (Assign v x) h e w = cc
  last_leaves (Load v kind x) h e w = cc
  last_leaves (Store width x y) h e w = cc
  last_leaves (Print spelling x) h e w = cc
  last_leaves (Expect check) h e w = cc
  last_leaves Break h e w = tt
  last_leaves Continue h e w = tt
  last_leaves (Call v f xs) h e w = cc

  closed_leaves : (c : Form) → is_closed c ≡ true → (e : Env) (w : World) → IsLeft (exec (meaning p (λ v. true) calls) n c e w)
  closed_leaves Done h e w = cc
  closed_leaves (Do place item k) h e w = by (closed_leaves k) (either_true (is_done k) (is_end item) (is_closed k) h) where
    by : (is_closed k ≡ true → (e : Env) (w : World) → IsLeft (exec (meaning p (λ v. true) calls) n k e w)) → (is_end item ≡ true) ⊎ (is_closed k ≡ true) → IsLeft ((meaning p (λ v. true) calls).does item e w ▷ exec (meaning p (λ v. true) calls) n k)
    by go (inl g) = not_next_then _ _ (last_leaves item g e w)
    by go (inr g) = then_not_next _ _ (go g)
  closed_leaves (If place t a b k) h e w = then_not_next _ _ (closed_leaves k h)
  closed_leaves (Loop place a b k) h e w = then_not_next _ _ (closed_leaves k h)

  -- parameters are stored
  parameters_do : (m : ℕ) (place : Place) (slots : List (Option FrameSlot)) (k q : ℕ) → k + length slots ≤ m → m ≤ q → (q ≤ (parameters_stored place slots k q).next) × ((env other : Env) (w : World) (i t : ℕ) → Agree m env other → i + t + w.loads ≤ 9 * w.items → Same m m everything t other (kept slots k env w) (run m n p calls (parameters_stored place slots k q).code other (at i w)))
  parameters_do m place [] k q h j = (omega arith, λ env other w i t g o. Goes Next env other w i g (λ v z x. refl) o)
  parameters_do m place (None ∷ slots) k q h j = parameters_do m place slots (k + 1) q (omega (arith, h)) j
  parameters_do m place (Some slot ∷ slots) k q h j = by (parameters_do m place slots (k + 1) (q + 1) (omega (arith, h)) (omega (arith, j))) where
    by : (q + 1 ≤ (parameters_stored place slots (k + 1) (q + 1)).next) × ((env other : Env) (w : World) (i t : ℕ) → Agree m env other → i + t + w.loads ≤ 9 * w.items → Same m m everything t other (kept slots (k + 1) env w) (run m n p calls (parameters_stored place slots (k + 1) (q + 1)).code other (at i w))) → (q ≤ (parameters_stored place (Some slot ∷ slots) k q).next) × ((env other : Env) (w : World) (i t : ℕ) → Agree m env other → i + t + w.loads ≤ 9 * w.items → Same m m everything t other (kept (Some slot ∷ slots) k env w) (run m n p calls (parameters_stored place (Some slot ∷ slots) k q).code other (at i w)))
    by rest = (
      omega (arith, rest.0),
      λ env other w i t g o.
          let other1 : Env = put true q (plus w.frame slot.offset) other in
          subst (λ (x : ℕ). Same m m everything t other (store slot.width x (env k) env (ticked w) ▷ kept slots (k + 1)) (run m n p calls (parameters_stored place (Some slot ∷ slots) k q).code other (at i w))) (put_same q (plus w.frame slot.offset) other)
          (subst (λ (x : ℕ). Same m m everything t other (store slot.width (other1 q) x env (ticked w) ▷ kept slots (k + 1)) (run m n p calls (parameters_stored place (Some slot ∷ slots) k q).code other (at i w))) (put_other q (plus w.frame slot.offset) k other (λ e. omega (arith, e, h, j)) ∙ g k (omega (arith, h)))
          (stored rest env other other1 w i t (agree_put m n p calls nowhere q (plus w.frame slot.offset) env other j g) (λ v z x. put_other q (plus w.frame slot.offset) v other (λ e. omega (arith, e, z, j))) o (misplaced slot.width (other1 q) (length w.memory)))),
    ) where
      stored : (q + 1 ≤ (parameters_stored place slots (k + 1) (q + 1)).next) × ((env other : Env) (w : World) (i t : ℕ) → Agree m env other → i + t + w.loads ≤ 9 * w.items → Same m m everything t other (kept slots (k + 1) env w) (run m n p calls (parameters_stored place slots (k + 1) (q + 1)).code other (at i w))) → (env other other1 : Env) (w : World) (i t : ℕ) → Agree m env other1 → Kept m m everything other other1 → i + t + w.loads ≤ 9 * w.items → (f : Option ℕ) → Same m m everything t other (within f (ticked w) (At Next env (with_written slot.width (other1 q) (other1 k) (ticked w))) ▷ kept slots (k + 1)) (within f (at (i + 1) w) (At Next other1 (at (i + 1 + 1) (with_written slot.width (other1 q) (other1 k) (ticked w)))) ▷ run m n p calls (parameters_stored place slots (k + 1) (q + 1)).code)
      stored rest env other other1 w i t g c o None = same_from m m m everything t t other other1 (omega arith) (omega arith) c _ _ (rest.1 env other1 (with_written slot.width (other1 q) (other1 k) (ticked w)) (i + 1 + 1) t g (omega (arith, o)))
      stored rest env other other1 w i t g c o (Some code) = Halts Astray (ticked w) (i + 1) (omega (arith, o))

-- a call has come back alike, or both end alike
data BackSame (t : ℕ) (old : World) : Outcome ℕ → Result Env → Type 0 where
  Returned : (x : ℕ) (env other : Env) (way : Way) (u : World) (j : ℕ) → other 0 ≡ x → j + t + u.loads ≤ 9 * u.items → BackSame t old (Gives x env (back old u)) (At way other (at j u))
  Ended : (end : End) (u : World) (j : ℕ) → j + u.loads ≤ 9 * u.items → BackSame t old (Ends end u) (Over end (at j u))

module _ (m n : ℕ) (p : Program) (calls : Calls) (some : 0 < m) where
  -- where the code goes elsewhere by itself
  finish_closed : (t k : ℕ) (old : World) (e : Env) (r q : Result Env) → Same m k everything t e r q → IsLeft q → BackSame t old (came_back old r) q
  finish_closed t k old e r q (Goes Next env other w i a b o) h = absurd h
  finish_closed t k old e r q (Goes Leaves env other w i a b o) h = Returned (env 0) env other Leaves w i (a 0 some) o
  finish_closed t k old e r q (Goes Skips env other w i a b o) h = Returned (env 0) env other Skips w i (a 0 some) o
  finish_closed t k old e r q (Goes Returns env other w i a b o) h = Returned (env 0) env other Returns w i (a 0 some) o
  finish_closed t k old e r q (Halts end w i o) h = Ended end w i o

  -- where 0 is returned behind it
  finish_open : (t k : ℕ) (place : Place) (old : World) (e : Env) (r q : Result Env) → Same m k everything (t + 1) e r q → BackSame t old (came_back old r) (q ▷ run m n p calls (one place (Return (Number 0))))
  finish_open t k place old e r q (Goes Next env other w i a b o) = Returned 0 env (put true 0 0 other) Returns w (i + 1) (put_same 0 0 other) (omega (arith, o))
  finish_open t k place old e r q (Goes Leaves env other w i a b o) = Returned (env 0) env other Leaves w i (a 0 some) (omega (arith, o))
  finish_open t k place old e r q (Goes Skips env other w i a b o) = Returned (env 0) env other Skips w i (a 0 some) (omega (arith, o))
  finish_open t k place old e r q (Goes Returns env other w i a b o) = Returned (env 0) env other Returns w i (a 0 some) (omega (arith, o))
  finish_open t k place old e r q (Halts end w i o) = Ended end w i o

  finish : (t k : ℕ) (place : Place) (old : World) (e other : Env) (u : World) (r : Result Env) (core : Form) → Same m k everything (t + 1) e r (run m n p calls core other u) → BackSame t old (came_back old r) (run m n p calls (closed place (Return (Number 0)) core) other u)
  finish t k place old e other u r core h = by (is_closed core) refl where
    by : (b : Bool) → is_closed core ≡ b → BackSame t old (came_back old r) (run m n p calls (if b then core else core ⨾ one place (Return (Number 0))) other u)
    by true g = finish_closed t k old e r _ (same_from m k k everything (t + 1) t e e (omega arith) (omega arith) (λ v z x. refl) _ _ h) (closed_leaves n p calls core g other u)
    by false g = subst (λ (q : Result Env). BackSame t old (came_back old r) q) (sym (exec_then (meaning p (λ v. true) calls) n core (one place (Return (Number 0))) other u)) (finish_open t k place old e r _ h)

not_main : (a b : ℕ) → a ≢ b → nat_eq a b ≡ false
not_main a b h = by (nat_eq a b) refl where
  by : (x : Bool) → nat_eq a b ≡ x → x ≡ false
  by false e = refl
  by true e = absurd (h (grind (arith, nat_tests, e)))

module _ (n : ℕ) (source : tree.Program) (place : ℕ → Place) (variables : ℕ → ℕ) (main : ℕ) (scoped : KeepsScope source variables main)
    (prints_do : (m : ℕ) (s : ProgramSetup) (l : Links) (p : Program) (calls : Calls) (places : (k : ℕ) → s.address k ≡ l.address k) (called : Called m n s l p calls places) (some : 0 < m) → PrintsDo m n s l p calls places called some)
    (initialises_do : (m : ℕ) (s : ProgramSetup) (l : Links) (p : Program) (calls : Calls) (places : (k : ℕ) → s.address k ≡ l.address k) (called : Called m n s l p calls places) (some : 0 < m) → InitialisesDo m n s l p calls places called some)
    (switches_do : (m : ℕ) (s : ProgramSetup) (l : Links) (p : Program) (calls : Calls) (places : (k : ℕ) → s.address k ≡ l.address k) (called : Called m n s l p calls places) (some : 0 < m) → SwitchesDo m n s l p calls places called some) where
  abbrev form : Program
  form = program_form source place variables main

  abbrev setup_of : ℕ → ℕ → ProgramSetup
  setup_of depth f = let g = source.function f in record { address = g.address; calls = λ h. program_calls source false n depth (g.callee h) }

  abbrev links_of : ℕ → Links
  links_of f = let g = source.function f in record { address = g.address; callee = g.callee }

  abbrev CallsSame : ℕ → Type 0
  CallsSame depth = (f : ℕ) (xs : List ℕ) (w : World) (i t : ℕ) → nat_eq f main ≡ false → i + (t + 1) + w.loads ≤ 9 * w.items → no_room source (source.function f) w ≡ None → BackSame t w (program_calls source false n depth f xs w) (calls_of form all_loads n depth f xs (at i w))

  abbrev callee_of : ℕ → ℕ → ℕ
  callee_of f g = let h = source.function f in h.callee g

  abbrev frame_of : ℕ → ℕ
  frame_of f = let h = source.function f in h.frame

  -- what a call's test for room finds
  abbrev lacks_room : ℕ → World → Bool
  lacks_room g w = nat_lt source.limit (w.depth + 1) || nat_lt (length w.memory) (w.top + frame_of g)

  abbrev body_of : ℕ → tree.Statements
  body_of f = let h = source.function f in h.body

  abbrev slots_of : ℕ → List (Option FrameSlot)
  slots_of f = let h = source.function f in h.parameters

  -- a function's code but for its ends
  abbrev core_of : ℕ → Form
  core_of f = (parameters_stored (place f) (slots_of f) 1 (variables f) ≫ λ x. statements (links_of f) (body_of f)).code

  abbrev entry : List ℕ → Env
  entry xs = entered (λ _. true) 1 xs

  no_room_ends : (depth g : ℕ) (xs : List ℕ) (w : World) → lacks_room g w ≡ true → program_calls source false n depth g xs w ≡ Ends (Trapped 4) w
  no_room_ends zero g xs w e = ap (λ (b : Bool). unless (passed b) (Ends Astray w) w) e
  no_room_ends (suc depth) g xs w e = ap (λ (b : Bool). unless (passed b) (came_back w (kept (slots_of g) 1 (entry xs) (entered_world (source.function g) w) ▷ does (setup_of depth g) false n (body_of g))) w) e

  -- a call behind its test
  called_of : (depth f : ℕ) → CallsSame depth → Called (variables f) n (setup_of depth f) (links_of f) form (calls_of form all_loads n depth) (λ k. refl)
  called_of depth f same pl g ys env other w i t v k mv kv ag o = by (lacks_room (callee_of f g) w) refl where
    come : (r : Outcome ℕ) (q : Result Env) → BackSame t w r q → Alike (variables f) k nowhere (Holding (Variable v)) t other (returned env r) (ended {E = Env} (λ (a : Env). put true v (a 0) other) (at (i + 1) w) q ▷ At Next)
    come r q (Returned x env' other' way u j h d) = Both x env (put true v (other' 0) other) (back w u) j (agree_put (variables f) n form (calls_of form all_loads n depth) nowhere v (other' 0) env other mv ag) (kept_put (variables f) n form (calls_of form all_loads n depth) nowhere v k (other' 0) other kv) (put_same v (other' 0) other ∙ h) d
    come r q (Ended end u j d) = Stop end u j d

    by : (b : Bool) → lacks_room (callee_of f g) w ≡ b → Alike (variables f) k nowhere (Holding (Variable v)) t other (returned env (program_calls source false n depth (callee_of f g) (all_held ys other) w)) (run (variables f) n form (calls_of form all_loads n depth) (Do pl (Expect (Room (callee_of f g))) (one pl (Call v (callee_of f g) ys))) other (at i w))
    by true e =
        subst (λ (b : Bool). Alike (variables f) k nowhere (Holding (Variable v)) t other (returned env (program_calls source false n depth (callee_of f g) (all_held ys other) w)) (checked (passed b) other (ticked (at i w)) ▷ run (variables f) n form (calls_of form all_loads n depth) (one pl (Call v (callee_of f g) ys)))) (sym e)
        (subst (λ (r : Outcome ℕ). Alike (variables f) k nowhere (Holding (Variable v)) t other (returned env r) (Over (Trapped 4) (at (i + 1) w))) (sym (no_room_ends depth (callee_of f g) (all_held ys other) w e)) (Stop (Trapped 4) w (i + 1) (omega (arith, o))))
    by false e =
        subst (λ (b : Bool). Alike (variables f) k nowhere (Holding (Variable v)) t other (returned env (program_calls source false n depth (callee_of f g) (all_held ys other) w)) (checked (passed b) other (ticked (at i w)) ▷ run (variables f) n form (calls_of form all_loads n depth) (one pl (Call v (callee_of f g) ys)))) (sym e)
        (subst (λ (b : Bool). Alike (variables f) k nowhere (Holding (Variable v)) t other (returned env (program_calls source false n depth (callee_of f g) (all_held ys other) w)) (within (passed b) (at (i + 1) w) (ended {E = Env} (λ (a : Env). put true v (a 0) other) (at (i + 1) w) (calls_of form all_loads n depth (callee_of f g) (all_held ys other) (at (i + 1 + (2 + length ys)) w))) ▷ At Next)) (sym e)
        (come _ _ (same (callee_of f g) (all_held ys other) w (i + 1 + (2 + length ys)) t (not_main (let h = source.function f in h.callee g) main (scoped.main_alone f g)) (omega (arith, o)) (ap passed e))))

  some_of : (f : ℕ) → 0 < variables f
  some_of f = omega (arith, scoped.parameters f)

  body_does : (depth f : ℕ) → CallsSame depth → (q : ℕ) → variables f ≤ q → Does (variables f) n form (calls_of form all_loads n depth) 0 0 q q (statements (links_of f) (body_of f) q) (does (setup_of depth f) false n (body_of f))
  body_does depth f same q h =
      statements_do (variables f) n (setup_of depth f) (links_of f) form (calls_of form all_loads n depth) (λ k. refl) (called_of depth f same) (some_of f)
      (prints_do (variables f) (setup_of depth f) (links_of f) form (calls_of form all_loads n depth) (λ k. refl) (called_of depth f same) (some_of f))
      (initialises_do (variables f) (setup_of depth f) (links_of f) form (calls_of form all_loads n depth) (λ k. refl) (called_of depth f same) (some_of f))
      (switches_do (variables f) (setup_of depth f) (links_of f) form (calls_of form all_loads n depth) (λ k. refl) (called_of depth f same) (some_of f))
      (body_of f) (scoped.statements f) q h

  -- a function's body, on the world that its caller leaves it
  core_same : (depth f : ℕ) → CallsSame depth → (xs : List ℕ) (w : World) (i t : ℕ) → i + t + w.loads ≤ 9 * w.items → Same (variables f) (variables f) everything t (entry xs) (kept (slots_of f) 1 (entry xs) w ▷ does (setup_of depth f) false n (body_of f)) (run (variables f) n form (calls_of form all_loads n depth) (core_of f) (entry xs) (at i w))
  core_same depth f same xs w i t o = by (parameters_do n form (calls_of form all_loads n depth) (variables f) (place f) (slots_of f) 1 (variables f) (scoped.parameters f) (omega arith)) where
    stored : Made (Unit {0})
    stored = parameters_stored (place f) (slots_of f) 1 (variables f)

    by : (variables f ≤ (parameters_stored (place f) (slots_of f) 1 (variables f)).next) × ((env other : Env) (w : World) (i t : ℕ) → Agree (variables f) env other → i + t + w.loads ≤ 9 * w.items → Same (variables f) (variables f) everything t other (kept (slots_of f) 1 env w) (run (variables f) n form (calls_of form all_loads n depth) (parameters_stored (place f) (slots_of f) 1 (variables f)).code other (at i w))) → Same (variables f) (variables f) everything t (entry xs) (kept (slots_of f) 1 (entry xs) w ▷ does (setup_of depth f) false n (body_of f)) (run (variables f) n form (calls_of form all_loads n depth) (core_of f) (entry xs) (at i w))
    by h =
        subst (λ (u : Result Env). Same (variables f) (variables f) everything t (entry xs) (kept (slots_of f) 1 (entry xs) w ▷ does (setup_of depth f) false n (body_of f)) u) (sym (exec_then (meaning form (λ v. true) (calls_of form all_loads n depth)) n (parameters_stored (place f) (slots_of f) 1 (variables f)).code (statements (links_of f) (body_of f) (parameters_stored (place f) (slots_of f) 1 (variables f)).next).code (entry xs) (at i w)))
        (after_statements (kept (slots_of f) 1 (entry xs) w) _ (does (setup_of depth f) false n (body_of f)) _ (omega arith) (h.1 (entry xs) (entry xs) w i t (λ v l. refl) o)
        (λ env1 other1 w1 i1 g1 k1 o1. same_from (variables f) (parameters_stored (place f) (slots_of f) 1 (variables f)).next (variables f) everything (t + 0) t (entry xs) other1 h.0 (omega arith) k1 _ _ (let b = body_does depth f same (parameters_stored (place f) (slots_of f) 1 (variables f)).next h.0 in b.runs env1 other1 w1 i1 t g1 (omega (arith, o1)))))

  -- the form's calls do what the program's do
  calls_step : (depth : ℕ) → CallsSame depth → CallsSame (suc depth)
  calls_step depth same f xs w i t alone o none =
      subst (λ (b : Bool). BackSame t w (program_calls source false n (suc depth) f xs w) (exec (meaning form (λ v. true) (calls_of form all_loads n depth)) n (function_code (place f) b (source.function f) (variables f)) (entry xs) (deeper form f (at i w)))) (sym alone)
      (subst (λ (a : Option ℕ). BackSame t w (unless a (came_back w (kept (slots_of f) 1 (entry xs) (entered_world (source.function f) w) ▷ does (setup_of depth f) false n (body_of f))) w) (exec (meaning form (λ v. true) (calls_of form all_loads n depth)) n (closed (place f) (Return (Number 0)) (core_of f)) (entry xs) (deeper form f (at i w)))) (sym none)
      (finish (variables f) n form (calls_of form all_loads n depth) (some_of f) t (variables f) (place f) w (entry xs) (entry xs) (deeper form f (at i w)) (kept (slots_of f) 1 (entry xs) (entered_world (source.function f) w) ▷ does (setup_of depth f) false n (body_of f)) (core_of f)
      (core_same depth f same xs (entered_world (source.function f) w) i (t + 1) (omega (arith, o)))))

  calls_same : (depth : ℕ) → CallsSame depth
  calls_same zero = λ f xs w i t alone o none. subst (λ (a : Option ℕ). BackSame t w (unless a (Ends Astray w) w) (Over Astray (at i w))) (sym none) (Ended Astray w i (omega (arith, o)))
  calls_same (suc depth) = calls_step depth (calls_same depth)

  -- ---- the whole

  finish_main : (m k : ℕ) (calls : Calls) → 0 < m → (pl : Place) (old : World) (e other : Env) (u : World) (r : Result Env) (core : Form) → Same m k everything 1 e r (run m n form calls core other u) → IsKept (came_back old r) (run m n form calls (closed pl (Halt (Number 0)) core) other u)
  finish_main m k calls some pl old e other u r core h = by (is_closed core) refl where
    over : (r q : Result Env) → Same m k everything 1 e r q → IsLeft q → IsKept (came_back old r) q
    over r q (Goes Next env o w i a b c) d = absurd d
    over r q (Goes Leaves env o w i a b c) d = record { end = ap Halted (a 0 some); memory = refl; printed = refl; loads = refl; stores = refl; items = omega (arith, c) }
    over r q (Goes Skips env o w i a b c) d = record { end = ap Halted (a 0 some); memory = refl; printed = refl; loads = refl; stores = refl; items = omega (arith, c) }
    over r q (Goes Returns env o w i a b c) d = record { end = ap Halted (a 0 some); memory = refl; printed = refl; loads = refl; stores = refl; items = omega (arith, c) }
    over r q (Halts end w i c) d = record { end = refl; memory = refl; printed = refl; loads = refl; stores = refl; items = c }

    open' : (r q : Result Env) → Same m k everything 1 e r q → IsKept (came_back old r) (q ▷ run m n form calls (one pl (Halt (Number 0))))
    open' r q (Goes Next env o w i a b c) = record { end = refl; memory = refl; printed = refl; loads = refl; stores = refl; items = omega (arith, c) }
    open' r q (Goes Leaves env o w i a b c) = record { end = ap Halted (a 0 some); memory = refl; printed = refl; loads = refl; stores = refl; items = omega (arith, c) }
    open' r q (Goes Skips env o w i a b c) = record { end = ap Halted (a 0 some); memory = refl; printed = refl; loads = refl; stores = refl; items = omega (arith, c) }
    open' r q (Goes Returns env o w i a b c) = record { end = ap Halted (a 0 some); memory = refl; printed = refl; loads = refl; stores = refl; items = omega (arith, c) }
    open' r q (Halts end w i c) = record { end = refl; memory = refl; printed = refl; loads = refl; stores = refl; items = c }

    by : (b : Bool) → is_closed core ≡ b → IsKept (came_back old r) (run m n form calls (if b then core else core ⨾ one pl (Halt (Number 0))) other u)
    by true g = over r _ h (closed_leaves n form calls core g other u)
    by false g = subst (λ (q : Result Env). IsKept (came_back old r) q) (sym (exec_then (meaning form (λ v. true) calls) n core (one pl (Halt (Number 0))) other u)) (open' r _ h)

  -- the form of a program ends as the program does, with the same output, memory, reads and writes
  pub program_same : (depth : ℕ) (w : World) → source.limit ≡ suc depth → w.depth ≡ 0 → w.top ≤ length w.memory → 1 ≤ w.items → w.loads ≡ 0 → IsKept (program_calls source false n (suc depth) main [] w) (calls_of form all_loads n (suc depth) main [] (at 0 w))
  program_same depth w limit none fits items unread =
      subst (λ (b : Bool). IsKept (program_calls source false n (suc depth) main [] w) (exec (meaning form (λ v. true) (calls_of form all_loads n depth)) n (function_code (place main) b (source.function main) (variables main)) (entry []) (deeper form main (at 0 w)))) (sym is_main)
      (subst (λ (b : Bool). IsKept (unless (passed (b || nat_lt (length w.memory) (w.top + frame_of main))) (came_back w (kept (slots_of main) 1 (entry []) (entered_world (source.function main) w) ▷ does (setup_of depth main) false n (body_of main))) w) (exec (meaning form (λ v. true) (calls_of form all_loads n depth)) n (function_code (place main) true (source.function main) (variables main)) (entry []) (deeper form main (at 0 w)))) (sym deep)
      (by (nat_eq (frame_of main) 0) (nat_lt (length w.memory) (w.top + frame_of main)) refl refl)) where
        is_main : nat_eq main main ≡ true
        is_main = by (nat_eq main main) refl where
          by : (b : Bool) → nat_eq main main ≡ b → b ≡ true
          by true e = refl
          by false e = let c : main ≡ main = refl in absurd (grind (arith, nat_tests))

        deep : nat_lt source.limit (w.depth + 1) ≡ false
        deep = by (nat_lt source.limit (w.depth + 1)) refl where
          by : (b : Bool) → nat_lt source.limit (w.depth + 1) ≡ b → b ≡ false
          by true e = absurd (grind (arith, nat_tests, limit, none))
          by false e = refl

        inside : (j : ℕ) → j + 1 + w.loads ≤ 9 * w.items → IsKept (came_back w (kept (slots_of main) 1 (entry []) (entered_world (source.function main) w) ▷ does (setup_of depth main) false n (body_of main))) (exec (meaning form (λ v. true) (calls_of form all_loads n depth)) n (closed (place main) (Halt (Number 0)) (core_of main)) (entry []) (at j (entered_world (source.function main) w)))
        inside j h = finish_main (variables main) (variables main) (calls_of form all_loads n depth) (some_of main) (place main) w (entry []) (entry []) (at j (entered_world (source.function main) w)) (kept (slots_of main) 1 (entry []) (entered_world (source.function main) w) ▷ does (setup_of depth main) false n (body_of main)) (core_of main) (core_same depth main (calls_same depth) [] (entered_world (source.function main) w) j 1 h)

        by : (b c : Bool) → nat_eq (frame_of main) 0 ≡ b → nat_lt (length w.memory) (w.top + frame_of main) ≡ c → IsKept (unless (passed c) (came_back w (kept (slots_of main) 1 (entry []) (entered_world (source.function main) w) ▷ does (setup_of depth main) false n (body_of main))) w) (exec (meaning form (λ v. true) (calls_of form all_loads n depth)) n (checks (true && not b) (place main) (Expect Frame) (closed (place main) (Halt (Number 0)) (core_of main))) (entry []) (deeper form main (at 0 w)))
        by true true e f = absurd (grind (arith, nat_tests, e, f, fits))
        by true false e f = inside 0 (omega (arith, items, unread))
        by false true e f = subst (λ (b : Bool). IsKept (Ends (Trapped 4) w) (checked {E = Env} (passed b) (entry []) (ticked (deeper form main (at 0 w))) ▷ exec (meaning form (λ v. true) (calls_of form all_loads n depth)) n (closed (place main) (Halt (Number 0)) (core_of main)))) (sym f) (record { end = refl; memory = refl; printed = refl; loads = refl; stores = refl; items = omega (arith, items, unread) })
        by false false e f = subst (λ (b : Bool). IsKept (came_back w (kept (slots_of main) 1 (entry []) (entered_world (source.function main) w) ▷ does (setup_of depth main) false n (body_of main))) (checked {E = Env} (passed b) (entry []) (ticked (deeper form main (at 0 w))) ▷ exec (meaning form (λ v. true) (calls_of form all_loads n depth)) n (closed (place main) (Halt (Number 0)) (core_of main)))) (sym f) (inside 1 (omega (arith, items, unread)))

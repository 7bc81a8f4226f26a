-- Each move of a side is a walk of its code.
use Rattle.std.proofs.Common.{◌≡◌, ℕ, zero, suc, ◌+◌, ◌*◌, ◌^◌, ◌≤◌, ◌<◌, Bool, true, false, ◌||◌, List, [], ◌∷◌, length, refl, ap, sym, ◌∙◌, subst, arith}
use Rattle.std.specs.Prelude.{Option, Some, None, is_some, nat_lt, nat_eq, not, if◌then◌else◌}
use Rattle.std.specs.List.{AllByRecursion}
use Rattle.std.proofs.lemmas.Bool.Decides.{nat_tests}
use Rattle.dae_encode.specs.Processor.{Processor}
use Rattle.dae_machine.specs.Machine.{Setup}
use Rattle.dae_ir.specs.Code.{Done, Do, If, Loop}
use Rattle.dae_meaning.specs.Worlds.{World}
use Rattle.dae_meaning.specs.Operations.{passed}
use Rattle.dae_meaning.specs.Variables.{Env, put}
use Rattle.dae_ir.specs.Form.{Program, value, holds, deeper}
use Rattle.dae_ir.specs.Classes.{VariableSet}
use Rattle.dae_ir.specs.Streams.{Actions}
use Rattle.dae_ir.specs.Deeds.{Deed, deed, told_on, heard_on}
use Rattle.dae_ir.specs.declared.form.Operand.{Operand}
use Rattle.dae_ir.specs.declared.form.Test.{Test}
use Rattle.dae_ir.specs.declared.stream.Mark.{Mark}
use Rattle.dae_ir.specs.declared.stream.Argument.{Argument}
use Rattle.dae_ir.specs.declared.stream.Action.{Action}
use Rattle.dae_ir.specs.declared.stream.Action.TheVariants.{Set as Compute, Issue, Own, Receive, Address, Datum, Offer, Accept, Emit, Probe, Tell, Hear, Stop, Break, Continue, Call, Return}
use Rattle.dae_ir.specs.declared.stream.Branch.{Branch}
use Rattle.dae_ir.specs.declared.stream.Branch.TheVariants.{Silent, Tells, Hears}
use Rattle.dae_machine.specs.Uses.{Use, Pushes}
use Rattle.dae_machine.specs.Uses.{Takes}
use Rattle.dae_machine_rounds.specs.Follows.{IsFit as IsFitUse, DeedOutcome, Leaves, Quits, Follows, went, takes, pushes, reserves, sends, says, halts}
use Rattle.dae_machine_rounds.specs.Spots.{turn_least, Behind, Ends, After, Body, Turn, Point, point, left, skipped, Spot, spot, HeldCall, waits, put_some, resumed, given, with_result, weight, Came, came, Moves, acts, goes_behind, ends_body, ends_step, breaks, continues, branches, tells, hears, enters, calls_it, returns, goes_back}
use Rattle.dae_machine_rounds.specs.Sides.{SideWalked, Agrees, Implements}
use Rattle.dae_select_walks.specs.Walks.{Comes}
use Rattle.dae_select_walks.specs.Does.{Does}
use Rattle.dae_select_walks.specs.Live.{none}
use Rattle.dae_select_walks.specs.Facts.{Facts, Hold, LeavesOnly, unknown, facts_behind, facts_in_first, facts_in_second, facts_at_turn, facts_at_step, facts_past_if, facts_past_loop, Outs, outs, FactsGo}
use Rattle.dae_select_walks.proofs.LawsOfWalks.{returned_facts, deed_facts, facts_go, Goes_by, branch_lies}
use Rattle.dae_select_walks.specs.Agrees.{Plan, Moment, CallFrame as Waiting', IsWithin, top_of}
use Rattle.dae_select_walks.specs.declared.VariableStanding.{VariableStanding}
use Rattle.dae_select_walks.specs.declared.VariableStanding.TheVariants.{Settled, Early, Late}
use Rattle.dae_select_walks.specs.Compiled.{HoldsAt, Exit, Exits, exit, exits, with_env, GoesBack, begins_told, with_result as with_result', result_of, given as given', waiting_of, called, IsAnswered, Lands, IsWorldOf}
use Rattle.dae_select_blocks.specs.Wanted.{IsPlanOf}
use Rattle.dae_link_faithful.specs.Made.{IsTight, IsClosed, AreWhole}
use Rattle.dae_link_faithful.proofs.Walked.{Walks_to, Ended, comes_walks, nears_walks, here_walks, walks_more, just_comes, use_walks, acts_walks, used_walks, does_walks}
use Rattle.dae_link_faithful.proofs.Agree.{Around, body_exits, step_exits, TightAt, ClosedAt, s, entries, GoesOn, CodeAt, CodeWith, FitsCode, FitsBehind, LoopDone, BehindDone, moment, StandsAt, AreCalls, HasReturned, Landed, At}
use Rattle.dae_link_faithful.proofs.Ways.{tight_map, closed_map, agrees_at, Leads_to, left_leads, skipped_leads}

-- ---- small facts

none_known : (env : Env) → Hold unknown env
none_known env = record { outer = tt; inner = tt }

-- behind a function nothing is to be known
pub nothing_goes : (memory : ℕ) (code : Actions) → FactsGo memory unknown code (outs unknown unknown unknown)
nothing_goes memory code = facts_go memory code unknown (outs unknown unknown unknown) (record { next = λ env h. none_known env; leaves = λ env h. none_known env; skips = λ env h. none_known env })

-- what is known in the list that a branch goes to
branch_held : (b : Branch) (known : Facts) (env : Env) (t : Bool) → Hold known env → Goes_by b t env → Hold (if t then facts_in_first b known else facts_in_second b known) env
branch_held b known env true h e = branch_lies b true known env h e
branch_held b known env false h e = branch_lies b false known env h e

-- what a deed leaves, whatever words the queues give
follows_only : {d : Deed} {uses : List Use} {o : DeedOutcome} (P : Env → Type 0) → Follows d uses o → LeavesOnly P d → (e : Env) → o ≡ Leaves e → P e
follows_only P (went {env}) h e same = let left : env ≡ e = cc in subst P left h
follows_only P (takes x f) h e same = follows_only P f (h x) e same
follows_only P (pushes f) h e same = follows_only P f h e same
follows_only P (reserves f) h e same = follows_only P f h e same
follows_only P (sends f) h e same = follows_only P f h e same
follows_only P (says f) h e same = follows_only P f h e same
follows_only P halts h e same = absurd cc

-- there is room where the check of it doesn't fail
room_is : (a b c d : ℕ) → passed (nat_lt a b || nat_lt c d) ≡ None → (b ≤ a) × (d ≤ c)
room_is a b c d h = by (nat_lt a b) (nat_lt c d) refl refl h
  where
    by : (x y : Bool) → nat_lt a b ≡ x → nat_lt c d ≡ y → passed (x || y) ≡ None → (b ≤ a) × (d ≤ c)
    by false false ea eb e = (grind (arith, nat_tests), grind (arith, nat_tests))
    by false true ea eb e = absurd cc
    by true y ea eb e = absurd cc

same_given : (xs : List Argument) (env : Env) → given' xs env ≡ given xs env
same_given [] env = refl
same_given (x ∷ xs) env = ap (λ (e : Env). put true x.parameter (value x.operand env) e) (same_given xs env)

-- however what it holds stands to the moment, the moment is within the limits
at_within : (plan : Plan) (standing : VariableStanding) (live : VariableSet) (m : Moment) (word : ℕ) (q : Processor) → HoldsAt plan standing live m word q → IsWithin plan m
at_within plan Settled live m word q h = h.agrees.within
at_within plan (Early v x) live m word q h = (let w = h.agrees.within in record { depth = w.depth; frame = w.frame })
at_within plan (Late v x) live m word q h = (let w = h.2.agrees.within in record { depth = w.depth; frame = w.frame })

abbrev is_leaving : DeedOutcome → Bool
is_leaving (Leaves env) = true
is_leaving (Quits quit) = false

module _ (setup : Setup) (plan : Plan) (p : Program) (body : ℕ → Actions) (n widest functions : ℕ) (answered : ℕ → Bool) where
  abbrev S : Spot → Processor → Type 0
  S at' q = StandsAt setup plan p body n widest functions answered at' q

  abbrev pub A : Spot → Processor → Type 0
  A at' q = At setup plan p body n widest functions answered at' q

  abbrev On : ℕ → Exit → Moment → Processor → Type 0
  On f x m q = GoesOn setup plan p body n widest functions answered f x m q

  abbrev To : ℕ → ℕ → Processor → List Use → (Processor → Type 0) → Type 0
  To least most q uses Q = Walks_to setup plan.by_a least most q uses Q

  -- each function is done from its start, ends with a return or a halt, and gives the results that are waited for
  pub record IsDone : Type 0 where
    pub memory : setup.memory ≡ plan.memory
    pub is_plan : IsPlanOf p plan
    pub bodies : (f : ℕ) → f < functions → (end : ℕ) × CodeWith setup plan p body n widest functions answered f unknown (body f) (exit (plan.start f) (entries setup plan p body n widest functions answered f)) (exits (exit end none) (exit end none) (exit end none))
    pub whole : AreWhole functions answered body

  stands_as : {f : ℕ} {m m' : Moment} (x : Exit) (q : Processor) → m ≡ m' → On f x m q → On f x m' q
  stands_as {f} {m} {m'} x q e h = subst (λ (z : Moment). On f x z q) e h

  -- ---- calls

  call_within : (f g : ℕ) (env : Env) (w : World) (ws : List Waiting') (first : Waiting') (xs : List Argument) → IsDone → length w.memory ≡ setup.memory → passed (nat_lt p.limit (w.depth + 1) || nat_lt (length w.memory) (w.top + p.frame g)) ≡ None → w.top ≡ w.frame + plan.frame f → w.depth ≡ length ws + 1
      → IsWithin plan (called plan g xs first (moment setup plan p body n widest functions answered f env w.frame ws))
  call_within f g env w ws first xs d size room top depth =
      let r = room_is p.limit (w.depth + 1) (length w.memory) (w.top + p.frame g) room in
      let r0 = r.0 in let r1 = r.1 in let e = d.memory in let l = d.is_plan.limit in
      record { depth = omega arith; frame = omega arith }

  call_moved : (q : Processor) {m : Mark} {v : Option ℕ} {f : ℕ} {xs : List Argument} {k : Actions} {b : Behind} {env : Env} {calls : List HeldCall} (w : World) → IsDone → length w.memory ≡ setup.memory → passed (nat_lt p.limit (w.depth + 1) || nat_lt (length w.memory) (w.top + p.frame f)) ≡ None
      → S (spot (point (Do m (Call v f xs) k) b) env w calls) q → To 0 (widest + 6 * length xs) q [] (A (spot (point (body f) Ends) (given xs env) (deeper p f w) (waits v (point k b) env w ∷ calls)))
  call_moved q {m} {v} {f} {xs} {k} {b} {env} {calls} w d size room h =
      let M : Moment = moment setup plan p body n widest functions answered h.function env w.frame h.waiting in
      let x : Exits = h.exits' in
      let done = h.placed.done.does in
      let fits = h.placed.fits in
      let first : Waiting' = waiting_of v done.0.live done.1.0 M in
      let within = call_within h.function f env w h.waiting first xs d size room h.top h.depth in
      let known = d.is_plan.frame f in
      let enters = done.1.1 M q h.stands within in
      let own : IsWithin plan M = at_within plan h.here.standing h.here.live M h.here.word q h.stands.1 in
      let body_done = d.bodies f fits.0.0 in
      let same : called plan f xs first M ≡ moment setup plan p body n widest functions answered f (given xs env) w.top (first ∷ h.waiting) =
      ap (λ (e : Env). record { function = f; env = e; frame = top_of plan M; waiting = first ∷ h.waiting }) (same_given xs env) ∙ ap (λ (t : ℕ). record { function = f; env = given xs env; frame = t; waiting = first ∷ h.waiting }) (sym h.top) in
      let depth = h.depth in
      just_comes setup plan.by_a enters (λ r g.
      agrees_at setup plan p body n widest functions answered (body f) Ends (given xs env) w.top (w.top + p.frame f) (w.depth + 1) (waits v (point k b) env w ∷ calls) r (record {
        function = f;
        waiting = first ∷ h.waiting;
        here = exit (plan.start f) (entries setup plan p body n widest functions answered f);
        exits' = exits (exit body_done.0 none) (exit body_done.0 none) (exit body_done.0 none);
        placed = record { done = record { does = body_done.1; goes = nothing_goes plan.memory (body f) }; next = tt; fits = d.whole.fits f fits.0.0; fits_next = tt; tight = d.whole.tight f fits.0.0; closed = d.whole.closed f fits.0.0 };
        known = unknown;
        out = outs unknown unknown unknown;
        facts = none_known _;
        stands = stands_as (exit (plan.start f) (entries setup plan p body n widest functions answered f)) r same g;
        top = (omega arith);
        depth = (omega arith);
        calls = (
          record {
            here = done.0;
            exits' = x;
            known = facts_behind plan.memory (Call v f xs) h.known;
            out = h.out;
            facts = λ result. returned_facts plan.memory v result f xs h.known env h.facts;
            placed = record { done = record { does = done.2; goes = h.placed.done.goes }; next = h.placed.next; fits = fits.1; fits_next = h.placed.fits_next; tight = tight_map (Do m (Call v f xs) k) k b (λ t. t) h.placed.tight; closed = closed_map (Do m (Call v f xs) k) k b (λ t. t) h.placed.closed };
            env = refl;
            frame = refl;
            top = h.top;
            depth = h.depth;
            within = own;
            answer = fits.0.1;
            resume = λ result t ok lands. done.1.2 M result t refl own ok lands;
          },
          h.calls,
        );
      })) (omega arith)

  -- ---- returns

  has_result : (y : Option Operand) (env : Env) → is_some y ≡ true → result_of y env ≡ Some (with_result y env 0)
  has_result None env h = absurd cc
  has_result (Some x) env h = refl

  returned : (q : Processor) (f : ℕ) (y : Option Operand) (env : Env) (calls : List HeldCall) (ws : List Waiting') → AreCalls setup plan p body n widest functions answered f calls ws → (answered f ≡ true → is_some y ≡ true)
      → ((first : Waiting') (others : List Waiting') → ws ≡ first ∷ others → Comes (s setup plan p body n widest functions answered) n q (Lands plan f first others (result_of y env))) → To 0 n q [] (Landed setup plan p body n widest functions answered (with_result y env 0) calls)
  returned q f y env [] ws h ok back =
      walks_more setup plan.by_a {a = 0} {b = 0} (omega arith) (omega arith) (here_walks setup plan.by_a {p = q} {Q = λ (t : Processor). Unit {0}} tt)
  returned q f y env (c ∷ cs) [] h ok back = absurd h
  returned q f y env (c ∷ cs) (first ∷ others) h ok back =
      just_comes setup plan.by_a (back first others refl) (λ r lands. record { function = f; first = first; others = others; waits = h.0; calls = h.1; result = result_of y env; lands = lands; answer = λ e. has_result y env (ok (h.0.answer e)) }) (omega arith)

  return_moved : (q : Processor) {m : Mark} {y : Option Operand} {k : Actions} {b : Behind} {env : Env} {calls : List HeldCall} (w : World) → S (spot (point (Do m (Return y) k) b) env w calls) q → To 0 n q [] (A (spot (point Done Ends) (with_result y env) w calls))
  return_moved q {m} {y} {k} {b} {env} {calls} w h =
      let M : Moment = moment setup plan p body n widest functions answered h.function env w.frame h.waiting in
      returned q h.function y env calls h.waiting h.calls h.placed.fits.0 (h.placed.done.does.1 M q h.stands).1

  -- ---- back behind a call

  is_answered : (v result : Option ℕ) (x : ℕ) → (is_some v ≡ true → result ≡ Some x) → IsAnswered v result
  is_answered None result x h = tt
  is_answered (Some v) None x h = (let e = h refl in absurd cc)
  is_answered (Some v) (Some y) x h = tt

  puts_result : (v result : Option ℕ) (x : ℕ) (env env' : Env) → env ≡ env' → (is_some v ≡ true → result ≡ Some x) → with_result' v result env ≡ put_some v x env'
  puts_result None result x env env' e h = e
  puts_result (Some v) None x env env' e h = (let f = h refl in absurd cc)
  puts_result (Some v) (Some y) x env env' e h = (let f : Some y ≡ Some x = h refl in let g : y ≡ x = cc in rw (g, e) refl)

  back_moved : (q : Processor) (x : ℕ) {c : HeldCall} {calls : List HeldCall} → HasReturned setup plan p body n widest functions answered x c calls q → To 0 (3 * n) q [] (A (resumed c x calls))
  back_moved q x {c} {calls} h =
      let w = h.waits in
      let same : moment setup plan p body n widest functions answered h.first.function (with_result' c.result h.result h.first.env) h.first.frame h.others ≡ moment setup plan p body n widest functions answered h.first.function (put_some c.result x c.env) c.frame h.others =
      ap (λ (e : Env). record { function = h.first.function; env = e; frame = h.first.frame; waiting = h.others }) (puts_result c.result h.result x h.first.env c.env w.env h.answer) ∙ ap (λ (t : ℕ). record { function = h.first.function; env = put_some c.result x c.env; frame = t; waiting = h.others }) w.frame in
      let top = w.top in let frame = w.frame in
      just_comes setup plan.by_a (w.resume h.result q (is_answered c.result h.result x h.answer) h.lands) (λ r g.
      agrees_at setup plan p body n widest functions answered c.point.code c.point.behind (put_some c.result x c.env) c.frame c.top c.depth calls r (record {
        function = h.first.function;
        waiting = h.others;
        here = w.here;
        exits' = w.exits';
        placed = w.placed;
        known = w.known;
        out = w.out;
        facts = subst (λ (e : Env). Hold w.known e) (puts_result c.result h.result x h.first.env c.env w.env h.answer) (w.facts h.result);
        stands = stands_as w.here r same g;
        top = (omega arith);
        depth = w.depth;
        calls = h.calls;
      })) (omega arith)

  -- ---- branches and loops

  chosen : {f : ℕ} (x y k : Actions) (b : Behind) (env : Env) (calls : List HeldCall) (w : World) (ws : List Waiting') (first second next : Exit) (z : Exits) (kx ky kk : Facts) (out : Outs) (t : Bool) (q : Processor)
      → CodeAt setup plan p body n widest functions answered f kx x first (record z { next = next }) (record out { next = kk }) → CodeAt setup plan p body n widest functions answered f ky y second (record z { next = next }) (record out { next = kk }) → CodeAt setup plan p body n widest functions answered f kk k next z out → BehindDone setup plan p body n widest functions answered f b z out
      → FitsCode setup plan p body n widest functions answered f x → FitsCode setup plan p body n widest functions answered f y → FitsCode setup plan p body n widest functions answered f k → FitsBehind setup plan p body n widest functions answered f b → TightAt x b → TightAt y b → TightAt k b → ClosedAt k b
      → w.top ≡ w.frame + plan.frame f → w.depth ≡ length ws + 1 → AreCalls setup plan p body n widest functions answered f calls ws → Hold (if t then kx else ky) env
      → On f (if t then first else second) (moment setup plan p body n widest functions answered f env w.frame ws) q
      → A (spot (point (if t then x else y) (After k b)) env w calls) q
  chosen {f} x y k b env calls w ws first second next z kx ky kk out true q dx dy dk db fx fy fk fb tx ty tk ck top depth ac held g =
      agrees_at setup plan p body n widest functions answered x (After k b) env w.frame w.top w.depth calls q (record { function = f; waiting = ws; here = first; exits' = record z { next = next }; placed = record { done = dx; next = (next, z, refl, kk, out, refl, dk, db); fits = fx; fits_next = (fk, fb); tight = (tx, tk); closed = ck }; known = kx; out = record out { next = kk }; facts = held; stands = g; top = top; depth = depth; calls = ac })
  chosen {f} x y k b env calls w ws first second next z kx ky kk out false q dx dy dk db fx fy fk fb tx ty tk ck top depth ac held g =
      agrees_at setup plan p body n widest functions answered y (After k b) env w.frame w.top w.depth calls q (record { function = f; waiting = ws; here = second; exits' = record z { next = next }; placed = record { done = dy; next = (next, z, refl, kk, out, refl, dk, db); fits = fy; fits_next = (fk, fb); tight = (ty, tk); closed = ck }; known = ky; out = record out { next = kk }; facts = held; stands = g; top = top; depth = depth; calls = ac })

  silent_moved : (q : Processor) {m : Mark} {t : Test} {x y k : Actions} {b : Behind} {env : Env} {calls : List HeldCall} (w : World) → S (spot (point (If m (Silent t) x y k) b) env w calls) q → To 0 n q [] (A (spot (point (if holds t env then x else y) (After k b)) env w calls))
  silent_moved q {m} {t} {x} {y} {k} {b} {env} {calls} w h =
      let d = h.placed.done.does in let go = h.placed.done.goes in let z : Exits = h.exits' in let fits = h.placed.fits in
      let M : Moment = moment setup plan p body n widest functions answered h.function env w.frame h.waiting in
      let tx = tight_map (If m (Silent t) x y k) x b (λ u. u.0) h.placed.tight in
      let ty = tight_map (If m (Silent t) x y k) y b (λ u. u.1) h.placed.tight in
      let tk = tight_map (If m (Silent t) x y k) k b (λ u. u.2) h.placed.tight in
      let ck = closed_map (If m (Silent t) x y k) k b (λ u. u) h.placed.closed in
      just_comes setup plan.by_a (d.3 M q h.stands) (λ r g. chosen x y k b env calls w h.waiting d.0 d.1 d.2 z (facts_in_first (Silent t) h.known) (facts_in_second (Silent t) h.known) (facts_past_if (Silent t) x y h.known) h.out (holds t env) r (record { does = d.4; goes = go.0 }) (record { does = d.5; goes = go.1 }) (record { does = d.6; goes = go.2 }) h.placed.next fits.1 fits.2 fits.3 h.placed.fits_next tx ty tk ck h.top h.depth h.calls (branch_held (Silent t) h.known env (holds t env) h.facts refl) g) (omega arith)

  tells_moved : (q : Processor) {m : Mark} {t : Test} {x y k : Actions} {b : Behind} {env : Env} {calls : List HeldCall} (w : World) → S (spot (point (If m (Tells t) x y k) b) env w calls) q → To 1 n q (Pushes (told_on plan.by_a) (if holds t env then 1 else 0) ∷ []) (A (spot (point (if holds t env then x else y) (After k b)) env w calls))
  tells_moved q {m} {t} {x} {y} {k} {b} {env} {calls} w h =
      let d = h.placed.done.does in let go = h.placed.done.goes in let z : Exits = h.exits' in let fits = h.placed.fits in
      let M : Moment = moment setup plan p body n widest functions answered h.function env w.frame h.waiting in
      let tx = tight_map (If m (Tells t) x y k) x b (λ u. u.0) h.placed.tight in
      let ty = tight_map (If m (Tells t) x y k) y b (λ u. u.1) h.placed.tight in
      let tk = tight_map (If m (Tells t) x y k) k b (λ u. u.2) h.placed.tight in
      let ck = closed_map (If m (Tells t) x y k) k b (λ u. u) h.placed.closed in
      let does = d.3 M q h.stands in
      used_walks setup plan.by_a (nears_walks setup plan.by_a does.1 (λ l r a. use_walks setup plan.by_a {k = l} (Pushes (told_on plan.by_a) (if holds t env then 1 else 0)) (if holds t env then 1 else 0) refl does.0 a (λ o c. just_comes setup plan.by_a c (λ e g. chosen x y k b env calls w h.waiting d.0 d.1 d.2 z (facts_in_first (Tells t) h.known) (facts_in_second (Tells t) h.known) (facts_past_if (Tells t) x y h.known) h.out (holds t env) e (record { does = d.4; goes = go.0 }) (record { does = d.5; goes = go.1 }) (record { does = d.6; goes = go.2 }) h.placed.next fits.1 fits.2 fits.3 h.placed.fits_next tx ty tk ck h.top h.depth h.calls (branch_held (Tells t) h.known env (holds t env) h.facts refl) g) (omega arith)) (omega arith)) (omega arith))

  hears_moved : (q : Processor) {m : Mark} {x y k : Actions} {b : Behind} {env : Env} {calls : List HeldCall} (w : World) (told : Bool) → S (spot (point (If m Hears x y k) b) env w calls) q → To 1 n q (Takes (heard_on plan.by_a) (if told then 1 else 0) ∷ []) (A (spot (point (if told then x else y) (After k b)) env w calls))
  hears_moved q {m} {x} {y} {k} {b} {env} {calls} w told h =
      let d = h.placed.done.does in let go = h.placed.done.goes in let z : Exits = h.exits' in let fits = h.placed.fits in
      let M : Moment = moment setup plan p body n widest functions answered h.function env w.frame h.waiting in
      let tx = tight_map (If m Hears x y k) x b (λ u. u.0) h.placed.tight in
      let ty = tight_map (If m Hears x y k) y b (λ u. u.1) h.placed.tight in
      let tk = tight_map (If m Hears x y k) k b (λ u. u.2) h.placed.tight in
      let ck = closed_map (If m Hears x y k) k b (λ u. u) h.placed.closed in
      let word : ℕ = if told then 1 else 0 in
      used_walks setup plan.by_a (nears_walks setup plan.by_a (d.3 M q h.stands) (λ l r a. let g = a word (bit_small told) in use_walks setup plan.by_a {k = l} (Takes (heard_on plan.by_a) word) g.0 tt tt g.1 (λ o c. just_comes setup plan.by_a c (λ e g. chosen x y k b env calls w h.waiting d.0 d.1 d.2 z (facts_in_first Hears h.known) (facts_in_second Hears h.known) (facts_past_if Hears x y h.known) h.out told e (record { does = d.4; goes = go.0 }) (record { does = d.5; goes = go.1 }) (record { does = d.6; goes = go.2 }) h.placed.next fits.1 fits.2 fits.3 h.placed.fits_next tx ty tk ck h.top h.depth h.calls (branch_held Hears h.known env told h.facts tt) (heard _ _ _ _ _ told g)) (omega arith)) (omega arith)) (omega arith))
    where
      bit_small : (t : Bool) → (if t then 1 else 0) < 2 ^ 32
      bit_small true = omega arith
      bit_small false = omega arith

      heard : (f : ℕ) (i j : Exit) (M : Moment) (e : Processor) (t : Bool) → On f (if not (nat_eq (if t then 1 else 0) 0) then i else j) M e → On f (if t then i else j) M e
      heard f i j M e true g = g
      heard f i j M e false g = g

  enters_moved : (q : Processor) {m : Mark} {x y k : Actions} {b : Behind} {env : Env} {calls : List HeldCall} (w : World) → S (spot (point (Loop m x y k) b) env w calls) q → To 0 2 q [] (A (spot (point x (Body x y k b)) env w calls))
  enters_moved q {m} {x} {y} {k} {b} {env} {calls} w h =
      let d = h.placed.done.does in let go = h.placed.done.goes in let z : Exits = h.exits' in let fits = h.placed.fits in
      let M : Moment = moment setup plan p body n widest functions answered h.function env w.frame h.waiting in
      let l : Around = record { begin = d.0; again = d.1; end = d.2; next = d.3 } in
      let loop : LoopDone setup plan p body n widest functions answered h.function x y k l z h.out = record { turn = facts_at_turn plan.memory x y h.known; again = facts_at_step plan.memory x y h.known; next = facts_past_loop x y h.known; in_body = record { does = d.5; goes = go.1 }; in_step = record { does = d.6; goes = go.2 }; back = d.7; rest = record { does = d.8; goes = go.3 } } in
      just_comes setup plan.by_a (d.4 M q h.stands) (λ r c.
      agrees_at setup plan p body n widest functions answered x (Body x y k b) env w.frame w.top w.depth calls r (record {
        function = h.function;
        waiting = h.waiting;
        here = l.begin;
        exits' = body_exits l;
        placed = record { done = loop.in_body; next = (l, z, refl, h.out, loop, refl, h.placed.next); fits = fits.0; fits_next = (fits.0, fits.1, fits.2, h.placed.fits_next); tight = tight_map (Loop m x y k) k b (λ u. u) h.placed.tight; closed = closed_map (Loop m x y k) k b (λ u. u) h.placed.closed };
        known = loop.turn;
        out = outs loop.again loop.next loop.again;
        facts = go.0 env h.facts;
        stands = c;
        top = h.top;
        depth = h.depth;
        calls = h.calls;
      })) (omega arith)

  -- ---- ends of lists, and jumps

  -- where it goes on, it agrees
  led : {f : ℕ} {from : Exit} {facts : Facts} (at' : Point) (env : Env) (w : World) (calls : List HeldCall) (ws : List Waiting') (l : Leads_to setup plan p body n widest functions answered f from facts at') → w.top ≡ w.frame + plan.frame f → w.depth ≡ length ws + 1 → AreCalls setup plan p body n widest functions answered f calls ws → Hold facts env
      → (q : Processor) → On f from (moment setup plan p body n widest functions answered f env w.frame ws) q → To 0 2 q [] (A (spot at' env w calls))
  led {f} at' env w calls ws l top depth ac held q h =
      just_comes setup plan.by_a (l.walks (moment setup plan p body n widest functions answered f env w.frame ws) q h) (λ r g.
      agrees_at setup plan p body n widest functions answered at'.code at'.behind env w.frame w.top w.depth calls r (record { function = f; waiting = ws; here = l.here; exits' = l.exits'; placed = l.placed; known = l.known; out = l.out; facts = l.entails env held; stands = g; top = top; depth = depth; calls = ac })) (omega arith)

  behind_moved : (q : Processor) {k : Actions} {b : Behind} {env : Env} {calls : List HeldCall} (w : World) → S (spot (point Done (After k b)) env w calls) q → To 0 2 q [] (A (spot (point k b) env w calls))
  behind_moved q {k} {b} {env} {calls} w h =
      let M : Moment = moment setup plan p body n widest functions answered h.function env w.frame h.waiting in
      let x : Exits = h.exits' in
      let g = h.placed.next in
      let fits = h.placed.fits_next in
      just_comes setup plan.by_a (h.placed.done.does M q h.stands) (λ r c.
      agrees_at setup plan p body n widest functions answered k b env w.frame w.top w.depth calls r (record { function = h.function; waiting = h.waiting; here = g.0; exits' = g.1; placed = record { done = g.6; next = g.7; fits = fits.0; fits_next = fits.1; tight = h.placed.tight.1; closed = h.placed.closed }; known = g.3; out = g.4; facts = subst (λ (o : Outs). Hold o.next env) g.5 (h.placed.done.goes env h.facts); stands = subst (λ (e : Exits). On h.function e.next M r) g.2 c; top = h.top; depth = h.depth; calls = h.calls })) (omega arith)

  body_moved : (q : Processor) {x y k : Actions} {b : Behind} {env : Env} {calls : List HeldCall} (w : World) → S (spot (point Done (Body x y k b)) env w calls) q → To 0 2 q [] (A (spot (point y (Turn x y k b)) env w calls))
  body_moved q {x} {y} {k} {b} {env} {calls} w h =
      let M : Moment = moment setup plan p body n widest functions answered h.function env w.frame h.waiting in
      let g = h.placed.next in
      let fits = h.placed.fits_next in
      just_comes setup plan.by_a (h.placed.done.does M q h.stands) (λ r c.
      agrees_at setup plan p body n widest functions answered y (Turn x y k b) env w.frame w.top w.depth calls r (record { function = h.function; waiting = h.waiting; here = g.0.again; exits' = step_exits g.0; placed = record { done = g.4.in_step; next = (g.0, g.1, refl, g.3, g.4, refl, g.6); fits = fits.1; fits_next = fits; tight = h.placed.tight; closed = h.placed.closed }; known = g.4.again; out = outs g.4.turn g.4.next g.4.turn; facts = subst (λ (o : Outs). Hold o.next env) g.5 (h.placed.done.goes env h.facts); stands = subst (λ (e : Exits). On h.function e.next M r) g.2 c; top = h.top; depth = h.depth; calls = h.calls })) (omega arith)

  -- the way back takes an instruction, but where the body begins with a test that is told
  least_is : (x : Actions) → turn_least x ≡ (if begins_told x then 0 else 1)
  least_is Done = refl
  least_is (Do m a k) = refl
  least_is (If m (Silent t) x y k) = refl
  least_is (If m (Tells t) x y k) = refl
  least_is (If m Hears x y k) = refl
  least_is (Loop m x y k) = refl

  back_walks : (f : ℕ) (told : Bool) (end begin : Exit) (M : Moment) (r : Processor) (Q : Processor → Type 0) → GoesBack (s setup plan p body n widest functions answered) plan p (entries setup plan p body n widest functions answered) n widest f told end begin → On f end M r
      → ((e : Processor) → On f begin M e → Q e) → To (if told then 0 else 1) 2 r [] Q
  back_walks f true end begin M r Q back h to = just_comes setup plan.by_a (back M r h) to (omega arith)
  back_walks f false end begin M r Q back h to = (let a = back M r h in acts_walks setup plan.by_a {k = 1} a.1 (λ o c. just_comes setup plan.by_a c to (omega arith)) (omega arith))

  step_moved : (q : Processor) {x y k : Actions} {b : Behind} {env : Env} {calls : List HeldCall} (w : World) → S (spot (point Done (Turn x y k b)) env w calls) q → To (turn_least x) 4 q [] (A (spot (point x (Body x y k b)) env w calls))
  step_moved q {x} {y} {k} {b} {env} {calls} w h =
      let M : Moment = moment setup plan p body n widest functions answered h.function env w.frame h.waiting in
      let g = h.placed.next in
      let fits = h.placed.fits_next in
      let l : Around = g.0 in let z : Exits = g.1 in
      subst (λ (least : ℕ). To least 4 q [] (A (spot (point x (Body x y k b)) env w calls))) (sym (least_is x))
      (comes_walks setup plan.by_a {k = 2} (h.placed.done.does M q h.stands) (λ r c.
      back_walks h.function (begins_told x) l.end l.begin M r (A (spot (point x (Body x y k b)) env w calls)) g.4.back (subst (λ (e : Exits). On h.function e.next M r) g.2 c) (λ e i.
      agrees_at setup plan p body n widest functions answered x (Body x y k b) env w.frame w.top w.depth calls e (record {
        function = h.function;
        waiting = h.waiting;
        here = l.begin;
        exits' = body_exits l;
        placed = record { done = g.4.in_body; next = (l, z, refl, g.3, g.4, refl, g.6); fits = fits.0; fits_next = fits; tight = h.placed.tight; closed = h.placed.closed };
        known = g.4.turn;
        out = outs g.4.again g.4.next g.4.again;
        facts = subst (λ (o : Outs). Hold o.next env) g.5 (h.placed.done.goes env h.facts);
        stands = i;
        top = h.top;
        depth = h.depth;
        calls = h.calls;
      }))) (omega arith))

  break_moved : (q : Processor) {m : Mark} {k : Actions} {b : Behind} {env : Env} {calls : List HeldCall} (w : World) → S (spot (point (Do m Break k) b) env w calls) q → To 0 4 q [] (A (spot (left b) env w calls))
  break_moved q {m} {k} {b} {env} {calls} w h =
      let M : Moment = moment setup plan p body n widest functions answered h.function env w.frame h.waiting in
      let l = left_leads setup plan p body n widest functions answered h.function b h.exits' h.out (Do m Break k) (Do m Break k) (λ u. u) h.placed.tight h.placed.closed h.placed.next h.placed.fits_next in
      comes_walks setup plan.by_a {k = 2} (h.placed.done.does.1 M q h.stands) (λ r c. led (left b) env w calls h.waiting l h.top h.depth h.calls (h.placed.done.goes env h.facts) r c) (omega arith)

  continue_moved : (q : Processor) {m : Mark} {k : Actions} {b : Behind} {env : Env} {calls : List HeldCall} (w : World) → S (spot (point (Do m Continue k) b) env w calls) q → To 1 4 q [] (A (spot (skipped b) env w calls))
  continue_moved q {m} {k} {b} {env} {calls} w h =
      let M : Moment = moment setup plan p body n widest functions answered h.function env w.frame h.waiting in
      let l = skipped_leads setup plan p body n widest functions answered h.function b h.exits' h.out (Do m Continue k) (Do m Continue k) (λ u. u) h.placed.tight h.placed.closed h.placed.next h.placed.fits_next in
      let a = h.placed.done.does.1 M q h.stands in
      acts_walks setup plan.by_a {k = 3} a.1 (λ r c. comes_walks setup plan.by_a {k = 2} c (λ o g. led (skipped b) env w calls h.waiting l h.top h.depth h.calls (h.placed.done.goes env h.facts) o g) (omega arith)) (omega arith)

  -- ---- actions

  acted : (q : Processor) {m : Mark} (x : Action) {k : Actions} {b : Behind} {env : Env} {calls : List HeldCall} {uses : List Use} {o : DeedOutcome} (w : World) → IsDone → length w.memory ≡ setup.memory → Follows (deed p plan.by_a x w env) uses o → AllByRecursion (IsFitUse setup.memory) uses
      → (h : S (spot (point (Do m x k) b) env w calls) q)
      → ((M : Moment) (w : World) (r : Processor) → On h.function h.here M r → IsWorldOf plan M w → Hold h.known M.env → Does (s setup plan p body n widest functions answered) n (deed p plan.by_a x w M.env) (λ e. On h.function h.placed.done.does.0 (with_env e M)) r)
      → (FactsGo plan.memory h.known (Do m x k) h.out → FactsGo plan.memory (facts_behind plan.memory x h.known) k h.out)
      → (is_leaving o ≡ true → (IsTight (Do m x k) → IsTight k) × (IsClosed (Do m x k) → IsClosed k))
      → To 0 n q uses (Agrees A (came o (λ (e : Env). spot (point k b) e w calls)))
  acted q {m} x {k} {b} {env} {calls} {uses} {o} w d size follows fit h done onward ways =
      let M : Moment = moment setup plan p body n widest functions answered h.function env w.frame h.waiting in
      let top = h.top in let depth = h.depth in let memory = d.memory in
      let world : IsWorldOf plan M w = record { frame = refl; top = h.top; depth = h.depth; memory = (omega arith) } in
      let to : Env → Processor → Type 0 = λ e. On h.function h.placed.done.does.0 (with_env e M) in
      let r = does_walks setup plan.by_a n to (deed p plan.by_a x w env) q (done M w q h.stands world h.facts) follows fit in
      record { after = r.after; steps = r.steps; walks = r.walks; holds = by o r.after ways r.holds (follows_only (Hold (facts_behind plan.memory x h.known)) follows (deed_facts p plan.by_a x w env h.known plan.memory world.memory h.facts)); some = omega arith; few = r.few; words = r.words }
    where
      by : (o : DeedOutcome) (r : Processor) → (is_leaving o ≡ true → (IsTight (Do m x k) → IsTight k) × (IsClosed (Do m x k) → IsClosed k)) → Ended setup plan.by_a o (λ e. On h.function h.placed.done.does.0 (with_env e (moment setup plan p body n widest functions answered h.function env w.frame h.waiting))) r
          → ((e : Env) → o ≡ Leaves e → Hold (facts_behind plan.memory x h.known) e)
          → Agrees A (came o (λ (e : Env). spot (point k b) e w calls)) r
      by (Leaves e) r f g only =
          let fit = f refl in
          agrees_at setup plan p body n widest functions answered k b e w.frame w.top w.depth calls r (record {
            function = h.function;
            waiting = h.waiting;
            here = h.placed.done.does.0;
            exits' = h.exits';
            placed = record { done = record { does = h.placed.done.does.2; goes = onward h.placed.done.goes }; next = h.placed.next; fits = h.placed.fits.1; fits_next = h.placed.fits_next; tight = tight_map (Do m x k) k b fit.0 h.placed.tight; closed = closed_map (Do m x k) k b fit.1 h.placed.closed };
            known = facts_behind plan.memory x h.known;
            out = h.out;
            facts = only e refl;
            stands = g;
            top = h.top;
            depth = h.depth;
            calls = h.calls;
          })
      by (Quits quit) r f g only = g

  -- ---- all moves

  walked : {least most : ℕ} {q : Processor} {uses : List Use} {c : Came} (big : ℕ) → most ≤ big → To least most q uses (Agrees A c) → SideWalked setup plan.by_a A least big q uses c
  walked big l r = let few = r.few in record { after = r.after; steps = r.steps; walks = r.walks; agrees = r.holds; some = r.some; few = omega arith; words = r.words }

  module _ (most : ℕ) (wide : n ≤ most) (call : widest ≤ 4 * most) (argument : 6 ≤ most) (d : IsDone) where
    pub moved : {k : ℕ} {at' : Spot} {uses : List Use} {c : Came} (q : Processor) → A at' q → Moves p plan.by_a setup.memory body k at' uses c → AllByRecursion (IsFitUse setup.memory) uses → SideWalked setup plan.by_a A k (most * weight at') q uses c
    moved q h (acts {x = Compute v y} w is size follows) fit = walked (most * 1) (omega arith) (acted q (Compute v y) w d size follows fit h h.placed.done.does.1 (λ g. g) (λ e. (λ t. t, λ t. t)))
    moved q h (acts {x = Issue kind y} w is size follows) fit = walked (most * 1) (omega arith) (acted q (Issue kind y) w d size follows fit h h.placed.done.does.1 (λ g. g) (λ e. (λ t. t, λ t. t)))
    moved q h (acts {x = Own v kind y} w is size follows) fit = walked (most * 1) (omega arith) (acted q (Own v kind y) w d size follows fit h h.placed.done.does.1 (λ g. g) (λ e. (λ t. t, λ t. t)))
    moved q h (acts {x = Receive v} w is size follows) fit = walked (most * 1) (omega arith) (acted q (Receive v) w d size follows fit h h.placed.done.does.1 (λ g. g) (λ e. (λ t. t, λ t. t)))
    moved q h (acts {x = Address width y} w is size follows) fit = walked (most * 1) (omega arith) (acted q (Address width y) w d size follows fit h h.placed.done.does.1 (λ g. g) (λ e. (λ t. t, λ t. t)))
    moved q h (acts {x = Datum y} w is size follows) fit = walked (most * 1) (omega arith) (acted q (Datum y) w d size follows fit h h.placed.done.does.1 (λ g. g) (λ e. (λ t. t, λ t. t)))
    moved q h (acts {x = Offer v} w is size follows) fit = walked (most * 1) (omega arith) (acted q (Offer v) w d size follows fit h h.placed.done.does.1 (λ g. g) (λ e. (λ t. t, λ t. t)))
    moved q h (acts {x = Accept v} w is size follows) fit = walked (most * 1) (omega arith) (acted q (Accept v) w d size follows fit h h.placed.done.does.1 (λ g. g) (λ e. (λ t. t, λ t. t)))
    moved q h (acts {x = Emit spelling y} w is size follows) fit = walked (most * 1) (omega arith) (acted q (Emit spelling y) w d size follows fit h h.placed.done.does.1 (λ g. g) (λ e. (λ t. t, λ t. t)))
    moved q h (acts {x = Probe check} w is size follows) fit = walked (most * 1) (omega arith) (acted q (Probe check) w d size follows fit h h.placed.done.does.1 (λ g. g) (λ e. (λ t. t, λ t. t)))
    moved q h (acts {x = Tell y} w is size follows) fit = walked (most * 1) (omega arith) (acted q (Tell y) w d size follows fit h h.placed.done.does.1 (λ g. g) (λ e. (λ t. t, λ t. t)))
    moved q h (acts {x = Hear only} w is size follows) fit = walked (most * 1) (omega arith) (acted q (Hear only) w d size follows fit h h.placed.done.does.1 (λ g. g) (λ e. (λ t. t, λ t. t)))
    moved q h (acts {x = Stop y} w is size halts) fit = walked (most * 1) (omega arith) (acted q (Stop y) w d size halts fit h h.placed.done.does.1 (λ g. g) (λ e. absurd cc))
    moved q h (acts {x = Break} w is size follows) fit = absurd cc
    moved q h (acts {x = Continue} w is size follows) fit = absurd cc
    moved q h (acts {x = Call v f xs} w is size follows) fit = absurd cc
    moved q h (acts {x = Return y} w is size follows) fit = absurd cc
    moved q h (goes_behind w) fit = walked (most * 1) (omega arith) (behind_moved q w h)
    moved q h (ends_body w) fit = walked (most * 1) (omega arith) (body_moved q w h)
    moved q h (ends_step w) fit = walked (most * 1) (omega arith) (step_moved q w h)
    moved q h (breaks w) fit = walked (most * 1) (omega arith) (break_moved q w h)
    moved q h (continues w) fit = walked (most * 1) (omega arith) (continue_moved q w h)
    moved q h (branches w) fit = walked (most * 1) (omega arith) (silent_moved q w h)
    moved q h (tells w) fit = walked (most * 1) (omega arith) (tells_moved q w h)
    moved q h (hears w told) fit = walked (most * 1) (omega arith) (hears_moved q w told h)
    moved q h (enters w) fit = walked (most * 1) (omega arith) (enters_moved q w h)
    moved q h (calls_it {xs = xs} w size room) fit = walked (most * (4 + length xs)) (many (length xs)) (call_moved q w d size room h)
      where
        many : (k : ℕ) → widest + 6 * k ≤ most * (4 + k)
        many zero = omega arith
        many (suc k) = (let l = many k in omega (arith, l))
    moved q h (returns w) fit = walked (most * 1) (omega arith) (return_moved q w h)
    moved q h (goes_back {env = env} w) fit = walked (most * 3) (omega arith) (back_moved q (env 0) h)

    pub implements : Implements setup p plan.by_a body most A
    implements = record { moves = moved }

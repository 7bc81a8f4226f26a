-- The rounds of a form do what the form does.
use Rattle.std.proofs.Common.{length, ◌≡◌, ℕ, zero, suc, Bool, true, false, not, ◌&&◌, List, [], ◌∷◌, ◌++◌, Option, Some, None, if◌then◌else◌, refl, ap, subst}
use Rattle.dae_base.proofs.Laws.{and_true}
use Rattle.dae_base.specs.declared.Place.{Place}
use Rattle.dae_meaning.specs.Worlds.{World, ticked, back}
use Rattle.dae_meaning.specs.Results.{Result, Next, Leaves, Skips, Returns, Halted, Trapped, Run, ◌▷◌, turns, Astray, checked}
use Rattle.dae_meaning.specs.Alike.{BothAt, BothOver, FirstStrays}
use Rattle.dae_meaning.specs.Operations.{misplaced}
use Rattle.dae_ir.specs.Code.{Done, Do, If, Loop, exec, every}
use Rattle.dae_meaning.specs.Variables.{Env, put}
use Rattle.dae_ir.specs.Form.{Form, value, values, holds, fault, Calls, called, ended, does, meaning, Program, calls_of}
use Rattle.dae_ir.specs.Classes.{Classes, has, has_test, has_check, is_by_a, AreClosed}
use Rattle.dae_ir.specs.Rounds.{Jump, Breaks, Continues, Enters, Gives, Halts, Rounds, Alone, Region, Joins, Closes, Separates, stand, decision, closed, is_full, placed, rounds, is_a_region, is_e_region, region, one_sided, stays, is_a_item, is_e_item}
use Rattle.dae_ir.specs.Canonical.{Sides, is_issued, issued, finished, put_both, PairCalls, jumped, holds_told, does_round, canonical, pair_calls_of}
use Rattle.dae_ir_pair.specs.Laws.{Agree, PairKeeps}
use Rattle.dae_ir_pair.proofs.Combine.{Ends, Goes, both, over, bind_alike, turns_alike, within_both}
use Rattle.dae_ir_pair.proofs.Agreement.{value_agrees, holds_agrees, fault_agrees, put_agrees, Passes, passes_same, values_pass, entered_agree}
use Rattle.dae_ir_pair.proofs.Kept.{ItemKept, ConditionKept, IsClosed, is_closed}
use Rattle.dae_ir_pair.proofs.Regions.{bind_done, a_region_alike, e_region_alike}
use Rattle.dae_ir_pair.proofs.Groups.{does_part, runs, runs_more, PartKept, PartsKept, parts_more, group_alike}
use Rattle.dae_ir.specs.declared.stream.Part.{Part}
use Rattle.dae_ir.specs.declared.stream.Part.TheVariants.{Sets, Loads, Tests}
use Rattle.dae_ir.specs.declared.stream.Last.{Last}
use Rattle.dae_ir.specs.declared.stream.Last.TheVariants.{Nothing, Stores, Prints, Decides}
use Rattle.dae_ir.specs.declared.form.Test.{Test}
use Rattle.dae_ir.specs.declared.form.Check.{Check}
use Rattle.dae_ir.specs.declared.form.Check.TheVariants.{Place as Good, InBounds, Zero, Room, Frame, Abort}
use Rattle.dae_ir.specs.declared.form.Item.{Item}
use Rattle.dae_ir.specs.declared.form.Item.TheVariants.{Assign, Load, Store, Print, Expect, Break, Continue, Call, Return, Halt}

-- a call ends alike on both sides
ended_alike : (c callee : Classes) (env : Env) (b : Sides) (w : World) (v : ℕ) (r : Result Env) (s : Result Sides) → Agree c env b → (c.s v ≡ true → callee.s 0 ≡ true) → (c.needs v ≡ true → callee.needs 0 ≡ true) → Ends (Agree callee) r s → Ends (Agree c) (ended (λ (e : Env). put true v (e 0) env) w r) (ended (λ (q : Sides). put_both c v (q.a 0) (q.e 0) b) w s)
ended_alike c callee env b w v r s ag hs hn (BothAt way e q u x g l) =
    BothAt Next _ _ (back w u) (back w x) (record {
      a = put_agrees c.s env b.a ag.a v (e 0) (q.a 0) (λ m. g.a 0 (hs m));
      e = put_agrees c.needs env b.e ag.e v (e 0) (q.e 0) (λ m. g.e 0 (hn m));
    }) (ap (back w) l)
ended_alike c callee env b w v r s ag hs hn (BothOver end u x l) = BothOver end u x l
ended_alike c callee env b w v r s ag hs hn (FirstStrays u x) = FirstStrays u (ended (λ (q : Sides). put_both c v (q.a 0) (q.e 0) b) w x)

checked_alike : (c : Classes) (o : Option ℕ) (env : Env) (b : Sides) (w : World) → Agree c env b → Ends (Agree c) (checked o env w) (checked o b w)
checked_alike c None env b w ag = both _ Next env b w ag
checked_alike c (Some code) env b w ag = over _ (Trapped code) w

module _ (p : Program) (of : ℕ → Classes) (c : Classes) (cap n : ℕ) (calls : Calls) (pcalls : PairCalls)
    (alike : (f : ℕ) (xs ys zs : List ℕ) (w : World) → Passes (of f).s 1 xs ys → Passes (of f).needs 1 xs zs → Ends (Agree (of f)) (calls f xs w) (pcalls f ys zs w)) where
  -- what the form does, and what the pair does
  abbrev forms : Form → Run Env
  forms code = exec (meaning p (is_issued c) calls) n code

  abbrev pairs : Rounds → Run Sides
  pairs code = exec (canonical p n pcalls c) n code

  abbrev item_does : Item → Run Env
  item_does = does p (is_issued c) calls

  closed_alike : (g : List Part) → PartsKept c g → (k : Run Env) (k' : Rounds) → Goes (Agree c) k (pairs k') → Goes (Agree c) (runs p c g k) (pairs (closed g k'))
  closed_alike [] h k k' a = a
  closed_alike (q ∷ g) h k k' a = λ env b w ag. group_alike p c Nothing k (pairs k') a (q ∷ g) h env b.a b.e w ag.a ag.e

  -- what is behind an item goes on alike, whatever the group so far is
  abbrev Behind : Run Env → (List Part → Rounds) → Type 0
  Behind k r = (g : List Part) → PartsKept c g → Goes (Agree c) (runs p c g k) (pairs (r g))

  join_alike : (place : Place) (q : Part) → PartKept c q → (g : List Part) → PartsKept c g → (k : Run Env) (r : List Part → Rounds) → Behind k r → Goes (Agree c) (runs p c g (λ env w. does_part p c q env w ▷ k)) (pairs (placed c cap g place (Joins q) r))
  join_alike place q kept g h k r b = by (is_full c cap g q) where
    by : (full : Bool) → Goes (Agree c) (runs p c g (λ env w. does_part p c q env w ▷ k)) (pairs (if full then closed g (r (q ∷ [])) else r (g ++ q ∷ [])))
    by true = closed_alike g h _ (r (q ∷ [])) (b (q ∷ []) (kept, tt))
    by false = subst (λ (s : Run Env). Goes (Agree c) s (pairs (r (g ++ q ∷ [])))) (runs_more p c g q k) (b (g ++ q ∷ []) (parts_more c g q h kept))

  close_alike : (place : Place) (last : Last) (s : Run Env) (g : List Part) → PartsKept c g → (k : Run Env) (r : List Part → Rounds) → Behind k r → Goes (Agree c) s (finished p last) → Goes (Agree c) (runs p c g (λ env w. s env w ▷ k)) (pairs (placed c cap g place (Closes last) r))
  close_alike place last s g h k r b a = λ env q w ag. group_alike p c last (λ env w. s env w ▷ k) (pairs (r []))
      (λ env q w ag. bind_alike (Agree c) (s env w) (finished p last q w) k _ (a env q w ag) (b [] tt)) g h env q.a q.e w ag.a ag.e

  apart_alike : (place : Place) (jump : Jump) (s : Run Env) (g : List Part) → PartsKept c g → (k : Run Env) (r : List Part → Rounds) → Behind k r → Goes (Agree c) s (jumped p pcalls c jump) → Goes (Agree c) (runs p c g (λ env w. s env w ▷ k)) (pairs (placed c cap g place (Separates jump) r))
  apart_alike place jump s g h k r b a = closed_alike g h _ (Do place (Alone jump) (r []))
      (λ env q w ag. bind_alike (Agree c) (s env w) (jumped p pcalls c jump q w) k _ (a env q w ag) (b [] tt))

  item_alike : (place : Place) (item : Item) → ItemKept of c item → (g : List Part) → PartsKept c g → (k : Run Env) (r : List Part → Rounds) → Behind k r → Goes (Agree c) (runs p c g (λ env w. item_does item env w ▷ k)) (pairs (placed c cap g place (stand c place item) r))
  item_alike place (Assign v x) kept g h k r b = join_alike place (Sets place v x) kept g h k r b
  item_alike place (Load v kind x) kept g h k r b = join_alike place (Loads place v kind x) kept.0 g h k r b
  item_alike place (Store width x y) kept g h k r b = close_alike place (Stores place width x y) (item_does (Store width x y)) g h k r b (λ env q w ag.
      rw (value_agrees c.s env q.a ag.a x kept.0, value_agrees c.needs env q.e ag.e y kept.1) (within_both (Agree c) (misplaced width (value x env) (length w.memory)) w _ _ (both _ Next env q _ ag)))
  item_alike place (Print spelling x) kept g h k r b = close_alike place (Prints place spelling x) (item_does (Print spelling x)) g h k r b (λ env q w ag.
      rw (value_agrees c.needs env q.e ag.e x kept.1) (both _ Next env q _ ag))
  item_alike place (Expect check) kept g h k r b = by (has_check c.s check) refl where
    needed : (check : Check) → ItemKept of c (Expect check) → has_check c.s check ≡ false → has_check c.needs check ≡ true
    needed (Good width x) kept e = let t : has c.s x ≡ true = kept.0 in cc
    needed (InBounds x offset) kept e = let t : has c.s x ≡ true = kept.0 in cc
    needed (Zero x) kept e = kept.1 e
    needed (Room f) kept e = refl
    needed Frame kept e = refl
    needed Abort kept e = refl

    by : (d : Bool) → has_check c.s check ≡ d → Goes (Agree c) (runs p c g (λ env w. item_does (Expect check) env w ▷ k)) (pairs (placed c cap g place (if d then Joins (Tests place check) else Closes (Decides place check)) r))
    by true e = join_alike place (Tests place check) e g h k r b
    by false e = close_alike place (Decides place check) (item_does (Expect check)) g h k r b (λ env q w ag.
        rw (fault_agrees c.needs env q.e ag.e p check w (needed check kept e)) (checked_alike c (fault p check w env) env q (ticked w) ag))
  item_alike place Break kept g h k r b = apart_alike place Breaks (item_does Break) g h k r b (λ env q w ag. both _ Leaves env q _ ag)
  item_alike place Continue kept g h k r b = apart_alike place Continues (item_does Continue) g h k r b (λ env q w ag. both _ Skips env q _ ag)
  item_alike place (Call v f xs) kept g h k r b = apart_alike place (Enters v f xs) (item_does (Call v f xs)) g h k r b (λ env q w ag.
      within_both (Agree c) (fault p (Room f) w env) w _ _ (ended_alike c (of f) env q w v _ _ ag kept.0.result kept.1.result
      (alike f (values xs env) (values xs q.a) (values xs q.e) (called xs w)
      (values_pass (of f).s c.s env q.a ag.a 1 xs kept.0.arguments)
      (values_pass (of f).needs c.needs env q.e ag.e 1 xs kept.1.arguments))))
  item_alike place (Return x) kept g h k r b = apart_alike place (Gives x) (item_does (Return x)) g h k r b (λ env q w ag.
      both _ Returns _ _ _ (record {
        a = put_agrees c.s env q.a ag.a 0 (value x env) (value x q.a) (λ m. value_agrees c.s env q.a ag.a x (kept.0 m));
        e = put_agrees c.needs env q.e ag.e 0 (value x env) (value x q.e) (λ m. value_agrees c.needs env q.e ag.e x (kept.1 m));
      }))
  item_alike place (Halt x) kept g h k r b = apart_alike place (Halts x) (item_does (Halt x)) g h k r b (λ env q w ag.
      rw (value_agrees c.needs env q.e ag.e x kept.1) (over _ (Halted (value x env)) _))

  test_alike : (t : Test) → ConditionKept c t → (env : Env) (b : Sides) → Agree c env b → holds_told (decision c t) b ≡ holds t env
  test_alike t kept env b ag = by (has_test c.s t) refl where
    by : (d : Bool) → has_test c.s t ≡ d → (if d then holds t b.a else holds t b.e) ≡ holds t env
    by true e = holds_agrees c.s env b.a ag.a t e
    by false e = holds_agrees c.needs env b.e ag.e t (kept e)

  choice_alike : (d : Bool) (r s : Result Env) (r' s' : Result Sides) → Ends (Agree c) r r' → Ends (Agree c) s s' → Ends (Agree c) (if d then r else s) (if d then r' else s')
  choice_alike true r s r' s' h k = h
  choice_alike false r s r' s' h k = k

  region_alike : (outside : Bool) (code : Form) → IsClosed of c code → (d : Bool) → region outside c code ≡ Some d → Goes (Agree c) (forms code) (does_round p n pcalls c (Region d code))
  region_alike outside code kept d is = by (outside && is_a_region c code) refl (outside && is_e_region c code) refl d is where
    by : (x : Bool) → outside && is_a_region c code ≡ x → (y : Bool) → outside && is_e_region c code ≡ y → (d : Bool) → (if x then Some true else (if y then Some false else None)) ≡ Some d → Goes (Agree c) (forms code) (does_round p n pcalls c (Region d code))
    by true e y k true h =
        a_region_alike p of c calls n code kept (and_true (every (is_a_item c) (is_by_a c.s) code) (stays false code) (and_true outside (is_a_region c code) e).1).0
    by true e y k false h = cc
    by false e true k true h = cc
    by false e true k false h =
        e_region_alike p of c calls n code kept (and_true (every (is_e_item c) (λ t. not (is_by_a c.s t)) code) (stays false code) (and_true outside (is_e_region c code) k).1).0
    by false e false k d h = cc

  -- code that may be a region, and then k
  sided_alike : (outside : Bool) (place : Place) (code : Form) → IsClosed of c code → (r : Run Env) → ((env : Env) (w : World) → forms code env w ≡ r env w) → (k : Run Env) (k' both : Rounds)
      → Goes (Agree c) k (pairs k') → Goes (Agree c) (λ env w. r env w ▷ k) (pairs both) → Goes (Agree c) (λ env w. r env w ▷ k) (pairs (one_sided (region outside c code) place code k' both))
  sided_alike outside place code kept r same k k' both after h = by (region outside c code) refl where
    by : (o : Option Bool) → region outside c code ≡ o → Goes (Agree c) (λ env w. r env w ▷ k) (pairs (one_sided o place code k' both))
    by None e = h
    by (Some d) e = λ env b w ag. bind_alike (Agree c) (r env w) (does_round p n pcalls c (Region d code) b w) k _
        (subst (λ (x : Result Env). Ends (Agree c) x (does_round p n pcalls c (Region d code) b w)) (same env w) (region_alike outside code kept d e env b w ag)) after

  pub code_alike : (outside : Bool) (code : Form) → IsClosed of c code → (g : List Part) → PartsKept c g → Goes (Agree c) (runs p c g (forms code)) (pairs (rounds c cap outside code g))
  code_alike outside Done kept g h = closed_alike g h _ Done (λ env b w ag. both _ Next env b w ag)
  code_alike outside (Do place item k) kept g h = item_alike place item kept.0 g h (forms k) (rounds c cap outside k) (code_alike outside k kept.1)
  code_alike outside (If place t x y k) kept g h =
      let r : Run Env = λ env w. if holds t env then forms x env (ticked w) else forms y env (ticked w) in
      closed_alike g h _ _ (sided_alike outside place (If place t x y Done) (kept.0, kept.1, kept.2, tt) r (λ env w. bind_done (r env w)) (forms k) (rounds c cap outside k []) (If place (decision c t) (rounds c cap outside x []) (rounds c cap outside y []) (rounds c cap outside k [])) (code_alike outside k kept.3 [] tt)
      (λ env b w ag. bind_alike (Agree c) (r env w) (if holds_told (decision c t) b then pairs (rounds c cap outside x []) b (ticked w) else pairs (rounds c cap outside y []) b (ticked w)) (forms k) (pairs (rounds c cap outside k []))
      (rw (test_alike t kept.0 env b ag)
      (choice_alike (holds t env) _ _ _ _ (code_alike outside x kept.1 [] tt env b (ticked w) ag) (code_alike outside y kept.2 [] tt env b (ticked w) ag)))
      (code_alike outside k kept.3 [] tt)))
  code_alike outside (Loop place body step k) kept g h =
      let r : Run Env = turns (forms body) (forms step) n in
      closed_alike g h _ _ (sided_alike outside place (Loop place body step Done) (kept.0, kept.1, tt) r (λ env w. bind_done (r env w)) (forms k) (rounds c cap outside k []) (Loop place (rounds c cap outside body []) (rounds c cap outside step []) (rounds c cap outside k [])) (code_alike outside k kept.2 [] tt)
      (λ env b w ag. bind_alike (Agree c) (r env w) (turns (pairs (rounds c cap outside body [])) (pairs (rounds c cap outside step [])) n b w) (forms k) (pairs (rounds c cap outside k []))
      (turns_alike (Agree c) (forms body) (forms step) (pairs (rounds c cap outside body [])) (pairs (rounds c cap outside step [])) (code_alike outside body kept.0 [] tt) (code_alike outside step kept.1 [] tt) n env b w ag)
      (code_alike outside k kept.2 [] tt)))

calls_alike : (p : Program) (of : ℕ → Classes) → AreClosed p of → (cap n limit f : ℕ) (xs ys zs : List ℕ) (w : World) → Passes (of f).s 1 xs ys → Passes (of f).needs 1 xs zs → Ends (Agree (of f)) (calls_of p (issued of) n limit f xs w) (pair_calls_of p of cap n limit f ys zs w)
calls_alike p of kept cap n zero f xs ys zs w hs hn = over _ Astray w
calls_alike p of kept cap n (suc limit) f xs ys zs w hs hn =
    code_alike p of (of f) cap n (calls_of p (issued of) n limit) (pair_calls_of p of cap n limit) (calls_alike p of kept cap n limit) true (p.body f) (is_closed p of kept f) [] tt _ _ _
    (record { a = entered_agree (of f).s 1 xs ys hs; e = entered_agree (of f).needs 1 xs zs hn })

pub pair_keeps : (p : Program) (of : ℕ → Classes) → AreClosed p of → PairKeeps p of
pair_keeps p of kept cap n limit f xs w = calls_alike p of kept cap n limit f xs xs xs w (passes_same (of f).s 1 xs) (passes_same (of f).needs 1 xs)

-- The blocks of actions that go on to the next do them, wherever they stand.
use Rattle.std.proofs.Common.{◌≡◌, ◌≢◌, ℕ, ◌+◌, ◌%◌, ◌^◌, ◌<◌, ◌≤◌, Bool, true, false, not, ◌&&◌, ◌||◌, List, [], Option, Some, None, length, refl, sym, ap, ◌∙◌, subst, arith}
use Rattle.std.specs.Prelude.{nat_lt}
use Rattle.std.proofs.lemmas.Bool.Decides.{nat_tests}
use Rattle.std.proofs.lemmas.Bool.{or_right}
use Rattle.dae_base.specs.declared.Side.TheVariants.{A, E}
use Rattle.dae_base.specs.declared.Width.{Width}
use Rattle.dae_base.specs.declared.Width.TheVariants.{B1}
use Rattle.dae_base.specs.Words.{plus, size}
use Rattle.dae_encode.specs.declared.Inst.{Inst}
use Rattle.dae_ir.specs.Classes.{VariableSet}
use Rattle.dae_meaning.specs.Worlds.{World}
use Rattle.dae_meaning.specs.Variables.{Env}
use Rattle.dae_meaning.proofs.Laws.{own_put}
use Rattle.dae_encode.specs.Processor.{Processor}
use Rattle.dae_ir.specs.Form.{Program, value}
use Rattle.dae_ir.specs.Programs.{side}
use Rattle.dae_ir.specs.Deeds.{Halts, deed, probed, stopped}
use Rattle.dae_ir.specs.declared.form.Operand.{Operand}
use Rattle.dae_ir.specs.declared.form.Operand.TheVariants.{Variable}
use Rattle.dae_ir.specs.declared.form.Value.TheVariants.{Same}
use Rattle.dae_ir.specs.declared.form.Check.TheVariants.{Place, InBounds, Zero, Room, Frame, Abort}
use Rattle.dae_ir.specs.declared.stream.Action.{Action}
use Rattle.dae_ir.specs.declared.stream.Action.TheVariants.{Set as Compute, Issue, Own, Receive, Address, Datum, Offer, Accept, Emit, Probe, Tell, Hear, Stop, Break, Continue, Call, Return}
use Rattle.dae_select_walks.specs.Walks.{WalkSetting, Comes}
use Rattle.dae_select_walks.specs.Does.{Does}
use Rattle.dae_select_walks.specs.Live.{LiveWays, with_all, reads, sets, in_option, after, before}
use Rattle.dae_select_walks.specs.Layout.{CodeAt}
use Rattle.dae_select_walks.specs.declared.Home.{Home}
use Rattle.dae_select_walks.specs.Homes.{Contents}
use Rattle.dae_select_walks.specs.Facts.{Facts, Hold, operand_bounds, is_aligned, is_good}
use Rattle.dae_select_walks.specs.Agrees.{Plan, Moment, Stands, depth_of, top_of}
use Rattle.dae_select_walks.proofs.LawsOfWalks.{does_map, comes_here, operand_is, aligned_is, good_is}
use Rattle.dae_meaning.specs.Operations.{misplaced, passed}
use Rattle.dae_select_walks.specs.Compiled.{exit, with_env, IsWorldOf, At}
use Rattle.dae_select_blocks.specs.Code.{placed_code, action_code}
use Rattle.dae_select_blocks.specs.Blocks.{stop_code}
use Rattle.dae_select_blocks.specs.Fits.{Fits}
use Rattle.dae_select_blocks.specs.Wanted.{IsWanted, IsPlanOf, IsRight, IsWantedStop}
use Rattle.dae_select_blocks.proofs.Runs.{Runs}
use Rattle.dae_select_blocks.proofs.Agreement.{Ready}
use Rattle.dae_select_blocks.proofs.Jumps.{ready, stands_less}
use Rattle.dae_select_blocks.proofs.Actions.{To, Does', set_done, issue_done, own_done, receive_done, address_done, datum_done, offer_done, accept_done, tell_done}
use Rattle.dae_select_blocks.proofs.Checks.{emit_done, stop_a_done, stop_e_done, zero_done, place_done, in_bounds_done, bounds_done, check_room_done, frame_done, abort_done, hear_done}

-- the actions that take or give no way but the next
abbrev pub IsSimple : Action → Type 0
IsSimple Break = ⊥
IsSimple Continue = ⊥
IsSimple (Call v g xs) = ⊥
IsSimple (Return x) = ⊥
IsSimple a = Unit {0}

-- what is live round an action
pub record Around (home : ℕ → Home) (variables : ℕ) (a : Action) (live live' : VariableSet) : Type 0 where
  pub reads : (u : ℕ) → reads a u ≡ true → live u ≡ true
  pub stays : (u : ℕ) → live' u ≡ true → sets a u ≡ false → live u ≡ true
  pub apart : (u v : ℕ) → sets a v ≡ true → live' u ≡ true → u ≢ v → home u ≢ home v
  pub scope : (v : ℕ) → sets a v ≡ true → v < variables

-- what is live round an action of a list
pub around : (home : ℕ → Home) (variables : ℕ) (a : Action) (k : VariableSet) (x : LiveWays) → ((u : ℕ) → after a k x u ≡ k u) → IsRight home variables (with_all (before a k x) (sets a)) → Around home variables a (before a k x) k
around home variables a k x goes_on right = record {
  reads = λ u e. rw e refl;
  stays = λ u l e. (let same = goes_on u in rw (same, l, e) (either (reads a u)));
  apart = λ u v e l ne. (let same = goes_on u in right.apart u v (rw (same, l) (kept (reads a u) (sets a u))) (or_right (before a k x v) (sets a v) e) ne);
  scope = λ v e. right.scope v (or_right (before a k x v) (sets a v) e);
}
  where
    either : (b : Bool) → (b || (true && true)) ≡ true
    either true = refl
    either false = refl

    kept : (b c : Bool) → ((b || (true && not c)) || c) ≡ true
    kept true c = refl
    kept false true = refl
    kept false false = refl

module _ (s : WalkSetting) (plan : Plan) (variables : ℕ → ℕ) (fine : Fits s plan variables) (program : Program) (is_plan : IsPlanOf program plan) (entries : ℕ → VariableSet) where
  pub a_side : plan.by_a ≡ true → s.side ≡ A
  a_side e = fine.side ∙ ap side e

  pub e_side : plan.by_a ≡ false → s.side ≡ E
  e_side e = fine.side ∙ ap side e

  module _ (live live' : VariableSet) (m : Moment) (w : World) (world : IsWorldOf plan m w) where
    flagged : {is : List Inst} {c : Contents} (o : Option ℕ) (b : Bool) → plan.by_a ≡ b → Does' s plan variables fine live live' m is c (probed b o m.env) → Does' s plan variables fine live live' m is c (probed plan.by_a o m.env)
    flagged {is} {c} o b e h = subst (λ (b : Bool). Runs s plan.private (To s plan variables fine live live' m) is c (probed b o m.env)) (sym e) h

    stops : {c : Contents} (b : Bool) → plan.by_a ≡ b → (x : Option Operand) → IsWantedStop b x → ((u : ℕ) → in_option x u ≡ true → live u ≡ true) → Ready plan live m c → Does' s plan variables fine live live' m (stop_code b (plan.home m.function) x) c (Halts (stopped x m.env))
    stops true e None wanted reads h = stop_a_done s plan variables fine live live' m [] e
    stops true e (Some x) wanted reads h = absurd wanted
    stops false e None wanted reads h = absurd wanted
    stops false e (Some x) wanted reads h = stop_e_done s plan variables fine live live' m x e h reads wanted

    -- each block from contents that agree
    pub simple_runs : {c : Contents} (a : Action) (leaves skips : List Inst) → IsSimple a → IsWanted plan s.copies entries (plan.leaf m.function) a → Around (plan.home m.function) (variables m.function) a live live' → Ready plan live m c →
        Does' s plan variables fine live live' m (action_code plan variables m.function a live' leaves skips) c (deed program plan.by_a a w m.env)
    simple_runs (Compute v x) leaves skips is wanted round h =
        rw world.frame (set_done s plan variables fine live live' m v x h round.reads wanted ((λ u l ne. (round.stays u l (grind (arith, nat_tests)), round.apart u v (grind (arith, nat_tests)) l ne)), round.scope v (grind (arith, nat_tests))))
    simple_runs (Issue kind x) leaves skips is wanted round h = issue_done s plan variables fine live live' m (a_side wanted.0) kind x h round.reads wanted.1 (λ u l. round.stays u l refl)
    simple_runs (Own v kind x) leaves skips is wanted round h =
        own_done s plan variables fine live live' m (a_side wanted.0) v kind x h round.reads wanted.1 ((λ u l ne. (round.stays u l (grind (arith, nat_tests)), round.apart u v (grind (arith, nat_tests)) l ne)), round.scope v (grind (arith, nat_tests)))
    simple_runs (Receive v) leaves skips is wanted round h =
        receive_done s plan variables fine live live' m (e_side wanted) v h ((λ u l ne. (round.stays u l (grind (arith, nat_tests)), round.apart u v (grind (arith, nat_tests)) l ne)), round.scope v (grind (arith, nat_tests)))
    simple_runs (Address width x) leaves skips is wanted round h = address_done s plan variables fine live live' m (a_side wanted.0) width x h round.reads wanted.1 (λ u l. round.stays u l refl)
    simple_runs (Datum x) leaves skips is wanted round h = datum_done s plan variables fine live live' m (e_side wanted.0) x h round.reads wanted.1 (λ u l. round.stays u l refl)
    simple_runs (Offer v) leaves skips is wanted round h = offer_done s plan variables fine live live' m (a_side wanted.0) v wanted.1 h (round.reads v (grind (arith, nat_tests))) (λ u l. round.stays u l refl)
    simple_runs (Accept v) leaves skips is wanted round h =
        accept_done s plan variables fine live live' m (e_side wanted.0) v wanted.1 h ((λ u l ne. (round.stays u l (grind (arith, nat_tests)), round.apart u v (grind (arith, nat_tests)) l ne)), round.scope v (grind (arith, nat_tests)))
    simple_runs (Emit spelling x) leaves skips is wanted round h = emit_done s plan variables fine live live' m spelling x wanted.0 h round.reads wanted.1 (λ u l. round.stays u l refl)
    simple_runs (Tell x) leaves skips is wanted round h = tell_done s plan variables fine live live' m x h round.reads wanted (λ u l. round.stays u l refl)
    simple_runs (Hear only) leaves skips is wanted round h = hear_done s plan variables fine live live' m only h (λ u l. round.stays u l refl)
    simple_runs (Probe (Zero x)) leaves skips is wanted round h = zero_done s plan variables fine live live' m x h round.reads wanted (λ u l. round.stays u l refl)
    simple_runs (Probe (Place width x)) leaves skips is wanted round h =
        rw world.memory (flagged (misplaced width (value x m.env) plan.memory) true wanted.0 (place_done s plan variables fine live live' m wanted.0 m.function width x refl h round.reads wanted.1 (λ u l. round.stays u l refl)))
    simple_runs (Probe (InBounds x offset)) leaves skips is wanted round h =
        rw world.memory (flagged (misplaced B1 (plus (value x m.env) offset) plan.memory) true wanted.0 (in_bounds_done s plan variables fine live live' m wanted.0 x offset h round.reads wanted.1 wanted.2 (λ u l. round.stays u l refl)))
    simple_runs (Probe (Room g)) leaves skips is wanted round h =
        rw (world.memory, world.depth, world.top, is_plan.limit, is_plan.frame g) (flagged (passed (nat_lt plan.limit (depth_of m + 1) || nat_lt plan.memory (top_of plan m + plan.frame g))) true wanted (check_room_done s plan variables fine live live' m wanted g h (λ u l. round.stays u l refl)))
    simple_runs (Probe Frame) leaves skips is wanted round h =
        rw (world.memory, world.top) (flagged (passed (nat_lt plan.memory (top_of plan m))) true wanted (frame_done s plan variables fine live live' m wanted h (λ u l. round.stays u l refl)))
    simple_runs (Probe Abort) leaves skips is wanted round h = flagged (Some 5) true wanted (abort_done s plan variables fine live live' m wanted h)
    simple_runs (Stop x) leaves skips is wanted round h = stops plan.by_a refl x wanted round.reads h
    simple_runs Break leaves skips is wanted round h = elim is [ ]
    simple_runs Continue leaves skips is wanted round h = elim is [ ]
    simple_runs (Call v g xs) leaves skips is wanted round h = elim is [ ]
    simple_runs (Return x) leaves skips is wanted round h = elim is [ ]

    -- and the test of a place whose address is aligned
    pub placed_runs : {c : Contents} (width : Width) (x : Operand) → IsWanted plan s.copies entries (plan.leaf m.function) (Probe (Place width x)) → Around (plan.home m.function) (variables m.function) (Probe (Place width x)) live live' → value x m.env % size width ≡ 0 → Ready plan live m c →
        Does' s plan variables fine live live' m (placed_code (plan.home m.function) (Probe (Place width x))) c (deed program plan.by_a (Probe (Place width x)) w m.env)
    placed_runs width x wanted round four h =
        rw world.memory (flagged (misplaced width (value x m.env) plan.memory) true wanted.0 (bounds_done s plan variables fine live live' m wanted.0 width x four h round.reads wanted.1 (λ u l. round.stays u l refl)))

module _ (s : WalkSetting) (plan : Plan) (variables : ℕ → ℕ) (fine : Fits s plan variables) (program : Program) (is_plan : IsPlanOf program plan) (entries : ℕ → VariableSet) (most widest : ℕ) where
  -- an action that goes on to the next
  pub simple_done : (f : ℕ) (a : Action) (live live' : VariableSet) (leaves skips : List Inst) (k : ℕ) → IsSimple a → IsWanted plan s.copies entries (plan.leaf f) a → Around (plan.home f) (variables f) a live live' →
      CodeAt s.code k (action_code plan variables f a live' leaves skips) → k + length (action_code plan variables f a live' leaves skips) < 2 ^ 29 → length (action_code plan variables f a live' leaves skips) ≤ most →
      (m : Moment) (w : World) (p : Processor) → At s plan program entries most widest f (exit k live) m p → IsWorldOf plan m w →
      Does s most (deed program plan.by_a a w m.env) (λ env. At s plan program entries most widest f (exit (k + length (action_code plan variables f a live' leaves skips)) live') (with_env env m)) p
  simple_done f a live live' leaves skips k simple wanted round at small few m w p h world =
      subst (λ (g : ℕ). IsWanted plan s.copies entries (plan.leaf g) a → Around (plan.home g) (variables g) a live live' → CodeAt s.code k (action_code plan variables g a live' leaves skips) → k + length (action_code plan variables g a live' leaves skips) < 2 ^ 29 → length (action_code plan variables g a live' leaves skips) ≤ most →
      Does s most (deed program plan.by_a a w m.env) (λ env q. (m.function ≡ g) × Stands plan live' (with_env env m) (k + length (action_code plan variables g a live' leaves skips)) q) p) h.0
      (λ wanted round at small few.
      let run = simple_runs s plan variables fine program is_plan entries live live' m w world a leaves skips simple wanted round (ready s plan variables fine h.1) in
      does_map s (To s plan variables fine live live' m (k + length (action_code plan variables m.function a live' leaves skips))) (λ env q. (m.function ≡ m.function) × Stands plan live' (with_env env m) (k + length (action_code plan variables m.function a live' leaves skips)) q)
      (length (action_code plan variables m.function a live' leaves skips)) most few (λ env q t. (refl, t)) (deed program plan.by_a a w m.env) p
      (run.from k small at p h.1.shows))
      wanted round at small few

  abbrev placed_block : ℕ → Width → Operand → List Inst
  placed_block f width y = placed_code (plan.home f) (Probe (Place width y))

  -- a test of a place whose address is known to be aligned
  pub placed_done : (f : ℕ) (width : Width) (y : Operand) (live live' : VariableSet) (known : Facts) (k : ℕ) → IsWanted plan s.copies entries (plan.leaf f) (Probe (Place width y)) → Around (plan.home f) (variables f) (Probe (Place width y)) live live' → is_aligned width (operand_bounds known y) ≡ true →
      CodeAt s.code k (placed_block f width y) → k + length (placed_block f width y) < 2 ^ 29 → length (placed_block f width y) ≤ most →
      (m : Moment) (w : World) (p : Processor) → At s plan program entries most widest f (exit k live) m p → IsWorldOf plan m w → Hold known m.env →
      Does s most (deed program plan.by_a (Probe (Place width y)) w m.env) (λ env. At s plan program entries most widest f (exit (k + length (placed_block f width y)) live') (with_env env m)) p
  placed_done f width y live live' known k wanted round one at small few m w p h world facts =
      subst (λ (g : ℕ). Around (plan.home g) (variables g) (Probe (Place width y)) live live' → CodeAt s.code k (placed_block g width y) → k + length (placed_block g width y) < 2 ^ 29 → length (placed_block g width y) ≤ most →
      Does s most (deed program plan.by_a (Probe (Place width y)) w m.env) (λ env q. (m.function ≡ g) × Stands plan live' (with_env env m) (k + length (placed_block g width y)) q) p) h.0
      (λ round at small few.
      let run = placed_runs s plan variables fine program is_plan entries live live' m w world width y wanted round (aligned_is width (operand_bounds known y) (value y m.env) (operand_is known m.env y facts) one) (ready s plan variables fine h.1) in
      does_map s (To s plan variables fine live live' m (k + length (placed_block m.function width y))) (λ env q. (m.function ≡ m.function) × Stands plan live' (with_env env m) (k + length (placed_block m.function width y)) q)
      (length (placed_block m.function width y)) most few (λ env q t. (refl, t)) (deed program plan.by_a (Probe (Place width y)) w m.env) p
      (run.from k small at p h.1.shows))
      round at small few

  -- a test of a place whose address is known to be good takes nothing
  pub passed_done : (f : ℕ) (width : Width) (y : Operand) (live live' : VariableSet) (known : Facts) (k : ℕ) → IsWanted plan s.copies entries (plan.leaf f) (Probe (Place width y)) → ((u : ℕ) → live' u ≡ true → live u ≡ true) → is_good plan.memory width (operand_bounds known y) ≡ true →
      (m : Moment) (w : World) (p : Processor) → At s plan program entries most widest f (exit k live) m p → IsWorldOf plan m w → Hold known m.env →
      Does s most (deed program plan.by_a (Probe (Place width y)) w m.env) (λ env. At s plan program entries most widest f (exit (k + 0) live') (with_env env m)) p
  passed_done f width y live live' known k wanted less good m w p h world facts =
      let passes = good_is plan.memory width (operand_bounds known y) (value y m.env) (operand_is known m.env y facts) good in
      let here : k ≡ k + 0 = omega arith in
      rw (world.memory, passes) (comes_here s (h.0, stands_less s plan variables fine less (subst (λ (j : ℕ). Stands plan live m j p) here h.1)))

  -- and so does a variable that is set to itself
  pub itself_done : (f v : ℕ) (live live' : VariableSet) (known : Facts) (k : ℕ) → ((u : ℕ) → live' u ≡ true → live u ≡ true) →
      (m : Moment) (w : World) (p : Processor) → At s plan program entries most widest f (exit k live) m p → IsWorldOf plan m w → Hold known m.env →
      Does s most (deed program plan.by_a (Compute v (Same (Variable v))) w m.env) (λ env. At s plan program entries most widest f (exit (k + 0) live') (with_env env m)) p
  itself_done f v live live' known k less m w p h world facts =
      let here : k ≡ k + 0 = omega arith in
      subst (λ (e : Env). Comes s most p (At s plan program entries most widest f (exit (k + 0) live') (with_env e m))) (sym (own_put v m.env))
      (comes_here s (h.0, stands_less s plan variables fine less (subst (λ (j : ℕ). Stands plan live m j p) here h.1)))

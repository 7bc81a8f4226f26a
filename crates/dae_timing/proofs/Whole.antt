-- The five parts of a tick put together.
use Rattle.std.proofs.Common.{◌≡◌, ℕ, ◌+◌, ◌*◌, ◌≤◌, ◌<◌, Bool, true, false, List, refl, sym, ap, ◌∙◌, subst, arith}
use Rattle.std.specs.Prelude.{Option, Some, None, nat_lt}
use Rattle.dae_base.specs.declared.Side.TheVariants.{A, E}
use Rattle.dae_base.specs.declared.Queue.{Queue}
use Rattle.dae_base.specs.declared.Queue.TheVariants.{Ld, Al, Sa, Sd, Ab, Eb, Cq}
use Rattle.dae_core.specs.declared.CoreAnswer.{CoreAnswer}
use Rattle.dae_core.specs.declared.CoreAnswer.TheVariants.{Did, Waits as IsWaiting, Halted, Faulted}
use Rattle.dae_core.specs.Queues.{Queues}
use Rattle.dae_encode.specs.Processor.{After}
use Rattle.dae_machine.specs.declared.Pick.{Pick}
use Rattle.dae_machine.specs.Answers.{answer}
use Rattle.dae_machine.specs.Machine.{Setup, State, move, step}
use Rattle.dae_machine.proofs.LawsOfRuns.{step_counts}
use Rattle.dae_cli_options.specs.declared.options.Costs.{Costs}
use Rattle.dae_timing.specs.declared.waits.Waits.{Waits}
use Rattle.dae_timing.specs.Clocks.{Clock, free_from, one_more, waits_for}
use Rattle.dae_timing.specs.Held.{HeldClock, IsTimed}
use Rattle.dae_timing.specs.Runs.{with_print}
use Rattle.dae_timing.specs.Ticks.{after_drain, after_fill, after_fills, drain_of, fill_of, after_side, move_of, picks_of, step_of, after_step, after_pick, after_tick, after_wait}

-- ---- what is counted along the parts

-- a part of the memory leaves the waits as they are
pub record Taken (c d : Clock) : Type 0 where
  pub steps : d.state.steps ≤ c.state.steps + 1
  pub ticks : d.ticks ≡ c.ticks
  pub waits_a : d.waits_a ≡ c.waits_a
  pub waits_e : d.waits_e ≡ c.waits_e

pub taken_counts : (setup : Setup) (o : Option Pick) (c : Clock) → Taken c (after_pick setup o c)
taken_counts setup None c = record { steps = omega arith; ticks = refl; waits_a = refl; waits_e = refl }
taken_counts setup (Some p) c = by_step (step setup c.state p) refl where
  by_step : (o : Option State) → step setup c.state p ≡ o → Taken c (after_step c (step setup c.state p))
  by_step None e = rw e (record { steps = omega arith; ticks = refl; waits_a = refl; waits_e = refl })
  by_step (Some t) e = rw e (record { steps = (let n = step_counts setup c.state t p e in omega (arith, n)); ticks = refl; waits_a = refl; waits_e = refl })

one_wait : (queue q : Queue) (w : Waits) → waits_for q (one_more queue w) ≤ waits_for q w + 1
one_wait Ld Ld w = omega arith
one_wait Ld Al w = omega arith
one_wait Ld Sa w = omega arith
one_wait Ld Sd w = omega arith
one_wait Ld Ab w = omega arith
one_wait Ld Eb w = omega arith
one_wait Ld Cq w = omega arith
one_wait Al Ld w = omega arith
one_wait Al Al w = omega arith
one_wait Al Sa w = omega arith
one_wait Al Sd w = omega arith
one_wait Al Ab w = omega arith
one_wait Al Eb w = omega arith
one_wait Al Cq w = omega arith
one_wait Sa Ld w = omega arith
one_wait Sa Al w = omega arith
one_wait Sa Sa w = omega arith
one_wait Sa Sd w = omega arith
one_wait Sa Ab w = omega arith
one_wait Sa Eb w = omega arith
one_wait Sa Cq w = omega arith
one_wait Sd Ld w = omega arith
one_wait Sd Al w = omega arith
one_wait Sd Sa w = omega arith
one_wait Sd Sd w = omega arith
one_wait Sd Ab w = omega arith
one_wait Sd Eb w = omega arith
one_wait Sd Cq w = omega arith
one_wait Ab Ld w = omega arith
one_wait Ab Al w = omega arith
one_wait Ab Sa w = omega arith
one_wait Ab Sd w = omega arith
one_wait Ab Ab w = omega arith
one_wait Ab Eb w = omega arith
one_wait Ab Cq w = omega arith
one_wait Eb Ld w = omega arith
one_wait Eb Al w = omega arith
one_wait Eb Sa w = omega arith
one_wait Eb Sd w = omega arith
one_wait Eb Ab w = omega arith
one_wait Eb Eb w = omega arith
one_wait Eb Cq w = omega arith
one_wait Cq Ld w = omega arith
one_wait Cq Al w = omega arith
one_wait Cq Sa w = omega arith
one_wait Cq Sd w = omega arith
one_wait Cq Ab w = omega arith
one_wait Cq Eb w = omega arith
one_wait Cq Cq w = omega arith

-- a part of E leaves A's waits as they are, and the other way round
pub record GoneE (c d : Clock) : Type 0 where
  pub steps : d.state.steps ≤ c.state.steps + 1
  pub ticks : d.ticks ≡ c.ticks
  pub waits_a : d.waits_a ≡ c.waits_a
  pub waits_e : (q : Queue) → waits_for q d.waits_e ≤ waits_for q c.waits_e + 1

pub record GoneA (c d : Clock) : Type 0 where
  pub steps : d.state.steps ≤ c.state.steps + 1
  pub ticks : d.ticks ≡ c.ticks
  pub waits_a : (q : Queue) → waits_for q d.waits_a ≤ waits_for q c.waits_a + 1
  pub waits_e : d.waits_e ≡ c.waits_e

still_e : (c : Clock) → GoneE c c
still_e c = record { steps = omega arith; ticks = refl; waits_a = refl; waits_e = λ q. omega arith }

still_a : (c : Clock) → GoneA c c
still_a c = record { steps = omega arith; ticks = refl; waits_a = λ q. omega arith; waits_e = refl }

waits_e : (a : CoreAnswer) (c : Clock) → GoneE c (after_wait a E c)
waits_e (Did piece) c = still_e c
waits_e (IsWaiting queue) c = record { steps = omega arith; ticks = refl; waits_a = refl; waits_e = λ q. one_wait queue q c.waits_e }
waits_e Halted c = still_e c
waits_e (Faulted fault) c = still_e c

waits_a : (a : CoreAnswer) (c : Clock) → GoneA c (after_wait a A c)
waits_a (Did piece) c = still_a c
waits_a (IsWaiting queue) c = record { steps = omega arith; ticks = refl; waits_a = λ q. one_wait queue q c.waits_a; waits_e = refl }
waits_a Halted c = still_a c
waits_a (Faulted fault) c = still_a c

pub gone_e : (setup : Setup) (k : Costs) (c : Clock) → GoneE c (after_side setup k E c)
gone_e setup k c = by_free (nat_lt c.ticks (free_from E c)) refl where
  by_step : (o : Option State) → step setup c.state (move_of E) ≡ o → nat_lt c.ticks (free_from E c) ≡ false → GoneE c (after_side setup k E c)
  by_step None e f = rw (f, e) (waits_e (answer setup c.state E) c)
  by_step (Some t) e f = rw (f, e) (record { steps = (let n = step_counts setup c.state t (move_of E) e in omega (arith, n)); ticks = refl; waits_a = refl; waits_e = λ q. omega arith })

  by_free : (b : Bool) → nat_lt c.ticks (free_from E c) ≡ b → GoneE c (after_side setup k E c)
  by_free true e = rw e (still_e c)
  by_free false e = by_step (step setup c.state (move_of E)) refl e

pub gone_a : (setup : Setup) (k : Costs) (c : Clock) → GoneA c (after_side setup k A c)
gone_a setup k c = by_free (nat_lt c.ticks (free_from A c)) refl where
  by_step : (o : Option State) → step setup c.state (move_of A) ≡ o → nat_lt c.ticks (free_from A c) ≡ false → GoneA c (after_side setup k A c)
  by_step None e f = rw (f, e) (waits_a (answer setup c.state A) c)
  by_step (Some t) e f = rw (f, e) (record { steps = (let n = step_counts setup c.state t (move_of A) e in omega (arith, n)); ticks = refl; waits_a = λ q. omega arith; waits_e = refl })

  by_free : (b : Bool) → nat_lt c.ticks (free_from A c) ≡ b → GoneA c (after_side setup k A c)
  by_free true e = rw e (still_a c)
  by_free false e = by_step (step setup c.state (move_of A)) refl e

-- ---- what was printed changes nothing for A

waiting_printing : (a : CoreAnswer) (text : List ℕ) (c : Clock) → after_wait a A (with_print text c) ≡ with_print text (after_wait a A c)
waiting_printing (Did piece) text c = refl
waiting_printing (IsWaiting queue) text c = refl
waiting_printing Halted text c = refl
waiting_printing (Faulted fault) text c = refl

pub gone_printing : (setup : Setup) (k : Costs) (text : List ℕ) (c : Clock) → after_side setup k A (with_print text c) ≡ with_print text (after_side setup k A c)
gone_printing setup k text c = by_free (nat_lt c.ticks c.free_a) refl where
  by_move : (o : Option (After × Queues)) → move setup A c.state.a c.state.queues ≡ o → nat_lt c.ticks c.free_a ≡ false → after_side setup k A (with_print text c) ≡ with_print text (after_side setup k A c)
  by_move None e f = rw (f, e) (waiting_printing (answer setup c.state A) text c)
  by_move (Some r) e f = rw (f, e) refl

  by_free : (b : Bool) → nat_lt c.ticks c.free_a ≡ b → after_side setup k A (with_print text c) ≡ with_print text (after_side setup k A c)
  by_free true e = rw e refl
  by_free false e = by_move (move setup A c.state.a c.state.queues) refl e

step_printing : (setup : Setup) (text : List ℕ) (c : Clock) → step_of setup A (with_print text c) ≡ step_of setup A c
step_printing setup text c = by_move (move setup A c.state.a c.state.queues) refl where
  by_move : (o : Option (After × Queues)) → move setup A c.state.a c.state.queues ≡ o → step_of setup A (with_print text c) ≡ step_of setup A c
  by_move None e = rw e refl
  by_move (Some r) e = rw e refl

-- ---- the whole tick, over what its five calls tell

module _ (h0 h1 h2 h3 h4 h5 h6 : HeldClock) (piece : List ℕ)
    (s1 : h1.setup ≡ h0.setup) (k1 : h1.costs ≡ h0.costs) (e1 : h1.clock ≡ after_drain h0.setup h0.clock)
    (s2 : h2.setup ≡ h1.setup) (k2 : h2.costs ≡ h1.costs) (e2 : h2.clock ≡ after_fill h1.setup h1.costs A h1.clock)
    (s3 : h3.setup ≡ h2.setup) (k3 : h3.costs ≡ h2.costs) (e3 : h3.clock ≡ after_fill h2.setup h2.costs E h2.clock)
    (s4 : h4.setup ≡ h3.setup) (k4 : h4.costs ≡ h3.costs) (e4 : after_side h3.setup h3.costs E h3.clock ≡ with_print piece h4.clock)
    (e5 : h5.clock ≡ after_side h4.setup h4.costs A h4.clock) (e6 : h6.clock ≡ (let c = h5.clock in record c { ticks = c.ticks + 1 })) where
  t2 : h2.clock ≡ after_fill h0.setup h0.costs A (after_drain h0.setup h0.clock)
  t2 = rw (← e1, ← s1, ← k1) e2

  t3 : h3.clock ≡ after_fills h0.setup h0.costs h0.clock
  t3 = rw (← t2, ← s1, ← k1, ← s2, ← k2) e3

  t4 : after_side h0.setup h0.costs E (after_fills h0.setup h0.costs h0.clock) ≡ with_print piece h4.clock
  t4 = rw (← t3, ← s1, ← k1, ← s2, ← k2, ← s3, ← k3) e4

  t5 : with_print piece h5.clock ≡ after_side h0.setup h0.costs A (with_print piece h4.clock)
  t5 = ap (with_print piece) e5 ∙ sym (gone_printing h4.setup h4.costs piece h4.clock) ∙ rw (← s1, ← k1, ← s2, ← k2, ← s3, ← k3, ← s4, ← k4) refl

  pub whole_clock : after_tick h0.setup h0.costs h0.clock ≡ with_print piece h6.clock
  whole_clock =
      ap (λ (c : Clock). record (after_side h0.setup h0.costs A c) { ticks = (after_side h0.setup h0.costs A c).ticks + 1 }) t4
      ∙ ap (λ (c : Clock). record c { ticks = c.ticks + 1 }) (sym t5)
      ∙ ap (with_print piece) (sym e6)

  pub whole_picks : (drain a e : Option Pick) (fill_a fill_e : Option Pick) → drain ≡ drain_of h0.setup h0.clock → fill_a ≡ fill_of h1.setup h1.costs A h1.clock → fill_e ≡ fill_of h2.setup h2.costs E h2.clock
      → e ≡ step_of h3.setup E h3.clock → a ≡ step_of h4.setup A h4.clock → record { drain = drain; fill_a = fill_a; fill_e = fill_e; e = e; a = a } ≡ picks_of h0.setup h0.costs h0.clock
  whole_picks drain a e fill_a fill_e p1 p2 p3 p4 p5 =
      let q2 : fill_a ≡ fill_of h0.setup h0.costs A (after_drain h0.setup h0.clock) = rw (← e1, ← s1, ← k1) p2 in
      let q3 : fill_e ≡ fill_of h0.setup h0.costs E (after_fill h0.setup h0.costs A (after_drain h0.setup h0.clock)) = rw (← t2, ← s1, ← k1, ← s2, ← k2) p3 in
      let q4 : e ≡ step_of h0.setup E (after_fills h0.setup h0.costs h0.clock) = rw (← t3, ← s1, ← s2, ← s3) p4 in
      let q5 : a ≡ step_of h0.setup A (after_side h0.setup h0.costs E (after_fills h0.setup h0.costs h0.clock)) = rw t4 (rw (← s1, ← s2, ← s3, ← s4) (p5 ∙ sym (step_printing h4.setup piece h4.clock))) in
      rw (p1, q2, q3, q4, q5) refl

  -- ---- the counts

  d1 : Taken h0.clock h1.clock
  d1 = rw e1 (taken_counts h0.setup _ h0.clock)

  d2 : Taken h1.clock h2.clock
  d2 = rw e2 (taken_counts h1.setup _ h1.clock)

  d3 : Taken h2.clock h3.clock
  d3 = rw e3 (taken_counts h2.setup _ h2.clock)

  d4 : GoneE h3.clock h4.clock
  d4 =
      let g : GoneE h3.clock (with_print piece h4.clock) = subst (GoneE h3.clock) e4 (gone_e h3.setup h3.costs h3.clock) in
      record { steps = g.steps; ticks = g.ticks; waits_a = g.waits_a; waits_e = g.waits_e }

  d5 : GoneA h4.clock h5.clock
  d5 = rw e5 (gone_a h4.setup h4.costs h4.clock)

  pub timed_after : IsTimed h0.clock → IsTimed h6.clock
  timed_after timed =
      let a = d1.steps in let b = d2.steps in let c = d3.steps in let d = d4.steps in let e = d5.steps in let t = timed.few in
      let ta = d1.ticks in let tb = d2.ticks in let tc = d3.ticks in let td = d4.ticks in let te = d5.ticks in
      rw e6 (record {
        few = omega (arith, a, b, c, d, e, t, ta, tb, tc, td, te);
        waits_a = λ q. (let w = timed.waits_a q in let x : waits_for q h4.clock.waits_a ≡ waits_for q h0.clock.waits_a = ap (waits_for q) (d4.waits_a ∙ d3.waits_a ∙ d2.waits_a ∙ d1.waits_a) in let y = d5.waits_a q in omega (arith, w, x, y, ta, tb, tc, td, te));
        waits_e = λ q. (let w = timed.waits_e q in let x : waits_for q h3.clock.waits_e ≡ waits_for q h0.clock.waits_e = ap (waits_for q) (d3.waits_e ∙ d2.waits_e ∙ d1.waits_e) in let y = d4.waits_e q in let z : waits_for q h5.clock.waits_e ≡ waits_for q h4.clock.waits_e = ap (waits_for q) d5.waits_e in omega (arith, w, x, y, z, ta, tb, tc, td, te));
      })

-- ---- in the middle of a tick: so many parts are done

pub record InTick (now n : ℕ) (c : Clock) : Type 0 where
  pub steps : c.state.steps ≤ 5 * now + n
  pub ticks : c.ticks ≡ now
  pub waits_a : (q : Queue) → waits_for q c.waits_a ≤ now + n
  pub waits_e : (q : Queue) → waits_for q c.waits_e ≤ now + n

pub begins : (c : Clock) → IsTimed c → InTick c.ticks 0 c
begins c t = record {
  steps = (let a = t.few in omega (arith, a));
  ticks = refl;
  waits_a = λ q. (let a = t.waits_a q in omega (arith, a));
  waits_e = λ q. (let a = t.waits_e q in omega (arith, a));
}

pub then_taken : (now n : ℕ) (setup : Setup) (o : Option Pick) (c d : Clock) → InTick now n c → d ≡ after_pick setup o c → InTick now (n + 1) d
then_taken now n setup o c d i e =
    let t = taken_counts setup o c in
    rw e (record {
      steps = (let a = t.steps in let b = i.steps in omega (arith, a, b));
      ticks = t.ticks ∙ i.ticks;
      waits_a = λ q. (let a = ap (waits_for q) t.waits_a in let b = i.waits_a q in omega (arith, a, b));
      waits_e = λ q. (let a = ap (waits_for q) t.waits_e in let b = i.waits_e q in omega (arith, a, b));
    })

pub then_e : (now n : ℕ) (setup : Setup) (k : Costs) (text : List ℕ) (c d : Clock) → InTick now n c → after_side setup k E c ≡ with_print text d → InTick now (n + 1) d
then_e now n setup k text c d i e =
    let t : GoneE c (with_print text d) = subst (GoneE c) e (gone_e setup k c) in
    record {
      steps = (let a = t.steps in let b = i.steps in omega (arith, a, b));
      ticks = t.ticks ∙ i.ticks;
      waits_a = λ q. (let a = ap (waits_for q) t.waits_a in let b = i.waits_a q in omega (arith, a, b));
      waits_e = λ q. (let a = t.waits_e q in let b = i.waits_e q in omega (arith, a, b));
    }

pub then_a : (now n : ℕ) (setup : Setup) (k : Costs) (c d : Clock) → InTick now n c → d ≡ after_side setup k A c → InTick now (n + 1) d
then_a now n setup k c d i e =
    let t = gone_a setup k c in
    rw e (record {
      steps = (let a = t.steps in let b = i.steps in omega (arith, a, b));
      ticks = t.ticks ∙ i.ticks;
      waits_a = λ q. (let a = t.waits_a q in let b = i.waits_a q in omega (arith, a, b));
      waits_e = λ q. (let a = ap (waits_for q) t.waits_e in let b = i.waits_e q in omega (arith, a, b));
    })

module _ (now n : ℕ) (c : Clock) (i : InTick now n c) (early : now < 100000000000) (some : n ≤ 5) where
  pub few_of : c.state.steps < 1000000000000
  few_of = let a = i.steps in omega (arith, a, early, some)

  pub early_of : c.ticks < 100000000000
  early_of = let a = i.ticks in omega (arith, a, early)

  pub free_e_of : (q : Queue) → waits_for q c.waits_e < 9223372036854775808
  free_e_of q = let a = i.waits_e q in omega (arith, a, early, some)

  pub free_a_of : (q : Queue) → waits_for q c.waits_a < 9223372036854775808
  free_a_of q = let a = i.waits_a q in omega (arith, a, early, some)

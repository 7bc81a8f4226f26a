-- How a timed run comes out: its ticks always lead somewhere, and there a machine is final or stuck, or can go on.
use Rattle.std.proofs.Common.{◌≡◌, ℕ, zero, suc, ◌+◌, List, [], ◌++◌, refl, sym, subst, arith}
use Rattle.std.proofs.lemmas.Option.{same_Some}
use Rattle.dae_machine.specs.declared.Pick.{Pick}
use Rattle.dae_machine.specs.Machine.{Setup, State}
use Rattle.dae_cli_options.specs.declared.options.Costs.{Costs}
use Rattle.dae_cli_drive.specs.declared.driving.Driven.{Driven}
use Rattle.dae_cli_drive.specs.declared.driving.Driven.TheVariants.{Final, Stuck, Spent, SinkFailed}
use Rattle.dae_cli_drive.specs.Turns.{Rested}
use Rattle.dae_cli_drive.proofs.Laws.{Good, Outcome as TurnsOutcome, comes_out as turns_come_out, run_keeps}
use Rattle.dae_timing.specs.Clocks.{Clock}
use Rattle.dae_timing.specs.Ticks.{after_tick, in_order, picks_of}
use Rattle.dae_timing.specs.Runs.{HasPick, Ticks, no_tick, one_tick}
use Rattle.dae_timing.proofs.LawsOfTicks.{tick_runs, ticks_are_a_run, ticks_join}
use Rattle.dae_cli_time_job.specs.Driving.{RunsOut, RestsTimed, Timing}

-- a machine is final or stuck, or can go on
state_rests : (setup : Setup) (s : State) → Good s → (how : Driven) × Rested how s.steps setup s
state_rests setup s good =
    let out : TurnsOutcome setup s (λ i. 0) 0 = turns_come_out setup s (λ i. 0) 0 good in
    let same : s ≡ out.last = same_Some s out.last out.made in
    let steps : s.steps + 0 ≡ s.steps = omega arith in
    (out.how, subst (λ (n : ℕ). Rested out.how n setup s) steps (subst (λ (t : State). Rested out.how (s.steps + 0) setup t) (sym same) out.rested))

-- the ticks from this clock on ran out somewhere
pub record Outcome (setup : Setup) (k : Costs) (c : Clock) (most : ℕ) : Type 0 where
  pub how : Driven
  pub timing : Timing
  pub runs : RunsOut setup k c most how timing

abbrev nothing_made : Clock → Timing
nothing_made c = record { ticks = 0; picks = []; clock = c }

abbrev rests_at_once : (setup : Setup) (k : Costs) (c : Clock) (most : ℕ) (how : Driven) → RestsTimed how most setup (nothing_made c) → Outcome setup k c most
rests_at_once setup k c most how r = record { how = how; timing = nothing_made c; runs = record { made = no_tick; at_most = omega arith; rests = r } }

-- one tick before
rests_later : (how : Driven) (most n : ℕ) (setup : Setup) (ps qs : List Pick) (d : Clock) → RestsTimed how most setup (record { ticks = n; picks = ps; clock = d }) → RestsTimed how (suc most) setup (record { ticks = suc n; picks = qs; clock = d })
rests_later (Final end) most n setup ps qs d r = r
rests_later Stuck most n setup ps qs d r = r
rests_later Spent most n setup ps qs d r = (let e = r.0 in omega (arith, e), r.1)
rests_later SinkFailed most n setup ps qs d r = absurd r

module _ (setup : Setup) (k : Costs) where
  good_after : (c : Clock) → Good c.state → Good (after_tick setup k c).state
  good_after c good = (run_keeps setup c.state (after_tick setup k c).state (in_order (picks_of setup k c)) good (tick_runs setup k c)).0

  one_before : (c : Clock) (most : ℕ) → HasPick setup c.state → Outcome setup k (after_tick setup k c) most → Outcome setup k c (suc most)
  one_before c most goes later = let t = later.timing in let r = later.runs in record {
    how = later.how;
    timing = record { ticks = suc t.ticks; picks = in_order (picks_of setup k c) ++ t.picks; clock = t.clock };
    runs = record {
      made = one_tick goes r.made;
      at_most = (let h = r.at_most in omega (arith, h));
      rests = rests_later later.how most t.ticks setup t.picks _ t.clock r.rests;
    };
  }

  -- a clock that rests, or that a tick follows
  by_rest : (c : Clock) (most : ℕ) (how : Driven) → Rested how (let s = c.state in s.steps) setup c.state → (HasPick setup c.state → Outcome setup k c most) → Outcome setup k c most
  by_rest c most (Final end) r later = rests_at_once setup k c most (Final end) r
  by_rest c most Stuck r later = rests_at_once setup k c most Stuck r
  by_rest c most Spent r later = later r.1
  by_rest c most SinkFailed r later = absurd r

  pub comes_out : (most : ℕ) (c : Clock) → Good c.state → Outcome setup k c most
  comes_out zero c good =
      let out = state_rests setup c.state good in
      by_rest c 0 out.0 out.1 (λ goes. rests_at_once setup k c 0 Spent (refl, goes))
  comes_out (suc most) c good =
      let out = state_rests setup c.state good in
      by_rest c (suc most) out.0 out.1 (λ goes. one_before c most goes (comes_out most (after_tick setup k c) (good_after c good)))

  rests_behind : (how : Driven) (m left n : ℕ) (ps qs : List Pick) (d : Clock) → RestsTimed how left setup (record { ticks = n; picks = ps; clock = d }) → RestsTimed how (m + left) setup (record { ticks = m + n; picks = qs; clock = d })
  rests_behind (Final end) m left n ps qs d r = r
  rests_behind Stuck m left n ps qs d r = r
  rests_behind Spent m left n ps qs d r = (let e = r.0 in omega (arith, e), r.1)
  rests_behind SinkFailed m left n ps qs d r = absurd r

  -- ticks that were made go on somehow, and their picks come first
  pub go_on : (m left : ℕ) (b c : Clock) (ps : List Pick) → Ticks setup k m b ps c → Good b.state → (out : Outcome setup k b (m + left)) × (rest : List Pick) × (let t = out.timing in t.picks ≡ ps ++ rest)
  go_on m left b c ps made good =
      let after = (run_keeps setup b.state c.state ps good (ticks_are_a_run setup k m b c ps made)).0 in
      let later = comes_out left c after in
      let t = later.timing in
      let r = later.runs in (
        record {
          how = later.how;
          timing = record { ticks = m + t.ticks; picks = ps ++ t.picks; clock = t.clock };
          runs = record {
            made = ticks_join setup k m t.ticks b c t.clock ps t.picks made r.made;
            at_most = (let h = r.at_most in omega (arith, h));
            rests = rests_behind later.how m left t.ticks t.picks (ps ++ t.picks) t.clock r.rests;
          };
        },
        t.picks,
        refl,
      )

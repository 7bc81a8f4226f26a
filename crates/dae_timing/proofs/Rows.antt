-- What is counted along ticks in a row.
use Rattle.std.proofs.Common.{◌≡◌, ℕ, suc, ◌+◌, List, [], ◌∷◌, ◌++◌, length, sym, ap, ◌∙◌, subst, arith}
use Rattle.std.proofs.lemmas.List.{append_assoc}
use Rattle.dae_base.proofs.Laws.{and_then_some}
use Rattle.dae_base.specs.declared.Side.TheVariants.{A, E}
use Rattle.dae_image.specs.declared.Image.{Image}
use Rattle.dae_machine.specs.declared.Pick.{Pick}
use Rattle.dae_machine.specs.Machine.{Setup, State, Runs, run, step}
use Rattle.dae_machine.specs.Opened.{opened}
use Rattle.dae_machine.proofs.LawsOfRuns.{step_counts}
use Rattle.dae_cli_options.specs.declared.options.Costs.{Costs}
use Rattle.dae_timing.specs.Clocks.{Clock, first_clock}
use Rattle.dae_timing.specs.Ticks.{after_drain, after_fill, after_side, after_tick, drain_of, fill_of, in_order, picks_of}
use Rattle.dae_timing.specs.Runs.{Ticks, TimedRun, no_tick, one_tick}
use Rattle.dae_timing.proofs.Running.{ticks_are_a_run}
use Rattle.dae_timing.proofs.Whole.{gone_a, gone_e, taken_counts}

-- a run counts its picks
run_counts : (setup : Setup) (s t : State) (ps : List Pick) → Runs setup s ps t → t.steps ≡ s.steps + length ps
run_counts setup s t [] h = let e : s ≡ t = cc in subst (λ (u : State). u.steps ≡ s.steps + 0) e (omega arith)
run_counts setup s t (p ∷ ps) h =
    let x = and_then_some (λ u. run setup u ps) (step setup s p) t h in
    let one = step_counts setup s x.0 p x.1 in
    let more = run_counts setup x.0 t ps x.2 in
    omega (arith, one, more)

pub tick_counts : (setup : Setup) (k : Costs) (c : Clock) → (after_tick setup k c).ticks ≡ c.ticks + 1
tick_counts setup k c =
    let c1 = after_drain setup c in
    let c2 = after_fill setup k A c1 in
    let c3 = after_fill setup k E c2 in
    let c4 = after_side setup k E c3 in
    let e1 = (taken_counts setup (drain_of setup c) c).ticks in
    let e2 = (taken_counts setup (fill_of setup k A c1) c1).ticks in
    let e3 = (taken_counts setup (fill_of setup k E c2) c2).ticks in
    let e4 = (gone_e setup k c3).ticks in
    let e5 = (gone_a setup k c4).ticks in
    ap (λ n. n + 1) (e5 ∙ e4 ∙ e3 ∙ e2 ∙ e1)

ticks_count : (setup : Setup) (k : Costs) (n : ℕ) (c d : Clock) (ps : List Pick) → Ticks setup k n c ps d → d.ticks ≡ c.ticks + n
ticks_count setup k n c d ps no_tick = omega arith
ticks_count setup k n c d ps (one_tick {n = m} {ps = qs} goes later) =
    let more = ticks_count setup k m (after_tick setup k c) d qs later in
    let one = tick_counts setup k c in
    omega (arith, more, one)

pub timed_run : (setup : Setup) (k : Costs) (image : Image) (n : ℕ) (d : Clock) (ps : List Pick) → Ticks setup k n (first_clock (opened image)) ps d → TimedRun setup image n ps d
timed_run setup k image n d ps ticks =
    let run = ticks_are_a_run setup k n (first_clock (opened image)) d ps ticks in
    record {
      run = run;
      steps = (let e = run_counts setup (opened image) d.state ps run in omega (arith, e));
      ticks = (let e = ticks_count setup k n (first_clock (opened image)) d ps ticks in omega (arith, e));
    }

pub ticks_join : (setup : Setup) (k : Costs) (m n : ℕ) (b c d : Clock) (ps qs : List Pick) → Ticks setup k m b ps c → Ticks setup k n c qs d → Ticks setup k (m + n) b (ps ++ qs) d
ticks_join setup k m n b c d ps qs no_tick later = let e : n ≡ 0 + n = omega arith in subst (λ (j : ℕ). Ticks setup k j b qs d) e later
ticks_join setup k m n b c d ps qs (one_tick {n = l} {ps = rs} goes first) later =
    let e : suc (l + n) ≡ suc l + n = omega arith in
    let more = one_tick goes (ticks_join setup k l n (after_tick setup k b) c d rs qs first later) in
    let here : Ticks setup k (suc (l + n)) b ((in_order (picks_of setup k b) ++ rs) ++ qs) d = subst (λ (ts : List Pick). Ticks setup k (suc (l + n)) b ts d) (sym (append_assoc (in_order (picks_of setup k b)) rs qs)) more in
    subst (λ (j : ℕ). Ticks setup k j b ((in_order (picks_of setup k b) ++ rs) ++ qs) d) e here

-- The picks of ticks in a row are a run.
use Rattle.std.proofs.Common.{◌≡◌, ℕ, Bool, true, false, ◌&&◌, List, [], ◌∷◌, refl}
use Rattle.std.specs.Prelude.{Option, Some, None, nat_lt, nat_le, ◌+◌, if◌then◌else◌}
use Rattle.std.specs.Option.{option_to_list}
use Rattle.dae_base.specs.declared.Side.{Side}
use Rattle.dae_base.specs.declared.Side.TheVariants.{A, E}
use Rattle.dae_core.specs.declared.CoreAnswer.{CoreAnswer}
use Rattle.dae_core.specs.declared.CoreAnswer.TheVariants.{Did, Waits, Halted, Faulted}
use Rattle.dae_queues.specs.declared.Slot.{Slot}
use Rattle.dae_machine.specs.declared.Pick.{Pick}
use Rattle.dae_machine.specs.declared.Pick.TheVariants.{Fill, Drain}
use Rattle.dae_machine.specs.Answers.{answer}
use Rattle.dae_machine.specs.Machine.{Setup, State, Runs, step}
use Rattle.dae_machine.specs.Memory.{loads_of}
use Rattle.dae_machine.specs.Turns.{is_enabled}
use Rattle.dae_machine.proofs.LawsOfRuns.{run-on}
use Rattle.dae_cli_options.specs.declared.options.Costs.{Costs}
use Rattle.dae_timing.specs.Clocks.{Clock, free_from, issues_of}
use Rattle.dae_timing.specs.Ticks.{after_drain, after_fill, drain_of, fill_of, after_side, in_order, move_of, after_move, picks_of, first_ripe, step_of, after_step, after_pick, after_tick, after_wait}
use Rattle.dae_timing.specs.Runs.{Ticks, no_tick, one_tick}

-- a pick that is there is enabled
abbrev pub IsEnabledIf : Setup → State → Option Pick → Type 0
IsEnabledIf setup s o = (p : Pick) → o ≡ Some p → is_enabled setup s p ≡ true

-- a pick that is made is a run of one pick
pub made_runs : (setup : Setup) (c : Clock) (o : Option Pick) → IsEnabledIf setup c.state o → Runs setup c.state (option_to_list o) (after_pick setup o c).state
made_runs setup c None h = refl
made_runs setup c (Some p) h = by_step (step setup c.state p) refl (h p refl) where
  by_step : (o : Option State) → step setup c.state p ≡ o → is_enabled setup c.state p ≡ true → Runs setup c.state (p ∷ []) (after_step c (step setup c.state p)).state
  by_step None e t = let f : false ≡ true = rw e at t in cc
  by_step (Some u) e t = rw e refl

pub if_enabled : (setup : Setup) (s : State) (p : Pick) → IsEnabledIf setup s (if is_enabled setup s p then Some p else None)
if_enabled setup s p = by_test (is_enabled setup s p) refl where
  by_test : (b : Bool) → is_enabled setup s p ≡ b → (q : Pick) → (if b then Some p else None) ≡ Some q → is_enabled setup s q ≡ true
  by_test true e q h = let same : p ≡ q = cc in rw (← same) e
  by_test false e q h = cc

pub ripe_enabled : (setup : Setup) (s : State) (side : Side) (load now : ℕ) (slots : List Slot) (times : List ℕ) → IsEnabledIf setup s (first_ripe setup s side load now slots times)
ripe_enabled setup s side load now [] times p h = cc
ripe_enabled setup s side load now (slot ∷ slots) [] p h = cc
ripe_enabled setup s side load now (slot ∷ slots) (tick ∷ times) p h = by_tests (nat_le (tick + load) now) (is_enabled setup s (Fill side slot.number)) refl h (ripe_enabled setup s side load now slots times p) where
  by_tests : (a b : Bool) → is_enabled setup s (Fill side slot.number) ≡ b → (if a && b then Some (Fill side slot.number) else first_ripe setup s side load now slots times) ≡ Some p → (first_ripe setup s side load now slots times ≡ Some p → is_enabled setup s p ≡ true) → is_enabled setup s p ≡ true
  by_tests true true e g later = let same : Fill side slot.number ≡ p = cc in rw (← same) e
  by_tests true false e g later = later g
  by_tests false b e g later = later g

pub waiting_state : (a : CoreAnswer) (side : Side) (c : Clock) → (after_wait a side c).state ≡ c.state
waiting_state (Did piece) side c = refl
waiting_state (Waits queue) A c = refl
waiting_state (Waits queue) E c = refl
waiting_state Halted side c = refl
waiting_state (Faulted fault) side c = refl

pub moved_state : (side : Side) (cost : ℕ) (c : Clock) (t : State) → (after_move side cost c t).state ≡ t
moved_state A cost c t = refl
moved_state E cost c t = refl

-- what a processor does in a tick is a run of its step, or of none
pub gone_runs : (setup : Setup) (k : Costs) (side : Side) (c : Clock) → Runs setup c.state (option_to_list (step_of setup side c)) (after_side setup k side c).state
gone_runs setup k side c = by_free (nat_lt c.ticks (free_from side c)) refl where
  by_step : (o : Option State) → step setup c.state (move_of side) ≡ o → nat_lt c.ticks (free_from side c) ≡ false → Runs setup c.state (option_to_list (step_of setup side c)) (after_side setup k side c).state
  by_step None e f = rw (f, e, waiting_state (answer setup c.state side) side c) refl
  by_step (Some t) e f = rw (f, e, moved_state side _ c t) (rw e refl)

  by_free : (b : Bool) → nat_lt c.ticks (free_from side c) ≡ b → Runs setup c.state (option_to_list (step_of setup side c)) (after_side setup k side c).state
  by_free true e = rw e refl
  by_free false e = by_step (step setup c.state (move_of side)) refl e

-- the picks of one tick are a run
pub tick_runs : (setup : Setup) (k : Costs) (c : Clock) → Runs setup c.state (in_order (picks_of setup k c)) (after_tick setup k c).state
tick_runs setup k c =
    let c1 = after_drain setup c in
    let c2 = after_fill setup k A c1 in
    let c3 = after_fill setup k E c2 in
    let c4 = after_side setup k E c3 in
    let c5 = after_side setup k A c4 in
    let drains = made_runs setup c (drain_of setup c) (if_enabled setup c.state Drain) in
    let fills_a = made_runs setup c1 (fill_of setup k A c1) (ripe_enabled setup c1.state A k.load c1.ticks (loads_of A c1.state.queues).slots (issues_of A c1)) in
    let fills_e = made_runs setup c2 (fill_of setup k E c2) (ripe_enabled setup c2.state E k.load c2.ticks (loads_of E c2.state.queues).slots (issues_of E c2)) in
    let goes_e = gone_runs setup k E c3 in
    let goes_a = gone_runs setup k A c4 in
    run-on (step setup) c.state c1.state c5.state _ _ drains
    (run-on (step setup) c1.state c2.state c5.state _ _ fills_a
    (run-on (step setup) c2.state c3.state c5.state _ _ fills_e
    (run-on (step setup) c3.state c4.state c5.state _ _ goes_e goes_a)))

pub ticks_are_a_run : (setup : Setup) (k : Costs) (n : ℕ) (c d : Clock) (ps : List Pick) → Ticks setup k n c ps d → Runs setup c.state ps d.state
ticks_are_a_run setup k n c d ps no_tick = refl
ticks_are_a_run setup k n c d ps (one_tick {n = m} {ps = qs} goes later) =
    run-on (step setup) c.state (after_tick setup k c).state d.state (in_order (picks_of setup k c)) qs (tick_runs setup k c) (ticks_are_a_run setup k m (after_tick setup k c) d qs later)

-- What was printed before changes no tick.
use Rattle.std.proofs.Common.{◌≡◌, ℕ, suc, ◌+◌, Bool, true, false, List, [], ◌∷◌, ◌++◌, refl, sym, ap, ◌∙◌, subst}
use Rattle.std.specs.Prelude.{Option, Some, None, is_some, nat_lt, if◌then◌else◌}
use Rattle.dae_base.proofs.Laws.{none_of}
use Rattle.dae_base.specs.declared.Side.{Side}
use Rattle.dae_base.specs.declared.Side.TheVariants.{A, E}
use Rattle.dae_core.specs.declared.CoreAnswer.{CoreAnswer}
use Rattle.dae_core.specs.declared.CoreAnswer.TheVariants.{Did, Waits, Halted, Faulted}
use Rattle.dae_queues.specs.declared.Slot.{Slot}
use Rattle.dae_machine.specs.declared.Pick.{Pick}
use Rattle.dae_machine.specs.declared.Pick.TheVariants.{A as MoveA, E as MoveE, Fill, Drain}
use Rattle.dae_machine.specs.Answers.{answer, processor}
use Rattle.dae_machine.specs.Machine.{Setup, State, step}
use Rattle.dae_machine.specs.Memory.{drain}
use Rattle.dae_machine.specs.Printing.{behind}
use Rattle.dae_machine.proofs.LawsOfRuns.{step_behind, enabled_behind}
use Rattle.dae_cli_options.specs.declared.options.Costs.{Costs}
use Rattle.dae_timing.specs.Clocks.{Clock, free_from}
use Rattle.dae_timing.specs.Ticks.{Picks, after_drain, after_fill, after_fills, after_move, after_moves, after_pick, after_side, after_tick, after_wait, drain_of, fill_of, first_ripe, in_order, move_of, picks_of, step_of}
use Rattle.dae_timing.specs.Runs.{HasPick, PrintIsApart, Ticks, clock_behind, no_tick, one_tick}

none_behind : (setup : Setup) (s : State) (p : Pick) (xs : List ℕ) → step setup s p ≡ None → step setup (behind xs s) p ≡ None
none_behind setup s p xs h = none_of (step setup (behind xs s) p) (enabled_behind setup s p xs ∙ ap is_some h)

-- the picks of a tick, from its parts
abbrev five : (drain fill_a fill_e e a : Option Pick) → Picks
five drain fill_a fill_e e a = record { drain = drain; fill_a = fill_a; fill_e = fill_e; e = e; a = a }

module _ (setup : Setup) (k : Costs) (xs : List ℕ) where
  made_behind : (o : Option Pick) (c : Clock) → after_pick setup o (clock_behind xs c) ≡ clock_behind xs (after_pick setup o c)
  made_behind None c = refl
  made_behind (Some p) c = by_step (step setup c.state p) refl where
    by_step : (o : Option State) → step setup c.state p ≡ o → after_pick setup (Some p) (clock_behind xs c) ≡ clock_behind xs (after_pick setup (Some p) c)
    by_step None e = rw (none_behind setup c.state p xs e, e) refl
    by_step (Some t) e = rw (step_behind setup c.state t p xs e, e) refl

  drain_behind : (c : Clock) → drain_of setup (clock_behind xs c) ≡ drain_of setup c
  drain_behind c = ap (λ (b : Bool). if b then Some Drain else None) (enabled_behind setup c.state Drain xs)

  ripe_behind : (s : State) (side : Side) (load now : ℕ) (slots : List Slot) (issues : List ℕ) → first_ripe setup (behind xs s) side load now slots issues ≡ first_ripe setup s side load now slots issues
  ripe_behind s side load now [] issues = refl
  ripe_behind s side load now (slot ∷ slots) [] = refl
  ripe_behind s side load now (slot ∷ slots) (t ∷ ts) = rw (enabled_behind setup s (Fill side slot.number) xs, ripe_behind s side load now slots ts) refl

  fill_behind : (side : Side) (c : Clock) → fill_of setup k side (clock_behind xs c) ≡ fill_of setup k side c
  fill_behind A c = ripe_behind c.state A k.load c.ticks c.state.queues.al.slots c.al
  fill_behind E c = ripe_behind c.state E k.load c.ticks c.state.queues.ld.slots c.ld

  step_of_behind : (side : Side) (c : Clock) → step_of setup side (clock_behind xs c) ≡ step_of setup side c
  step_of_behind A c = ap (λ (b : Bool). if nat_lt c.ticks c.free_a then None else (if b then Some MoveA else None)) (enabled_behind setup c.state MoveA xs)
  step_of_behind E c = ap (λ (b : Bool). if nat_lt c.ticks c.free_e then None else (if b then Some MoveE else None)) (enabled_behind setup c.state MoveE xs)

  wait_behind : (a : CoreAnswer) (side : Side) (c : Clock) → after_wait a side (clock_behind xs c) ≡ clock_behind xs (after_wait a side c)
  wait_behind (Did piece) side c = refl
  wait_behind (Waits queue) A c = refl
  wait_behind (Waits queue) E c = refl
  wait_behind Halted side c = refl
  wait_behind (Faulted fault) side c = refl

  free_behind : (side : Side) (c : Clock) → free_from side (clock_behind xs c) ≡ free_from side c
  free_behind A c = refl
  free_behind E c = refl

  answer_behind : (side : Side) (s : State) → answer setup (behind xs s) side ≡ answer setup s side
  answer_behind A s = refl
  answer_behind E s = refl

  processor_behind : (side : Side) (s : State) → processor side (behind xs s) ≡ processor side s
  processor_behind A s = refl
  processor_behind E s = refl

  move_behind : (side : Side) (cost : ℕ) (c : Clock) (t : State) → after_move side cost (clock_behind xs c) (behind xs t) ≡ clock_behind xs (after_move side cost c t)
  move_behind A cost c t = refl
  move_behind E cost c t = refl

  side_behind : (side : Side) (c : Clock) → after_side setup k side (clock_behind xs c) ≡ clock_behind xs (after_side setup k side c)
  side_behind side c = by_free (nat_lt c.ticks (free_from side c)) refl where
    by_step : (o : Option State) → step setup c.state (move_of side) ≡ o → nat_lt c.ticks (free_from side c) ≡ false → after_side setup k side (clock_behind xs c) ≡ clock_behind xs (after_side setup k side c)
    by_step None e f = rw (free_behind side c, f, none_behind setup c.state (move_of side) xs e, e, answer_behind side c.state) (wait_behind (answer setup c.state side) side c)
    by_step (Some t) e f = rw (free_behind side c, f, step_behind setup c.state t (move_of side) xs e, e, processor_behind side c.state) (move_behind side _ c t)

    by_free : (b : Bool) → nat_lt c.ticks (free_from side c) ≡ b → after_side setup k side (clock_behind xs c) ≡ clock_behind xs (after_side setup k side c)
    by_free true e = rw (free_behind side c, e) refl
    by_free false e = by_step (step setup c.state (move_of side)) refl e

  after_drain_behind : (c : Clock) → after_drain setup (clock_behind xs c) ≡ clock_behind xs (after_drain setup c)
  after_drain_behind c = ap (λ (o : Option Pick). after_pick setup o (clock_behind xs c)) (drain_behind c) ∙ made_behind (drain_of setup c) c

  after_fill_behind : (side : Side) (c : Clock) → after_fill setup k side (clock_behind xs c) ≡ clock_behind xs (after_fill setup k side c)
  after_fill_behind side c = ap (λ (o : Option Pick). after_pick setup o (clock_behind xs c)) (fill_behind side c) ∙ made_behind (fill_of setup k side c) c

  module _ (c : Clock) where
    b1 : after_drain setup (clock_behind xs c) ≡ clock_behind xs (after_drain setup c)
    b1 = after_drain_behind c

    b2 : after_fill setup k A (after_drain setup (clock_behind xs c)) ≡ clock_behind xs (after_fill setup k A (after_drain setup c))
    b2 = ap (after_fill setup k A) b1 ∙ after_fill_behind A (after_drain setup c)

    b3 : after_fills setup k (clock_behind xs c) ≡ clock_behind xs (after_fills setup k c)
    b3 = ap (after_fill setup k E) b2 ∙ after_fill_behind E (after_fill setup k A (after_drain setup c))

    b4 : after_side setup k E (after_fills setup k (clock_behind xs c)) ≡ clock_behind xs (after_side setup k E (after_fills setup k c))
    b4 = ap (after_side setup k E) b3 ∙ side_behind E (after_fills setup k c)

    b5 : after_moves setup k (clock_behind xs c) ≡ clock_behind xs (after_side setup k A (after_side setup k E (after_fills setup k c)))
    b5 = ap (after_side setup k A) b4 ∙ side_behind A (after_side setup k E (after_fills setup k c))

    pub tick_behind : after_tick setup k (clock_behind xs c) ≡ clock_behind xs (after_tick setup k c)
    tick_behind = ap (λ (d : Clock). record d { ticks = d.ticks + 1 }) b5

    pub picks_behind : picks_of setup k (clock_behind xs c) ≡ picks_of setup k c
    picks_behind =
        let p1 = drain_behind c in
        let p2 = ap (fill_of setup k A) b1 ∙ fill_behind A (after_drain setup c) in
        let p3 = ap (fill_of setup k E) b2 ∙ fill_behind E (after_fill setup k A (after_drain setup c)) in
        let p4 = ap (step_of setup E) b3 ∙ step_of_behind E (after_fills setup k c) in
        let p5 = ap (step_of setup A) b4 ∙ step_of_behind A (after_side setup k E (after_fills setup k c)) in
        let at_e = step_of setup E (after_fills setup k c) in
        ap (λ (o : Option Pick). five o (fill_of setup k A (after_drain setup (clock_behind xs c))) (fill_of setup k E (after_fill setup k A (after_drain setup (clock_behind xs c)))) (step_of setup E (after_fills setup k (clock_behind xs c))) (step_of setup A (after_side setup k E (after_fills setup k (clock_behind xs c))))) p1
        ∙ ap (λ (o : Option Pick). five (drain_of setup c) o (fill_of setup k E (after_fill setup k A (after_drain setup (clock_behind xs c)))) (step_of setup E (after_fills setup k (clock_behind xs c))) (step_of setup A (after_side setup k E (after_fills setup k (clock_behind xs c))))) p2
        ∙ ap (λ (o : Option Pick). five (drain_of setup c) (fill_of setup k A (after_drain setup c)) o (step_of setup E (after_fills setup k (clock_behind xs c))) (step_of setup A (after_side setup k E (after_fills setup k (clock_behind xs c))))) p3
        ∙ ap (λ (o : Option Pick). five (drain_of setup c) (fill_of setup k A (after_drain setup c)) (fill_of setup k E (after_fill setup k A (after_drain setup c))) o (step_of setup A (after_side setup k E (after_fills setup k (clock_behind xs c))))) p4
        ∙ ap (five (drain_of setup c) (fill_of setup k A (after_drain setup c)) (fill_of setup k E (after_fill setup k A (after_drain setup c))) at_e) p5

  pub ticks_behind : (n : ℕ) (c d : Clock) (ps : List Pick) → Ticks setup k n c ps d → Ticks setup k n (clock_behind xs c) ps (clock_behind xs d)
  ticks_behind n c d ps no_tick = no_tick
  ticks_behind n c d ps (one_tick {n = m} {ps = qs} goes later) =
      let more = ticks_behind m (after_tick setup k c) d qs later in
      let here = subst (λ (e : Clock). Ticks setup k m e qs (clock_behind xs d)) (sym (tick_behind c)) more in
      let goes' : HasPick setup (clock_behind xs c).state = (goes.0, behind xs goes.1, step_behind setup c.state goes.1 goes.0 xs goes.2) in
      subst (λ (picks : Picks). Ticks setup k (suc m) (clock_behind xs c) (in_order picks ++ qs) (clock_behind xs d)) (picks_behind c) (one_tick goes' here)

pub print_is_apart : PrintIsApart
print_is_apart setup k xs c = record { picks = picks_behind setup k xs c; clock = tick_behind setup k xs c }

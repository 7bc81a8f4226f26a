-- What a step of a processor leaves true of a machine with a clock, and what comes of a processor in a tick.
use Rattle.std.proofs.Common.{◌≡◌, ℕ, ◌+◌, List, [], length, refl, sym, ap, ◌∙◌, subst}
use Rattle.std.specs.Prelude.{Some}
use Rattle.dae_base.specs.declared.Side.{Side}
use Rattle.dae_machine.specs.Held.{HeldMachine}
use Rattle.dae_machine.specs.Machine.{Setup, State, step}
use Rattle.dae_queues.specs.Fifos.{BoundedQueue}
use Rattle.dae_timing.specs.declared.prices.Price.{Price}
use Rattle.dae_timing.specs.Clocks.{Clock, issues_after}
use Rattle.dae_timing.specs.Held.{IsSound}
use Rattle.dae_timing.specs.Ticks.{move_of}
use Rattle.dae_machine.specs.declared.Pick.TheVariants.{Fill, Drain}
use Rattle.dae_machine.specs.Machine.{filled}
use Rattle.dae_machine.specs.Memory.{QueuesCount, fill}
use Rattle.dae_core.specs.Queues.{Queues}
use Rattle.dae_machine.proofs.LawsOfRuns.{counted_step}
use Rattle.dae_base.proofs.Laws.{map_some_is}
use Rattle.dae_timing.specs.Ticks.{after_pick}
use Rattle.dae_timing.proofs.Rising.{rise_after, rise_later}
use Rattle.dae_timing.proofs.Counting.{BothShift, drain_same, fill_same, move_shift, noted_length}

pub sound_after : (m n : HeldMachine) (pa pe : List Price) (ld al ld' al' : BoundedQueue ℕ) (now : ℕ) (side : Side) (t : State) → IsSound m pa pe now ld al → n.setup ≡ m.setup
    → step m.setup m.state (move_of side) ≡ Some t → n.state.queues ≡ t.queues
    → ld'.held ≡ issues_after now (length m.state.queues.ld.slots) (length n.state.queues.ld.slots) ld.held → ld'.depth ≡ ld.depth
    → al'.held ≡ issues_after now (length m.state.queues.al.slots) (length n.state.queues.al.slots) al.held → al'.depth ≡ al.depth → IsSound n pa pe now ld' al'
sound_after m n pa pe ld al ld' al' now side t sound setup steps queues held_ld deep_ld held_al deep_al =
    let shift : BothShift m.setup.depths m.state.queues n.state.queues = rw queues (move_shift m.setup m.state t side steps) in
    record {
      priced_a = rw setup sound.priced_a;
      priced_e = rw setup sound.priced_e;
      deep_ld = rw setup (deep_ld ∙ sound.deep_ld);
      deep_al = rw setup (deep_al ∙ sound.deep_al);
      each_ld = rw held_ld (noted_length now _ _ _ ld.held shift.ld sound.each_ld);
      each_al = rw held_al (noted_length now _ _ _ al.held shift.al sound.each_al);
      rise_ld = rw held_ld (rise_after now (length m.state.queues.ld.slots) (length n.state.queues.ld.slots) ld.held sound.rise_ld);
      rise_al = rw held_al (rise_after now (length m.state.queues.al.slots) (length n.state.queues.al.slots) al.held sound.rise_al);
      counted = subst (λ (q : Queues). QueuesCount q) (sym queues) (counted_step m.setup m.state t (move_of side) sound.counted steps);
    }

-- a fill prints nothing
fill_quiet : (setup : Setup) (s t : State) (side : Side) (number : ℕ) → step setup s (Fill side number) ≡ Some t → t.printed ≡ s.printed
fill_quiet setup s t side number h = let x = map_some_is (filled s) (fill side number s.queues s.memory) t h in sym (ap (λ (z : State). z.printed) x.2)

abbrev printed_as : State → List ℕ → State
printed_as s text = record s { printed = text }

-- the state of a machine after a fill is the definition's
fill_state : (m n : HeldMachine) (side : Side) (number : ℕ) (piece : List ℕ) → step m.setup m.state (Fill side number) ≡ Some (printed_as n.state piece) → step m.setup m.state (Fill side number) ≡ Some n.state
fill_state m n side number piece h =
    let quiet : piece ≡ [] = fill_quiet m.setup m.state (printed_as n.state piece) side number h ∙ m.silent in
    let same : printed_as n.state piece ≡ n.state = ap (printed_as n.state) (quiet ∙ sym n.silent) in
    h ∙ ap Some same

pub sound_filled : (m n : HeldMachine) (pa pe : List Price) (now : ℕ) (ld al : BoundedQueue ℕ) (side : Side) (number : ℕ) (piece : List ℕ) → IsSound m pa pe now ld al → n.setup ≡ m.setup → step m.setup m.state (Fill side number) ≡ Some (printed_as n.state piece) → IsSound n pa pe now ld al
sound_filled m n pa pe now ld al side number piece sound setup h =
    let same = fill_same m.setup m.state n.state side number (fill_state m n side number piece h) in
    record {
      priced_a = rw setup sound.priced_a;
      priced_e = rw setup sound.priced_e;
      deep_ld = rw setup sound.deep_ld;
      deep_al = rw setup sound.deep_al;
      each_ld = sound.each_ld ∙ sym same.ld;
      each_al = sound.each_al ∙ sym same.al;
      rise_ld = sound.rise_ld;
      rise_al = sound.rise_al;
      counted = counted_step m.setup m.state (printed_as n.state piece) (Fill side number) sound.counted h;
    }

pub sound_drained : (m n : HeldMachine) (pa pe : List Price) (now : ℕ) (ld al : BoundedQueue ℕ) (piece : List ℕ) → IsSound m pa pe now ld al → n.setup ≡ m.setup → step m.setup m.state Drain ≡ Some (printed_as n.state piece) → IsSound n pa pe now ld al
sound_drained m n pa pe now ld al piece sound setup h =
    let same = drain_same m.setup m.state (printed_as n.state piece) h in
    record {
      priced_a = rw setup sound.priced_a;
      priced_e = rw setup sound.priced_e;
      deep_ld = rw setup sound.deep_ld;
      deep_al = rw setup sound.deep_al;
      each_ld = sound.each_ld ∙ sym same.ld;
      each_al = sound.each_al ∙ sym same.al;
      rise_ld = sound.rise_ld;
      rise_al = sound.rise_al;
      counted = counted_step m.setup m.state (printed_as n.state piece) Drain sound.counted h;
    }

-- the tick that ends
pub sound_later : (m : HeldMachine) (pa pe : List Price) (now : ℕ) (ld al : BoundedQueue ℕ) → IsSound m pa pe now ld al → IsSound m pa pe (now + 1) ld al
sound_later m pa pe now ld al sound = record {
  priced_a = sound.priced_a;
  priced_e = sound.priced_e;
  deep_ld = sound.deep_ld;
  deep_al = sound.deep_al;
  each_ld = sound.each_ld;
  each_al = sound.each_al;
  rise_ld = rise_later now ld.held sound.rise_ld;
  rise_al = rise_later now al.held sound.rise_al;
  counted = sound.counted;
}

pub clock_filled : (m n : HeldMachine) (c : Clock) (side : Side) (number : ℕ) (piece : List ℕ) → c.state ≡ m.state → step m.setup m.state (Fill side number) ≡ Some (printed_as n.state piece) → record c { state = n.state } ≡ after_pick m.setup (Some (Fill side number)) c
clock_filled m n c side number piece e h = rw (e, fill_state m n side number piece h) refl

-- One tick: what is made of its five parts, in their order, and what a machine with a clock is after it.
use Rattle.std.specs.Prelude.{ℕ, ◌+◌, ◌&&◌, nat_lt, nat_le, if◌then◌else◌, List, [], ◌∷◌, ◌++◌, length, Option, Some, None}
use Rattle.std.specs.Option.{option_to_list}
use Rattle.dae_base.specs.declared.Side.{Side}
use Rattle.dae_base.specs.declared.Side.TheVariants.{A, E}
use Rattle.dae_core.specs.declared.CoreAnswer.{CoreAnswer}
use Rattle.dae_core.specs.declared.CoreAnswer.TheVariants.{Did, Waits, Halted, Faulted}
use Rattle.dae_queues.specs.declared.Slot.{Slot}
use Rattle.dae_machine.specs.declared.Pick.{Pick}
use Rattle.dae_machine.specs.declared.Pick.TheVariants.{A as MoveA, E as MoveE, Fill, Drain}
use Rattle.dae_machine.specs.Answers.{answer, processor}
use Rattle.dae_machine.specs.Machine.{Setup, State, code, step}
use Rattle.dae_machine.specs.Memory.{loads_of}
use Rattle.dae_machine.specs.Turns.{is_enabled}
use Rattle.dae_cli_options.specs.declared.options.Costs.{Costs}
use Rattle.dae_timing.specs.Clocks.{Clock, free_from, with_free, issues_of, issues_after, with_wait}
use Rattle.dae_timing.specs.Costs.{cost_of, price_at}

-- ---- a pick is made where it is enabled

abbrev pub after_step : Clock → Option State → Clock
after_step c None = c
after_step c (Some t) = record c { state = t }

abbrev pub after_pick : Setup → Option Pick → Clock → Clock
after_pick setup None c = c
after_pick setup (Some p) c = after_step c (step setup c.state p)

-- ---- the memory

abbrev pub drain_of : Setup → Clock → Option Pick
drain_of setup c = if is_enabled setup c.state Drain then Some Drain else None

-- of the slots whose fill is enabled and that were issued at least so many ticks before, the lowest. Each slot has the
-- tick of its issue
abbrev pub first_ripe : Setup → State → Side → (load now : ℕ) → List Slot → List ℕ → Option Pick
first_ripe setup s side load now [] issues = None
first_ripe setup s side load now (slot ∷ slots) [] = None
first_ripe setup s side load now (slot ∷ slots) (tick ∷ issues) =
    if nat_le (tick + load) now && is_enabled setup s (Fill side slot.number)
    then Some (Fill side slot.number)
    else first_ripe setup s side load now slots issues

abbrev pub fill_of : Setup → Costs → Side → Clock → Option Pick
fill_of setup k side c =
    first_ripe setup c.state side k.load c.ticks (loads_of side c.state.queues).slots (issues_of side c)

-- ---- a processor

abbrev pub move_of : Side → Pick
move_of A = MoveA
move_of E = MoveE

-- the clock after the step of a processor to this state, whose instruction cost so much
abbrev pub after_move : Side → ℕ → Clock → State → Clock
after_move side cost c t =
    with_free side (c.ticks + cost) (record c {
      state = t;
      ld = issues_after c.ticks (length c.state.queues.ld.slots) (length t.queues.ld.slots) c.ld;
      al = issues_after c.ticks (length c.state.queues.al.slots) (length t.queues.al.slots) c.al;
    })

-- the clock once a processor without a step counted the queue for which it waits
abbrev pub after_wait : CoreAnswer → Side → Clock → Clock
after_wait (Did piece) side c = c
after_wait (Waits queue) side c = with_wait side queue c
after_wait Halted side c = c
after_wait (Faulted fault) side c = c

-- the step of a processor that isn't held back, where it has one
abbrev pub step_of : Setup → Side → Clock → Option Pick
step_of setup side c =
    if nat_lt c.ticks (free_from side c) then None
    else (if is_enabled setup c.state (move_of side) then Some (move_of side) else None)

-- the clock after that step, where there is one; else a wait is counted
abbrev pub after_side_by : Option State → Setup → Costs → Side → Clock → Clock
after_side_by (Some t) setup k side c =
    after_move side (cost_of k (price_at (code setup side) (processor side c.state))) c t
after_side_by None setup k side c = after_wait (answer setup c.state side) side c

-- a processor that is held back does nothing
abbrev pub after_side : Setup → Costs → Side → Clock → Clock
after_side setup k side c =
    if nat_lt c.ticks (free_from side c) then c
    else after_side_by (step setup c.state (move_of side)) setup k side c

-- ---- a whole tick, in a state with an enabled pick

abbrev pub after_drain : Setup → Clock → Clock
after_drain setup c = after_pick setup (drain_of setup c) c

abbrev pub after_fill : Setup → Costs → Side → Clock → Clock
after_fill setup k side c = after_pick setup (fill_of setup k side c) c

abbrev pub after_fills : Setup → Costs → Clock → Clock
after_fills setup k c = after_fill setup k E (after_fill setup k A (after_drain setup c))

abbrev pub after_moves : Setup → Costs → Clock → Clock
after_moves setup k c = after_side setup k A (after_side setup k E (after_fills setup k c))

-- the clock after it
abbrev pub after_tick : Setup → Costs → Clock → Clock
after_tick setup k c = let d = after_moves setup k c in record d { ticks = d.ticks + 1 }

-- its picks: a drain, a fill of al, a fill of ld, a step of E, a step of A
pub record Picks : Type 0 where
  pub drain : Option Pick
  pub fill_a : Option Pick
  pub fill_e : Option Pick
  pub e : Option Pick
  pub a : Option Pick

-- each is asked at its turn
abbrev pub picks_of : Setup → Costs → Clock → Picks
picks_of setup k c = record {
  drain = drain_of setup c;
  fill_a = fill_of setup k A (after_drain setup c);
  fill_e = fill_of setup k E (after_fill setup k A (after_drain setup c));
  e = step_of setup E (after_fills setup k c);
  a = step_of setup A (after_side setup k E (after_fills setup k c));
}

abbrev pub in_order : Picks → List Pick
in_order p =
    option_to_list p.drain
    ++ (option_to_list p.fill_a
    ++ (option_to_list p.fill_e
    ++ (option_to_list p.e ++ option_to_list p.a)))

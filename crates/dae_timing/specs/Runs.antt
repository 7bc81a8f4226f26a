-- Ticks in a row, and what is told of a tick.
use Rattle.std.specs.Prelude.{◌≡◌, ℕ, suc, ◌+◌, ◌*◌, ◌≤◌, List, [], ◌++◌, length, Some, None}
use Rattle.dae_image.specs.declared.Image.{Image}
use Rattle.dae_machine.specs.declared.Pick.{Pick}
use Rattle.dae_machine.specs.Ends.{is_e}
use Rattle.dae_machine.specs.Machine.{Setup, State, IsFinal, IsStuck, Runs, step}
use Rattle.dae_machine.specs.Opened.{opened}
use Rattle.dae_machine.specs.Printing.{behind}
use Rattle.dae_machine.specs.Rests.{end_of}
use Rattle.dae_machine.specs.Runs.{often}
use Rattle.dae_cli_options.specs.declared.options.Costs.{Costs}
use Rattle.dae_timing.specs.declared.timed.Tick.{Tick}
use Rattle.dae_timing.specs.declared.timed.TickState.{TickState}
use Rattle.dae_timing.specs.declared.timed.TickState.TheVariants.{Going, Final, Stuck}
use Rattle.dae_timing.specs.Clocks.{Clock, first_clock}
use Rattle.dae_timing.specs.Costs.{largest}
use Rattle.dae_timing.specs.Held.{HeldClock}
use Rattle.dae_timing.specs.Ticks.{Picks, after_tick, in_order, picks_of}

-- some pick is enabled
abbrev pub HasPick : Setup → State → Type 0
HasPick setup s = (p : Pick) × (t : State) × (step setup s p ≡ Some t)

-- so many ticks, each in a state with an enabled pick, and all their picks in order
pub data Ticks (setup : Setup) (k : Costs) : ℕ → Clock → List Pick → Clock → Type 0 where
  no_tick : {c : Clock} → Ticks setup k 0 c [] c
  one_tick : {n : ℕ} {c d : Clock} {ps : List Pick} → HasPick setup c.state → Ticks setup k n (after_tick setup k c) ps d → Ticks setup k (suc n) c (in_order (picks_of setup k c) ++ ps) d

-- ---- the laws

-- the picks of all ticks, in order, are a run
abbrev pub TicksRun : Type 0
TicksRun =
    (setup : Setup) (k : Costs) (n : ℕ) (c d : Clock) (ps : List Pick)
    → Ticks setup k n c ps d → Runs setup c.state ps d.state

-- what so many ticks from a machine's opening on came to: a run, which is as long as the machine counts steps
pub record TimedRun (setup : Setup) (image : Image) (n : ℕ) (ps : List Pick) (d : Clock) : Type 0 where
  pub run : Runs setup (opened image) ps d.state
  pub steps : d.state.steps ≡ length ps
  pub ticks : d.ticks ≡ n

abbrev pub TicksRunFromOpening : Type 0
TicksRunFromOpening =
    (setup : Setup) (k : Costs) (image : Image) (n : ℕ) (d : Clock) (ps : List Pick)
    → Ticks setup k n (first_clock (opened image)) ps d → TimedRun setup image n ps d

-- so many ticks, and so many more behind them, are ticks in a row
abbrev pub TicksGoOn : Type 0
TicksGoOn =
    (setup : Setup) (k : Costs) (m n : ℕ) (b c d : Clock) (ps qs : List Pick)
    → Ticks setup k m b ps c → Ticks setup k n c qs d → Ticks setup k (m + n) b (ps ++ qs) d

-- among the picks of a tick is at most one step of E, so that it prints at most once
abbrev pub TicksPrintOnce : Type 0
TicksPrintOnce =
    (setup : Setup) (k : Costs) (c : Clock) → often is_e (in_order (picks_of setup k c)) ≤ 1

-- there are at most as many ticks as the largest cost makes of each step and one more
abbrev pub TicksAreFew : Type 0
TicksAreFew =
    (setup : Setup) (k : Costs) (image : Image) (n : ℕ) (d : Clock) (ps : List Pick)
    → Ticks setup k n (first_clock (opened image)) ps d
    → d.ticks ≤ largest k * (d.state.steps + 1)

-- the clock whose machine printed this before what it printed itself
abbrev pub clock_behind : List ℕ → Clock → Clock
clock_behind xs c = record c { state = behind xs c.state }

-- what was printed before changes neither the picks of a tick, nor the clock after it but for the print
pub record IsApart (setup : Setup) (k : Costs) (xs : List ℕ) (c : Clock) : Type 0 where
  pub picks : picks_of setup k (clock_behind xs c) ≡ picks_of setup k c
  pub clock : after_tick setup k (clock_behind xs c) ≡ clock_behind xs (after_tick setup k c)

abbrev pub PrintIsApart : Type 0
PrintIsApart = (setup : Setup) (k : Costs) (xs : List ℕ) (c : Clock) → IsApart setup k xs c

-- nor ticks in a row
abbrev pub PrintIsApartOfTicks : Type 0
PrintIsApartOfTicks =
    (setup : Setup) (k : Costs) (xs : List ℕ) (n : ℕ) (c d : Clock) (ps : List Pick)
    → Ticks setup k n c ps d → Ticks setup k n (clock_behind xs c) ps (clock_behind xs d)

-- ---- what a tick tells

-- the clock whose state has printed this text
abbrev pub with_print : List ℕ → Clock → Clock
with_print text c = record c { state = let s = c.state in record s { printed = text } }

abbrev pub picks_in : Tick → Picks
picks_in t = record { drain = t.drain; fill_a = t.fill_a; fill_e = t.fill_e; e = t.e; a = t.a }

abbrev pub no_picks : Picks
no_picks = record { drain = None; fill_a = None; fill_e = None; e = None; a = None }

-- a tick that was made: its picks, its print, and the clock after it
pub record MakesTick (t : Tick) (before after : HeldClock) : Type 0 where
  pub goes : HasPick before.setup before.clock.state
  pub picks : picks_in t ≡ picks_of before.setup before.costs before.clock
  pub clock : after_tick before.setup before.costs before.clock ≡ with_print t.piece after.clock

-- none was made, and nothing changed
pub record MakesNone (t : Tick) (before after : HeldClock) : Type 0 where
  pub picks : picks_in t ≡ no_picks
  pub quiet : t.piece ≡ []
  pub same : after ≡ before

abbrev pub TicksTo : TickState → Tick → HeldClock → HeldClock → Type 0
TicksTo Going t before after = MakesTick t before after
TicksTo (Final end) t before after =
    IsFinal before.setup before.clock.state
    × (end_of before.clock.state.e.halt ≡ Some end)
    × MakesNone t before after
TicksTo Stuck t before after = IsStuck before.setup before.clock.state × MakesNone t before after

-- What the ticks of a timed run come to, whose prints are put out.
use Rattle.std.specs.Prelude.{◌≡◌, ℕ, ◌≤◌, List, [], ◌∷◌, ◌++◌, map, Some}
use Rattle.dae_image.specs.declared.Image.{Image}
use Rattle.dae_io.specs.Sinks.{SinkState, IsPutFailed}
use Rattle.dae_machine.specs.declared.Pick.{Pick}
use Rattle.dae_machine.specs.Machine.{Setup, IsFinal, IsStuck}
use Rattle.dae_machine.specs.Opened.{opened}
use Rattle.dae_machine.specs.Rests.{end_of}
use Rattle.dae_cli_drive.specs.declared.driving.Driven.{Driven}
use Rattle.dae_cli_drive.specs.declared.driving.Driven.TheVariants.{Final, Stuck, Spent, SinkFailed}
use Rattle.dae_cli_drive.specs.Pieces.{pieces}
use Rattle.dae_cli_drive.specs.Puts.{Put, Out}
use Rattle.dae_cli_drive.specs.Turns.{AreOut}
use Rattle.dae_cli_options.specs.declared.options.Costs.{Costs}
use Rattle.dae_timing.specs.Clocks.{Clock, first_clock}
use Rattle.dae_timing.specs.Held.{HeldClock}
use Rattle.dae_timing.specs.Runs.{HasPick, Ticks, with_print}

-- the clock of an image's machine before its first tick
abbrev pub IsOpened : Clock → Type 0
IsOpened c = (image : Image) × (c ≡ first_clock (opened image))

-- where a timed run stands: how many ticks were made, their picks, and the clock after them
pub record Timing : Type 0 where
  pub ticks : ℕ
  pub picks : List Pick
  pub clock : Clock

-- how the state that was reached rests, or that all the stated ticks were made and it can go on
abbrev pub RestsTimed : Driven → (most : ℕ) → Setup → Timing → Type 0
RestsTimed (Final end) most setup t =
    IsFinal setup t.clock.state × (end_of t.clock.state.e.halt ≡ Some end)
RestsTimed Stuck most setup t = IsStuck setup t.clock.state
RestsTimed Spent most setup t = (t.ticks ≡ most) × HasPick setup t.clock.state
RestsTimed SinkFailed most setup t = ⊥

-- ticks were made from this clock on, up to the stated number or to a state that rests
pub record RunsOut (setup : Setup) (k : Costs) (start : Clock) (most : ℕ) (how : Driven)
    (t : Timing) : Type 0 where
  pub made : Ticks setup k t.ticks start t.picks t.clock
  pub at_most : t.ticks ≤ most
  pub rests : RestsTimed how most setup t

-- what ticks print, each piece in a put of its own
abbrev pub puts_of_ticks : Setup → Clock → List Pick → List Put
puts_of_ticks setup start picks = map Out (pieces setup start.state picks)

-- the ticks ran out, and all that they printed was put out, a put for each piece
pub record TicksOn (how : Driven) (most : ℕ) (start now : HeldClock) (out out_now : SinkState)
    : Type 0 where
  pub timing : Timing
  pub runs : RunsOut start.setup start.costs start.clock most how timing
  pub kept : now.clock ≡ with_print [] timing.clock
  pub put : AreOut (puts_of_ticks start.setup start.clock timing.picks) out out_now

-- the last of the ticks so far printed a piece whose put failed
pub record StopsInTick (most : ℕ) (start : HeldClock) (out out_now : SinkState) : Type 0 where
  pub timing : Timing
  pub made : Ticks start.setup start.costs timing.ticks start.clock timing.picks timing.clock
  pub at_most : timing.ticks ≤ most
  pub earlier : List Put
  pub piece : List ℕ
  pub prints : puts_of_ticks start.setup start.clock timing.picks ≡ earlier ++ Out piece ∷ []
  pub between : SinkState
  pub put : AreOut earlier out between
  pub put_part : IsPutFailed piece between out_now

abbrev pub DrivesTicks : Driven → (most : ℕ) → (start now : HeldClock) → (out out_now : SinkState)
    → Type 0
DrivesTicks (Final end) most start now out out_now = TicksOn (Final end) most start now out out_now
DrivesTicks Stuck most start now out out_now = TicksOn Stuck most start now out out_now
DrivesTicks Spent most start now out out_now = TicksOn Spent most start now out out_now
DrivesTicks SinkFailed most start now out out_now = StopsInTick most start out out_now

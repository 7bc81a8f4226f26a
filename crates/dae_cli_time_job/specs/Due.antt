-- What is due for a timed run of an image.
use Rattle.std.specs.Prelude.{ℕ, ◌++◌, Option}
use Rattle.dae_image.specs.declared.Image.{Image}
use Rattle.dae_machine.specs.Machine.{Setup}
use Rattle.dae_machine.specs.Opened.{opened, setup_of}
use Rattle.dae_cli_options.specs.declared.options.Costs.{Costs}
use Rattle.dae_cli_options.specs.declared.options.RunOptions.{RunOptions}
use Rattle.dae_cli_options.specs.declared.options.Shown.{Shown}
use Rattle.dae_cli_drive.specs.declared.driving.Driven.{Driven}
use Rattle.dae_cli_drive.specs.Images.{BehindBudget, WhenOpened, status_of}
use Rattle.dae_cli_drive.specs.Notes.{end_puts}
use Rattle.dae_cli_drive.specs.Puts.{Answer, answer}
use Rattle.dae_timing.specs.Clocks.{Clock, first_clock}
use Rattle.dae_cli_time_job.specs.Driving.{RunsOut, Timing, puts_of_ticks}
use Rattle.dae_cli_time_job.specs.Lines.{time_puts}

-- what is due for a machine that makes ticks up to the stated number: a put for each piece that it prints, the lines on how it
-- came out, and those on its ticks and waits
pub data DueOfTicks (setup : Setup) (k : Costs) (start : Clock) (most : ℕ) (show : Option Shown)
    : Answer → Type 0 where
  due_ticks : (how : Driven) (t : Timing) → RunsOut setup k start most how t
      → DueOfTicks setup k start most show
      (answer (status_of how) (puts_of_ticks setup start t.picks
      ++ (end_puts how setup t.clock.state show ++ time_puts t.clock)))

-- the line with its budget comes first, and then the ticks of the machine that is opened on it
abbrev pub DueOfTiming : Image → RunOptions → Costs → (most : ℕ) → Answer → Type 0
DueOfTiming image o k most =
    BehindBudget image (WhenOpened image o.depths
    (DueOfTicks (setup_of image o.depths) k (first_clock (opened image)) most o.show))

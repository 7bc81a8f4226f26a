-- What is promised of every run of an image that does a form, by its pair of streams.
use Rattle.std.specs.Prelude.{◌≡◌, ℕ, ◌+◌, ◌*◌, ◌≤◌, Bool, List, [], length, Some}
use Rattle.dae_base.specs.declared.Depths.{Depths}
use Rattle.dae_base.specs.Budgets.{Reaches}
use Rattle.dae_encode.specs.declared.Halt.{Halt}
use Rattle.dae_encode.specs.declared.Halt.TheVariants.{Status, Trap}
use Rattle.dae_encode.specs.Processor.{Processor}
use Rattle.dae_image.specs.declared.Image.{Image}
use Rattle.dae_machine.specs.declared.Pick.{Pick}
use Rattle.dae_machine.specs.Machine.{Setup, State, IsFinal}
use Rattle.dae_machine.specs.Opened.{setup_of, opened}
use Rattle.dae_machine.specs.Ends.{CanOnlyEnd, GoesOn}
use Rattle.dae_meaning.specs.Worlds.{World}
use Rattle.dae_meaning.specs.Results.{Over, End, Halted, Trapped, Going, Astray, world_of}
use Rattle.dae_ir.specs.Programs.{side, outcome}
use Rattle.dae_ir.specs.declared.form.Ir.{Ir}
use Rattle.dae_machine_rounds.specs.Spots.{Spot}
use Rattle.dae_machine.specs.Walks.{Walks}
use Rattle.dae_machine_rounds.specs.Order.{InOrder}

-- from its entry a processor comes to where it agrees with the first spot, without a use of a queue
pub record Begins (setup : Setup) (by_a : Bool) (most : ℕ) (At : Spot → Processor → Type 0) (first : Processor) (start : Spot) : Type 0 where
  pub after : Processor
  pub steps : ℕ
  pub walks : Walks setup (side by_a) first [] steps after
  pub agrees : At start after
  pub few : steps ≤ most

-- ---- one setup

-- there is a run in canonical order to a final state with this halt, output and memory, and every run can only end there
pub record OnlyEnds (setup : Setup) (start : State) (most : ℕ) (halt : Halt) (w : World) : Type 0 where
  pub state : State
  pub picks : List Pick
  pub order : InOrder setup start picks state
  pub short : length picks ≤ most * (8 * w.items + 14)
  pub final : IsFinal setup state
  pub halt' : state.e.halt ≡ Some halt
  pub memory : state.memory ≡ w.memory
  pub printed : state.printed ≡ w.printed
  pub only : CanOnlyEnd setup start state (length picks)

abbrev pub EndsAs : Setup → State → ℕ → End → World → Type 0
EndsAs setup start most (Halted status) w = OnlyEnds setup start most (Status status) w
EndsAs setup start most (Trapped code) w = OnlyEnds setup start most (Trap code) w
EndsAs setup start most Going w = Unit {0}
EndsAs setup start most Astray w = Unit {0}

-- ---- all depths

-- a run in canonical order, with no more in a queue than its budget, leads to an end; and with all depths that reach the
-- budget every run can only end so. An item of the form takes at most 8 * most steps
pub record Ends (image : Image) (most : ℕ) (halt : Halt) (w : World) : Type 0 where
  pub state : State
  pub picks : List Pick
  pub order : InOrder (setup_of image image.budget) (opened image) picks state
  pub short : length picks ≤ most * (8 * w.items + 14)
  pub halt' : state.e.halt ≡ Some halt
  pub memory : state.memory ≡ w.memory
  pub printed : state.printed ≡ w.printed
  pub final : (depths : Depths) → Reaches depths image.budget → IsFinal (setup_of image depths) state
  pub only : (depths : Depths) → Reaches depths image.budget → CanOnlyEnd (setup_of image depths) (opened image) state (length picks)

-- a run in canonical order, with no more in a queue than its budget, goes on for so long and has printed just this
pub record Continues (image : Image) (most n : ℕ) (w : World) : Type 0 where
  pub state : State
  pub picks : List Pick
  pub order : InOrder (setup_of image image.budget) (opened image) picks state
  pub long : n ≤ length picks
  pub short : length picks ≤ most * (8 * w.items + 26)
  pub printed : state.printed ≡ w.printed

-- what a form's end says of every run. Of a form that goes on all its bounds tell together, and a form that goes astray
-- tells nothing
abbrev pub Tells : Image → ℕ → End → World → Type 0
Tells image most (Halted status) w = Ends image most (Status status) w
Tells image most (Trapped code) w = Ends image most (Trap code) w
Tells image most Going w = Unit {0}
Tells image most Astray w = Unit {0}

-- the image has the memory of the form and does what the form does, in every order of steps: this is what the function
-- that makes an image promises
pub record DoesForm (ir : Ir) (image : Image) (most : ℕ) : Type 0 where
  pub size : image.memory ≡ ir.memory
  pub ends : (n : ℕ) (end : End) (w : World) → outcome ir n (opened image).memory ≡ Over end w → Tells image most end w
  pub continues : (n : ℕ) (w : World) → outcome ir n (opened image).memory ≡ Over Going w → Continues image most n w
  pub goes_on : ((n : ℕ) → (w : World) × (outcome ir n (opened image).memory ≡ Over Going w)) → (depths : Depths) → Reaches depths image.budget
      → GoesOn (setup_of image depths) (opened image) (λ n. (world_of (outcome ir n (opened image).memory)).printed)

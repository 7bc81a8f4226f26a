-- How soon the runs of a program that goes on print what it prints. A bound on the turns of loops makes a program's work finite:
-- what it does in so many turns of each execution of a loop takes its image a run of bounded length, in every queue depth.
use Rattle.std.specs.Prelude.{◌≡◌, ℕ, suc, ◌+◌, ◌*◌, ◌/◌, ◌≤◌, false, List, [], length}
use Rattle.dae_base.specs.declared.Depths.{Depths}
use Rattle.dae_base.specs.Budgets.{Reaches}
use Rattle.dae_cli_options.specs.declared.options.Options.{Options}
use Rattle.dae_image.specs.declared.Image.{Image}
use Rattle.dae_ir.specs.declared.form.Ir.{Ir}
use Rattle.dae_machine.specs.declared.Pick.{Pick}
use Rattle.dae_machine.specs.Machine.{State, Runs}
use Rattle.dae_machine.specs.Opened.{setup_of, opened}
use Rattle.dae_machine_rounds.specs.Promises.{DoesForm}
use Rattle.dae_meaning.specs.Alike.{IsFront}
use Rattle.dae_meaning.specs.Results.{Going}
use Rattle.dae_meaning.specs.Worlds.{World}
use Rattle.dae_program.specs.Calls.{call}
use Rattle.dae_program.specs.Outcomes.{Outcome, last_world}
use Rattle.dae_program.specs.Printing.{most_bytes}
use Rattle.dae_program.specs.Programs.{meaning_of, program_end, program_of, start}
use Rattle.dae_program.specs.declared.program.Program.{Program}
use Rattle.dae_lower_formed.specs.Formed.{IsLowered}
use Rattle.dae_compile_promise.specs.Promises.{IsLaterForm}
use Rattle.dae_compile.specs.Images.{IsImageOf}

-- what the program does in at most n turns of each execution of a loop, where the test of a turn that can't begin isn't evaluated
abbrev pub turns_of : Program → (limit n : ℕ) → Outcome ℕ
turns_of p limit n = call (program_of p limit) false n limit p.main [] (start p.memory p.frames p.content)

-- what the program has printed in the turns, and under the bound
abbrev pub printed_in_turns : Program → (limit n : ℕ) → List ℕ
printed_in_turns p limit n = let w = last_world (turns_of p limit n) in w.printed

abbrev pub printed_under : Program → (limit n : ℕ) → List ℕ
printed_under p limit n = let w = last_world (meaning_of p limit n) in w.printed

-- a run of at least n steps, and at most 4096 for each four units of work and 4096 more, that has printed just what is printed
-- in the world
pub record PrintsInTime (image : Image) (depths : Depths) (n : ℕ) (w : World) : Type 0 where
  pub picks : List Pick
  pub state : State
  pub runs : Runs (setup_of image depths) (opened image) picks state
  pub long : n ≤ length picks
  pub short : length picks ≤ 4096 * (w.items / 4 + 1)
  pub printed : state.printed ≡ w.printed

-- Where a program goes on under n turns, at all depths that reach the budget, a run that isn't longer than the work of those
-- turns allows has printed what they print. That is at least what M of each lesser number has printed; and a program that goes on
-- under M(n) does so under n turns. A number below 2^32 + 2 may cut off a `%s` in its midst, which takes a turn for each byte.
pub record GoesOnInTime (p : Program) (limit : ℕ) (image : Image) : Type 0 where
  pub prints : (n : ℕ) → most_bytes ≤ n → program_end (turns_of p limit n) ≡ Going
      → (depths : Depths) → Reaches depths image.budget
      → PrintsInTime image depths n (last_world (turns_of p limit n))
  pub includes : (n : ℕ) → IsFront (printed_under p limit n) (printed_in_turns p limit (suc n))
  pub goes_on : (n : ℕ) → program_end (meaning_of p limit n) ≡ Going → program_end (turns_of p limit n) ≡ Going

-- of an image that holds a program's data, and does a later form of the program, with 14 instructions a move
abbrev pub FormsGoOnInTime : Type 0
FormsGoOnInTime =
    (p : Program) (depth : ℕ) (ir later : Ir) (image : Image) → IsLowered p ir → IsLaterForm ir later
    → later.calls ≡ suc depth → image.content ≡ p.content → DoesForm later image 14
    → GoesOnInTime p (suc depth) image

-- and of the image of accepted texts
abbrev pub ImagesGoOnInTime : Type 0
ImagesGoOnInTime =
    (texts names : List (List ℕ)) (options : Options) (image : Image)
    → (is : IsImageOf texts names options image) → GoesOnInTime is.program options.calls image

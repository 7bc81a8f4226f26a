-- What an answer of a timed run says of the program that the image is compiled from.
use Rattle.std.specs.Prelude.{◌≡◌, ◌≢◌, ◌⊎◌, ℕ, ◌+◌, ◌*◌, ◌/◌, ◌≤◌, List, ◌∷◌, ◌++◌, map}
use Rattle.std.specs.List.{concat}
use Rattle.dae_base.specs.Budgets.{Reaches}
use Rattle.dae_image.specs.declared.Image.{Image}
use Rattle.dae_machine.specs.Ends.{IsPrefixOf}
use Rattle.dae_meaning.specs.Worlds.{World}
use Rattle.dae_meaning.specs.Results.{Halted, Trapped}
use Rattle.dae_program.specs.Outcomes.{last_world}
use Rattle.dae_program.specs.Programs.{GoesOn, meaning_of, program_end}
use Rattle.dae_program.specs.declared.program.Program.{Program}
use Rattle.dae_compile_promise.specs.Promises.{IsAtEnd, KeepsMeaning}
use Rattle.dae_cli_options.specs.declared.options.Costs.{Costs}
use Rattle.dae_cli_options.specs.declared.options.RunOptions.{RunOptions}
use Rattle.dae_cli_drive.specs.Notes.{budget_line, ended_line, running_line, show_puts, steps_line, trapped_line}
use Rattle.dae_cli_drive.specs.Puts.{Answer, Out, Note}
use Rattle.dae_timing.specs.Clocks.{Clock}
use Rattle.dae_timing.specs.Costs.{largest}
use Rattle.dae_cli_time_job.specs.Due.{DueOfTiming}
use Rattle.dae_cli_time_job.specs.Lines.{time_puts}

-- the budget is told; what is put out is the output of the world in which the program ends; the line tells how it ends; some
-- number of steps is told, the bytes of that world's memory that are to be shown, and the ticks and waits of some clock
pub record TellsTimedEnd (image : Image) (o : RunOptions) (w : World) (line : List ℕ) (a : Answer)
    : Type 0 where
  pub pieces : List (List ℕ)
  pub output : concat pieces ≡ w.printed
  pub steps : ℕ
  pub clock : Clock
  pub puts : a.puts ≡ Note (budget_line image.budget) ∷ (map Out pieces
      ++ ((Note line ∷ (Note (steps_line steps) ∷ show_puts o.show w.memory)) ++ time_puts clock))

-- the budget is told; what is put out is some first bytes of this output; the line tells that the machine can go on; some
-- number of steps is told, bytes of some memory, and the waits of a clock after just the stated number of ticks
pub record TellsTimedSoFar (image : Image) (o : RunOptions) (most : ℕ) (printed : List ℕ) (a : Answer)
    : Type 0 where
  pub pieces : List (List ℕ)
  pub front : IsPrefixOf (concat pieces) printed
  pub steps : ℕ
  pub memory : List ℕ
  pub clock : Clock
  pub all : clock.ticks ≡ most
  pub puts : a.puts ≡ Note (budget_line image.budget) ∷ (map Out pieces
      ++ ((Note running_line ∷ (Note (steps_line steps) ∷ show_puts o.show memory)) ++ time_puts clock))

-- where a program ends in a world with this status of the answer and this line: a timed run that ended tells just that; one that
-- stops before has put out some first bytes of the output; and none does, where the ticks that it may make are enough for the
-- program's work at the largest cost
pub record IsTimedToEnd (image : Image) (o : RunOptions) (k : Costs) (most status : ℕ) (w : World)
    (line : List ℕ) (a : Answer) : Type 0 where
  pub tells : (a.status ≡ 0) ⊎ (a.status ≡ 1)
      → (a.status ≡ status) × TellsTimedEnd image o w line a
  pub running : a.status ≡ 3 → TellsTimedSoFar image o most w.printed a
  pub enough : largest k * (4096 * (w.items / 4 + 1) + 1) ≤ most → a.status ≢ 3

-- the answer is that of a timed run of the program, with so many calls inside one another at most. It ends only where the program
-- ends or traps under some bound on the turns of loops; where the program goes on, what it has put out are some first bytes of the
-- output under some bound
pub record IsTimedRunOf (p : Program) (limit : ℕ) (image : Image) (o : RunOptions) (k : Costs)
    (most : ℕ) (a : Answer) : Type 0 where
  pub never_stuck : a.status ≢ 9
  pub below : a.status ≡ 4 → ¬ (Reaches o.depths image.budget)
  pub told : ¬ (Reaches o.depths image.budget) → (a.status ≡ 4) ⊎ (a.status ≡ 7)
  pub ends_only : (a.status ≡ 0) ⊎ (a.status ≡ 1)
      → (n : ℕ) × IsAtEnd (program_end (meaning_of p limit n))
  pub ends : (n status : ℕ) → program_end (meaning_of p limit n) ≡ Halted status
      → IsTimedToEnd image o k most 0 (last_world (meaning_of p limit n)) (ended_line status) a
  pub traps : (n code : ℕ) → program_end (meaning_of p limit n) ≡ Trapped code
      → IsTimedToEnd image o k most 1 (last_world (meaning_of p limit n)) (trapped_line code) a
  pub goes_on : GoesOn (meaning_of p limit) → (a.status ≢ 0) × (a.status ≢ 1)
      × (a.status ≡ 3
      → (n : ℕ) × TellsTimedSoFar image o most (last_world (meaning_of p limit n)).printed a)

-- what is due for a timed run of an image that keeps the meaning of a program is the answer of a timed run of the program
abbrev pub TimedRunsKeepMeaning : Type 0
TimedRunsKeepMeaning =
    (p : Program) (limit : ℕ) (image : Image) (o : RunOptions) (k : Costs) (most : ℕ) (a : Answer)
    → KeepsMeaning p limit image → DueOfTiming image o k most a
    → IsTimedRunOf p limit image o k most a

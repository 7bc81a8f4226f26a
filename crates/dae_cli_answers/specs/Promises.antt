-- What an answer for an image, and for words that ask to compile texts and run them, says of the program that they are.
use Rattle.std.specs.Prelude.{◌≡◌, ◌≢◌, ◌⊎◌, ℕ, ◌+◌, ◌*◌, ◌/◌, ◌≤◌, List, [], ◌∷◌, ◌++◌, map}
use Rattle.std.specs.List.{concat}
use Rattle.dae_base.specs.Budgets.{Reaches}
use Rattle.dae_big.specs.Texts.{big_name, big_text}
use Rattle.dae_compile.specs.Images.{IsImageOf}
use Rattle.dae_image.specs.declared.Image.{Image}
use Rattle.dae_machine.specs.Ends.{IsPrefixOf}
use Rattle.dae_meaning.specs.Worlds.{World}
use Rattle.dae_meaning.specs.Results.{Halted, Trapped}
use Rattle.dae_program.specs.Outcomes.{last_world}
use Rattle.dae_program.specs.Programs.{GoesOn, meaning_of, program_end}
use Rattle.dae_program.specs.declared.program.Program.{Program}
use Rattle.dae_compile_promise.specs.Promises.{IsAtEnd, KeepsMeaning}
use Rattle.dae_cli_options.specs.declared.options.Options.{Options}
use Rattle.dae_cli_options.specs.declared.options.RunOptions.{RunOptions}
use Rattle.dae_cli_command.specs.Answers.{IsDue}
use Rattle.dae_cli_drive.specs.Images.{DueOfImage}
use Rattle.dae_cli_drive.specs.Notes.{budget_line, ended_line, running_line, show_puts, steps_line, trapped_line}
use Rattle.dae_cli_drive.specs.Puts.{Answer, Out, Note}
use Rattle.dae_cli_drive.specs.Shelves.{ShelfSeen}
use Rattle.dae_cli_source_jobs.specs.Fetching.{AreFetched, most_source}
use Rattle.dae_cli_words.specs.Asked.{Run, Big}
use Rattle.dae_cli_words.specs.Words.{SpellsJob}

-- the budget is told; what is put out is the output of the world in which the program ends; the line tells how it ends; some
-- number of steps is told; and the bytes that are to be shown are those of that world's memory
pub record TellsEnd (image : Image) (o : RunOptions) (w : World) (line : List ℕ) (a : Answer)
    : Type 0 where
  pub pieces : List (List ℕ)
  pub output : concat pieces ≡ w.printed
  pub steps : ℕ
  pub puts : a.puts ≡ Note (budget_line image.budget) ∷ (map Out pieces
      ++ (Note line ∷ (Note (steps_line steps) ∷ show_puts o.show w.memory)))

-- the budget is told; what is put out is some first bytes of this output; the lines tell that the machine can go on, and that it
-- took the stated steps; and bytes of some memory are shown
pub record TellsSoFar (image : Image) (o : RunOptions) (printed : List ℕ) (a : Answer)
    : Type 0 where
  pub pieces : List (List ℕ)
  pub front : IsPrefixOf (concat pieces) printed
  pub memory : List ℕ
  pub puts : a.puts ≡ Note (budget_line image.budget) ∷ (map Out pieces
      ++ (Note running_line ∷ (Note (steps_line o.steps) ∷ show_puts o.show memory)))

-- where a program ends in a world with this status of the answer and this line: a run that ended tells just that; a run that
-- stops before has put out some first bytes of the output; and none does, where the steps that it may take are enough for the
-- program's work
pub record IsRunToEnd (image : Image) (o : RunOptions) (status : ℕ) (w : World) (line : List ℕ)
    (a : Answer) : Type 0 where
  pub tells : (a.status ≡ 0) ⊎ (a.status ≡ 1) → (a.status ≡ status) × TellsEnd image o w line a
  pub running : a.status ≡ 3 → TellsSoFar image o w.printed a
  pub enough : 4096 * (w.items / 4 + 1) ≤ o.steps → a.status ≢ 3

-- the answer is that of a run of the program, with so many calls inside one another at most. A run ends only where the program
-- ends or traps under some bound on the turns of loops; where the program goes on, what a run has put out are some first bytes
-- of the output under some bound
pub record IsRunOf (p : Program) (limit : ℕ) (image : Image) (o : RunOptions) (a : Answer)
    : Type 0 where
  pub never_stuck : a.status ≢ 9
  pub below : a.status ≡ 4 → ¬ (Reaches o.depths image.budget)
  pub told : ¬ (Reaches o.depths image.budget) → (a.status ≡ 4) ⊎ (a.status ≡ 7)
  pub ends_only : (a.status ≡ 0) ⊎ (a.status ≡ 1)
      → (n : ℕ) × IsAtEnd (program_end (meaning_of p limit n))
  pub ends : (n status : ℕ) → program_end (meaning_of p limit n) ≡ Halted status
      → IsRunToEnd image o 0 (last_world (meaning_of p limit n)) (ended_line status) a
  pub traps : (n code : ℕ) → program_end (meaning_of p limit n) ≡ Trapped code
      → IsRunToEnd image o 1 (last_world (meaning_of p limit n)) (trapped_line code) a
  pub goes_on : GoesOn (meaning_of p limit) → (a.status ≢ 0) × (a.status ≢ 1)
      × (a.status ≡ 3 → (n : ℕ) × TellsSoFar image o (last_world (meaning_of p limit n)).printed a)

-- what is due for an image that keeps the meaning of a program is the answer of a run of the program
abbrev pub RunsKeepMeaning : Type 0
RunsKeepMeaning =
    (p : Program) (limit : ℕ) (image : Image) (o : RunOptions) (a : Answer)
    → KeepsMeaning p limit image → DueOfImage image o a → IsRunOf p limit image o a

-- the texts have an image with these options, the answer is due for it, and it is that of a run of the program that the texts are
-- accepted as
pub record IsRunOfTexts (names texts : List (List ℕ)) (c : Options) (o : RunOptions) (a : Answer)
    : Type 0 where
  pub image : Image
  pub made : IsImageOf texts names c image
  pub due : DueOfImage image o a
  pub run : IsRunOf made.program c.calls image o a

-- what is due for words that ask to run source files, is the answer of a run of the program of their texts; but for a file that
-- isn't got, for texts that are too long or refused, and for want of memory
abbrev pub RunsOfFilesKeepMeaning : Type 0
RunsOfFilesKeepMeaning =
    (words : List (List ℕ)) (s : ShelfSeen) (status : ℕ) (c : Options) (o : RunOptions)
    (files : List (List ℕ)) (a : Answer) → SpellsJob words (Run c o files) → IsDue words s status a
    → a.status ≢ 2 → a.status ≢ 5 → a.status ≢ 7
    → (texts : List (List ℕ)) × AreFetched s.told most_source files texts
    × IsRunOfTexts files texts c o a

-- the same of words that ask to run the source of a number, for which nothing is fetched
abbrev pub RunsOfNumbersKeepMeaning : Type 0
RunsOfNumbersKeepMeaning =
    (words : List (List ℕ)) (s : ShelfSeen) (status : ℕ) (c : Options) (o : RunOptions)
    (number : ℕ) (a : Answer) → SpellsJob words (Big c o number) → IsDue words s status a
    → a.status ≢ 2 → a.status ≢ 7
    → IsRunOfTexts (big_name ∷ []) (big_text number ∷ []) c o a

-- for words that ask to run source files, or the source of a number, it is never due that the machine is stuck
abbrev pub IsNeverStuck : Type 0
IsNeverStuck =
    (words : List (List ℕ)) (s : ShelfSeen) (status : ℕ) (c : Options) (o : RunOptions) (a : Answer)
    → ((files : List (List ℕ)) × SpellsJob words (Run c o files))
    ⊎ ((number : ℕ) × SpellsJob words (Big c o number))
    → IsDue words s status a → a.status ≢ 9

-- What is due for files whose report is asked for.
use Rattle.std.specs.Prelude.{ℕ, List, [], ◌∷◌}
use Rattle.dae_compile.specs.declared.generating.Compiled.{Compiled}
use Rattle.dae_report.specs.Lines.{report_line}
use Rattle.dae_cli_options.specs.declared.options.Options.{Options}
use Rattle.dae_cli_drive.specs.Lines.{memory_line}
use Rattle.dae_cli_drive.specs.Notes.{budget_line}
use Rattle.dae_cli_drive.specs.Puts.{Answer, Note, Out, answer, told}
use Rattle.dae_cli_drive.specs.ImageFiles.{NoneOf}
use Rattle.dae_cli_drive.specs.Shelves.{ShelfSeen}
use Rattle.dae_cli_source_jobs.specs.Sources.{DueOfFiles, IsCompilationOfFiles}

-- what is due for an image and its report: the budget on note, and the report on out, whole in one put; or memory was wanting
pub data DueOfCompiled (c : Compiled) : Answer → Type 0 where
  due_reported : DueOfCompiled c (answer 0 (Note (budget_line c.image.budget)
      ∷ (Out (report_line c.image.budget c.report) ∷ [])))
  due_memory_to_report : DueOfCompiled c (told 7 memory_line)

-- what is due for files: for an image and a report of theirs; or, where there are none, what is due for files without an image
pub data DueOfReporting (names : List (List ℕ)) (s : ShelfSeen) (options : Options) : Answer → Type 0
  where
    due_compiled : {a : Answer} (c : Compiled) → IsCompilationOfFiles s.told names options c
        → DueOfCompiled c a → DueOfReporting names s options a
    due_not_compiled : {a : Answer} → DueOfFiles names s options NoneOf a
        → DueOfReporting names s options a

-- What is due for the words after the program's name.
use Rattle.std.specs.Prelude.{ℕ, List}
use Rattle.dae_cli_asm_job.specs.Assembling.{DueOfAssembling}
use Rattle.dae_cli_debug_job.specs.Debugging.{DueOfDebugging, long_line as long_script_line, most_script}
use Rattle.dae_cli_drive.specs.Images.{DueOfImage}
use Rattle.dae_cli_drive.specs.Lines.{memory_line, words_line}
use Rattle.dae_cli_drive.specs.Puts.{Answer, told}
use Rattle.dae_cli_drive.specs.ImageFiles.{DueOfImageFile}
use Rattle.dae_cli_drive.specs.Shelves.{ShelfSeen}
use Rattle.dae_cli_drive.specs.TextFiles.{DueOfImageAndText}
use Rattle.dae_cli_guard_job.specs.Guarding.{DueOfGuard, long_line as long_certificate_line, most_certificate}
use Rattle.dae_cli_listing_job.specs.Listings.{DueOfListing, DueOfShortImageFile}
use Rattle.dae_cli_source_jobs.specs.Kept.{DueOfKept}
use Rattle.dae_cli_source_jobs.specs.Numbers.{DueOfBig}
use Rattle.dae_cli_source_jobs.specs.Reporting.{DueOfReporting}
use Rattle.dae_cli_source_jobs.specs.Sources.{DueOfFiles}
use Rattle.dae_cli_time_job.specs.Due.{DueOfTiming}
use Rattle.dae_cli_trace_jobs.specs.Checking.{DueOfChecking, long_line, most_trace}
use Rattle.dae_cli_trace_jobs.specs.Tracing.{DueOfTracing}
use Rattle.dae_cli_words.specs.Asked.{Asked, Run, Big, Compile, Report, Exec, Trace, Time, Check, Debug, Guard, Asm, Dis}
use Rattle.dae_cli_words.specs.Words.{SpellsJob}

-- what is due for a job, by what is seen of the shelf, in a run of the program that ends with this status
abbrev pub DueOfJob : Asked → ShelfSeen → (status : ℕ) → Answer → Type 0
DueOfJob (Run c o files) s status = DueOfFiles files s c (λ image. DueOfImage image o)
DueOfJob (Compile c to files) s status = DueOfFiles files s c (DueOfKept s status to)
DueOfJob (Exec o name) s status = DueOfImageFile name s (λ image. DueOfImage image o)
DueOfJob (Big c o functions) s status = DueOfBig functions c (λ image. DueOfImage image o)
DueOfJob (Report c files) s status = DueOfReporting files s c
DueOfJob (Trace o name) s status = DueOfImageFile name s (λ image. DueOfTracing image o)
DueOfJob (Time o k ticks name) s status =
    DueOfImageFile name s (λ image. DueOfTiming image o k ticks)
DueOfJob (Check d name trace) s status =
    DueOfImageAndText name trace most_trace long_line s (λ image text. DueOfChecking image d text)
DueOfJob (Debug d name script) s status =
    DueOfImageAndText name script most_script long_script_line s
    (λ image text. DueOfDebugging image d text)
DueOfJob (Guard d name certificate) s status =
    DueOfImageAndText name certificate most_certificate long_certificate_line s
    (λ image text. DueOfGuard image d text)
DueOfJob (Asm to name) s status = DueOfAssembling name s status to
DueOfJob (Dis name) s status = DueOfShortImageFile name s DueOfListing

-- an answer is due: for the job that the words spell, or since they spell none; or memory was wanting to read them
pub data IsDue (words : List (List ℕ)) (s : ShelfSeen) (status : ℕ) : Answer → Type 0 where
  due_job : {a : Answer} (job : Asked) → SpellsJob words job → DueOfJob job s status a
      → IsDue words s status a
  due_words : ((job : Asked) → ¬ (SpellsJob words job)) → IsDue words s status (told 64 words_line)
  due_memory_for_words : IsDue words s status (told 7 memory_line)

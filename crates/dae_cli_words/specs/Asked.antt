-- What words ask for: a job, and its arguments as plain data.
use Rattle.std.specs.Prelude.{ℕ, List, map, string_bytes}
use Rattle.dae_base.specs.declared.Depths.{Depths}
use Rattle.dae_cli_options.specs.Names.{AreFiles}
use Rattle.dae_cli_options.specs.Ranges.{IsFromTo}
use Rattle.dae_cli_options.specs.declared.options.Costs.{Costs}
use Rattle.dae_cli_options.specs.declared.options.Options.{Options}
use Rattle.dae_cli_options.specs.declared.options.RunOptions.{RunOptions}
use Rattle.dae_cli_words.specs.declared.job.Job.{Job}
use Rattle.dae_cli_words.specs.declared.job.Job.TheVariants as job

-- to run source files, a text of so many functions, or an image; to keep an image or to report on it; to tell a run step by step, or by
-- ticks; to check a trace, to serve a script, and to judge by a certificate; and to turn a listing into an image, or back
pub data Asked : Type 0 where
  Run : Options → RunOptions → (files : List (List ℕ)) → Asked
  Big : Options → RunOptions → (functions : ℕ) → Asked
  Compile : Options → (to : List ℕ) → (files : List (List ℕ)) → Asked
  Report : Options → (files : List (List ℕ)) → Asked
  Exec : RunOptions → (name : List ℕ) → Asked
  Trace : RunOptions → (name : List ℕ) → Asked
  Time : RunOptions → Costs → (ticks : ℕ) → (name : List ℕ) → Asked
  Check : Depths → (name trace : List ℕ) → Asked
  Debug : Depths → (name script : List ℕ) → Asked
  Guard : Depths → (name certificate : List ℕ) → Asked
  Asm : (to name : List ℕ) → Asked
  Dis : (name : List ℕ) → Asked

-- a job of the program, as plain data
abbrev pub asked : Job → Asked
asked (job.Run c o files) = Run c o (map string_bytes files.now)
asked (job.Big c o n) = Big c o n
asked (job.Compile c to files) = Compile c to.now (map string_bytes files.now)
asked (job.Report c files) = Report c (map string_bytes files.now)
asked (job.Exec o name) = Exec o name.now
asked (job.Trace o name) = Trace o name.now
asked (job.Time o k ticks name) = Time o k ticks name.now
asked (job.Check d name trace) = Check d name.now trace.now
asked (job.Debug d name script) = Debug d name.now script.now
asked (job.Guard d name certificate) = Guard d name.now certificate.now
asked (job.Asm to name) = Asm to.now name.now
asked (job.Dis name) = Dis name.now

-- what the arguments of a job are, beside what their types say
abbrev pub HasRanges : Asked → Type 0
HasRanges (Run c o files) = AreFiles files
HasRanges (Big c o n) = IsFromTo 1 900 n
HasRanges (Compile c to files) = AreFiles files
HasRanges (Report c files) = AreFiles files
HasRanges (Time o k ticks name) = IsFromTo 1 100000000000 ticks
HasRanges _ = Unit {0}

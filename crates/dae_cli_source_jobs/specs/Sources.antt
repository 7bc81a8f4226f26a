-- What is due for the texts of source files, and for the files, by what is due for their image.
use Rattle.std.specs.Prelude.{◌≢◌, ℕ, List, Option}
use Rattle.dae_image.specs.declared.Image.{Image}
use Rattle.dae_accept.specs.Accepted.{IsRefusedFor}
use Rattle.dae_accept.specs.declared.error.CompileError.{CompileError}
use Rattle.dae_accept.specs.declared.error.CompileError.TheVariants.{Memory}
use Rattle.dae_compile.specs.Images.{IsCompilationOf, IsImageOf}
use Rattle.dae_compile.specs.declared.generating.Compiled.{Compiled}
use Rattle.dae_cli_options.specs.declared.options.Options.{Options}
use Rattle.dae_cli_drive.specs.Lines.{memory_line}
use Rattle.dae_cli_drive.specs.Puts.{Answer, told}
use Rattle.dae_cli_drive.specs.Shelves.{ShelfSeen}
use Rattle.dae_cli_source_jobs.specs.Refusals.{refusal_line}
use Rattle.dae_cli_source_jobs.specs.Fetching.{AreFetched, IsFirstNotFetched, most_source}

-- what is due for texts whose files have these names: for an image of theirs; or they are refused; or memory was wanting
pub data DueOfTexts (names texts : List (List ℕ)) (c : Options) (DueOf : Image → Answer → Type 0)
    : Answer → Type 0 where
  due_of_image : {a : Answer} (image : Image) → IsImageOf texts names c image → DueOf image a
      → DueOfTexts names texts c DueOf a
  due_refused : (e : CompileError) → e ≢ Memory → IsRefusedFor texts c.memory e
      → DueOfTexts names texts c DueOf (told 2 (refusal_line names e))
  due_memory_to_compile : DueOfTexts names texts c DueOf (told 7 memory_line)

-- what is due for files: for their texts, which are all fetched; or one isn't fetched; or memory was wanting
pub data DueOfFiles (names : List (List ℕ)) (s : ShelfSeen) (c : Options)
    (DueOf : Image → Answer → Type 0) : Answer → Type 0 where
  due_fetched : {a : Answer} (texts : List (List ℕ)) → AreFetched s.told most_source names texts
      → DueOfTexts names texts c DueOf a → DueOfFiles names s c DueOf a
  due_not_fetched : {a : Answer} → IsFirstNotFetched s most_source names a
      → DueOfFiles names s c DueOf a
  due_memory_to_fetch : DueOfFiles names s c DueOf (told 7 memory_line)

-- the image is that of the texts of these files
pub record IsImageOfFiles (held : List ℕ → Option (List ℕ)) (names : List (List ℕ)) (c : Options)
    (image : Image) : Type 0 where
  pub texts : List (List ℕ)
  pub fetched : AreFetched held most_source names texts
  pub made : IsImageOf texts names c image

-- the image and the report are those of the texts of these files
pub record IsCompilationOfFiles (held : List ℕ → Option (List ℕ)) (names : List (List ℕ)) (c : Options)
    (compiled : Compiled) : Type 0 where
  pub texts : List (List ℕ)
  pub fetched : AreFetched held most_source names texts
  pub made : IsCompilationOf texts names c compiled

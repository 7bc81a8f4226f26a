-- When two answers count as one.
use Rattle.std.specs.Prelude.{◌≡◌, ◌≢◌, ◌⊎◌, ℕ, List, [], ◌∷◌, Some}
use Rattle.dae_accept.specs.Accepted.{HaveTrees, IsRefusedFor}
use Rattle.dae_accept.specs.declared.error.CompileError.{CompileError}
use Rattle.dae_accept.specs.declared.error.CompileError.TheVariants.{Memory}
use Rattle.dae_big.specs.Texts.{big_name, big_text}
use Rattle.dae_compile.specs.Images.{IsCompilationOf, IsImageOf}
use Rattle.dae_compile.specs.declared.generating.Compiled.{Compiled}
use Rattle.dae_cli_options.specs.declared.options.Options.{Options}
use Rattle.dae_image.specs.declared.Image.{Image}
use Rattle.dae_io.specs.Faults.{Rose}
use Rattle.dae_cli_drive.specs.Images.{DueOfImage}
use Rattle.dae_cli_drive.specs.Puts.{Answer, told}
use Rattle.dae_cli_drive.specs.Shelves.{ShelfSeen}
use Rattle.dae_cli_source_jobs.specs.Refusals.{refusal_line}
use Rattle.dae_cli_source_jobs.specs.Reporting.{DueOfCompiled}
use Rattle.dae_cli_source_jobs.specs.Fetching.{AreFetched, most_source}
use Rattle.dae_cli_source_jobs.specs.Kept.{DueOfKept}
use Rattle.dae_cli_words.specs.Asked.{Asked, Run, Big, Compile, Report}
use Rattle.dae_cli_words.specs.Words.{SpellsJob}

-- a shelf tells the texts of all names, and no fault of it was counted
pub record IsSeenWhole (s : ShelfSeen) : Type 0 where
  pub text : List ℕ → List ℕ
  pub told : (name : List ℕ) → s.told name ≡ Some (text name)
  pub calm : ¬ (Rose s.count s.count_after)

-- the answer tells why the texts are refused
pub record TellsRefusal (names texts : List (List ℕ)) (c : Options) (a : Answer) : Type 0 where
  pub error : CompileError
  pub other : error ≢ Memory
  pub refused : IsRefusedFor texts c.memory error
  pub told_is : a ≡ told 2 (refusal_line names error)

-- the answer is due for an image of the texts
pub record IsForImage (names texts : List (List ℕ)) (c : Options)
    (DueOf : Image → Answer → Type 0) (a : Answer) : Type 0 where
  pub image : Image
  pub made : IsImageOf texts names c image
  pub due : DueOf image a

-- the answer is due for an image of the texts and its report
pub record IsForReport (names texts : List (List ℕ)) (c : Options) (a : Answer) : Type 0 where
  pub compiled : Compiled
  pub made : IsCompilationOf texts names c compiled
  pub due : DueOfCompiled compiled a

-- the texts have tokens and trees, and both answers tell why they are refused; or both are due for what is made of them
abbrev pub AreOfTexts : (names texts : List (List ℕ)) → Options → (For : Answer → Type 0)
    → (a b : Answer) → Type 0
AreOfTexts names texts c For a b =
    (HaveTrees texts × TellsRefusal names texts c a × TellsRefusal names texts c b)
    ⊎ (For a × For b)

-- both are due for the same texts, which these files hold
pub record AreOfFetched (files : List (List ℕ)) (s : ShelfSeen) (c : Options)
    (For : (texts : List (List ℕ)) → Answer → Type 0) (a b : Answer) : Type 0 where
  pub texts : List (List ℕ)
  pub fetched : AreFetched s.told most_source files texts
  pub both : AreOfTexts files texts c (For texts) a b

-- the same of the source files of a job, and of a text that a number makes
abbrev pub AreOfSources : Asked → ShelfSeen → (status : ℕ) → (a b : Answer) → Type 0
AreOfSources (Run c o files) s status a b =
    AreOfFetched files s c (λ texts. IsForImage files texts c (λ image. DueOfImage image o)) a b
AreOfSources (Big c o functions) s status a b =
    AreOfTexts (big_name ∷ []) (big_text functions ∷ []) c
    (IsForImage (big_name ∷ []) (big_text functions ∷ []) c (λ image. DueOfImage image o)) a b
AreOfSources (Compile c to files) s status a b =
    AreOfFetched files s c (λ texts. IsForImage files texts c (DueOfKept s status to)) a b
AreOfSources (Report c files) s status a b =
    AreOfFetched files s c (λ texts. IsForReport files texts c) a b
AreOfSources _ s status a b = ⊥

-- the two are the same; or both are due for the same texts of source files, of which the definitions leave open which broken
-- rule is told, where they have trees, and which instructions an image has, and what is counted of its form
abbrev pub AreOne : List (List ℕ) → ShelfSeen → (status : ℕ) → (a b : Answer) → Type 0
AreOne words s status a b =
    (a ≡ b) ⊎ ((job : Asked) × SpellsJob words job × AreOfSources job s status a b)

-- What a check of a file answers.
use Rattle.std.specs.Prelude.{List, Result, Ok, Err}
use Rattle.dae_tree.specs.Files.{FileContents}
use Rattle.dae_tree.specs.FileViews.{view_externals}
use Rattle.dae_types_kinds.specs.declared.rules.CheckError.{CheckError}
use Rattle.dae_types_kinds.specs.declared.rules.CheckError.TheVariants as errors
use Rattle.dae_types_kinds.specs.Tables.{Tables}
use Rattle.dae_types_rules.specs.Plan.{CheckPlan, IsChecked}
use Rattle.dae_types_file_plans.specs.Files.{Product, plan_file, start_of}
use Rattle.dae_types_typed.specs.declared.files.FileParts.{FileParts}
use Rattle.dae_types_typed.specs.Reading.{Reads}
use Rattle.dae_types.specs.Names.{numbers_in}

-- going through a file, from what is declared before its first token
abbrev pub plan_in : FileContents → CheckPlan (List Product)
plan_in c = plan_file (view_externals c.externals)

abbrev pub start_in : FileContents → Tables
start_in c = start_of c.stdio c.stdlib (numbers_in c.names) c.literals

-- no rule is broken at any site of the file, and the typed file has what the file comes to: its tables at the end, and what is
-- declared, initialised and defined
pub record IsTypedFile (c : FileContents) (file : FileParts) : Type 0 where
  pub tables : Tables
  pub products : List Product
  pub checked : IsChecked (plan_in c) (start_in c) (Ok (tables, products))
  pub reads : Reads file tables products c.names

-- what no rule is: a refused allocation, or a file that isn't known to be sound
abbrev pub IsWant : CheckError → Type 0
IsWant errors.Memory = Unit {0}
IsWant errors.Unsound = Unit {0}
IsWant (errors.Rule f) = ⊥

-- A typed file where no rule is broken, and else a rule that is broken at that place. Want of memory is free.
abbrev pub Answers : FileContents → Result FileParts CheckError → Type 0
Answers c (Ok file) = IsTypedFile c file
Answers c (Err (errors.Rule f)) = IsChecked (plan_in c) (start_in c) (Err f)
Answers c (Err errors.Memory) = Unit {0}
Answers c (Err errors.Unsound) = Unit {0}

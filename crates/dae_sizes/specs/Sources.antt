-- The definitions and declarations that a program comes from, file by file.
use Rattle.std.specs.Prelude.{ℕ, ◌+◌, ◌≤◌, List, [], ◌∷◌, ◌++◌, length}
use Rattle.std.specs.List.{AllByRecursion}
use Rattle.dae_tree.specs.Files.{FileContents, IsFile}
use Rattle.dae_tree.specs.FileViews.{view_externals}
use Rattle.dae_tree.specs.Statements.{spell_file}
use Rattle.dae_tree.specs.Trees.{External}
use Rattle.dae_types_kinds.specs.Tables.{Tables}
use Rattle.dae_types_file_plans.specs.Files.{LibraryNames, start_of}
use Rattle.dae_types_typed.specs.declared.files.FileParts.{FileParts}
use Rattle.dae_sizes.specs.Worth.{IsDefinition}
use Rattle.dae_unit.specs.Parameters.{HasParameters}
use Rattle.dae_sizes.specs.Small.{tokens, IsPlanned}

-- a definition or declaration, with the literals of its file
pub record Source : Type 0 where
  pub external : External
  pub literals : List (List ℕ)

abbrev pub sources_of : (literals : List (List ℕ)) → List External → List Source
sources_of literals [] = []
sources_of literals (x ∷ xs) = record { external = x; literals = literals } ∷ sources_of literals xs

abbrev pub sources_in : List FileContents → List Source
sources_in [] = []
sources_in (c ∷ cs) = sources_of c.literals (view_externals c.externals) ++ sources_in cs

-- what is declared before the first token of a file: the functions of the headers that it includes, by the numbers of their names
abbrev pub start_by : FileContents → LibraryNames → Tables
start_by c n = start_of c.stdio c.stdlib n c.literals

-- the file is one of the grammar, no rule is broken in it from such a start on, and this is what it comes to; each function has
-- the parameters of its type
pub record IsTypedAs (c : FileContents) (file : FileParts) : Type 0 where
  pub parsed : IsFile c
  pub numbers : LibraryNames
  pub typed : IsPlanned (view_externals c.externals) (start_by c numbers) file
  pub parameters : AllByRecursion (HasParameters file) file.functions

abbrev pub AreTypedAs : List FileContents → List FileParts → Type 0
AreTypedAs [] [] = Unit {0}
AreTypedAs [] (f ∷ fs) = ⊥
AreTypedAs (c ∷ cs) [] = ⊥
AreTypedAs (c ∷ cs) (f ∷ fs) = IsTypedAs c f × AreTypedAs cs fs

-- no rule is broken in the files, whatever was declared before the first token of each, and this is what they come to
abbrev pub ArePlanned : List FileContents → List FileParts → Type 0
ArePlanned [] [] = Unit {0}
ArePlanned [] (f ∷ fs) = ⊥
ArePlanned (c ∷ cs) [] = ⊥
ArePlanned (c ∷ cs) (f ∷ fs) = ((s : Tables) × IsPlanned (view_externals c.externals) s f) × ArePlanned cs fs

-- how many functions they have
abbrev pub count_functions : List FileParts → ℕ
count_functions [] = 0
count_functions (f ∷ fs) = length f.functions + count_functions fs

-- ---- the tokens of files, and the bytes of their literals

abbrev pub tokens_of : FileContents → ℕ
tokens_of c = length (spell_file (view_externals c.externals) [])

abbrev pub tokens_in : List FileContents → ℕ
tokens_in [] = 0
tokens_in (c ∷ cs) = tokens_of c + tokens_in cs

abbrev pub bytes_of : List (List ℕ) → ℕ
bytes_of [] = 0
bytes_of (bytes ∷ literals) = length bytes + bytes_of literals

abbrev pub bytes_in : List FileContents → ℕ
bytes_in [] = 0
bytes_in (c ∷ cs) = bytes_of c.literals + bytes_in cs

-- no definition in the files has more tokens
abbrev pub IsUpTo : ℕ → Source → Type 0
IsUpTo n x = IsDefinition x.external → tokens x.external ≤ n

abbrev pub AreUpTo : ℕ → List FileContents → Type 0
AreUpTo n files = AllByRecursion (IsUpTo n) (sources_in files)

-- How large the functions of a typed file are beside their definitions.
use Rattle.std.specs.Prelude.{ℕ, ◌+◌, ◌*◌, ◌≤◌, List, [], length, Option, Ok}
use Rattle.std.specs.List.{AllByRecursion}
use Rattle.dae_tree.specs.Marks.{literal_numbers}
use Rattle.dae_tree.specs.Statements.{spell_external}
use Rattle.dae_tree.specs.Trees.{External}
use Rattle.dae_program.specs.Trees.{Statements}
use Rattle.dae_program.specs.Views.{view_statements}
use Rattle.dae_program.specs.declared.program.FrameSlot.{FrameSlot}
use Rattle.dae_types_kinds.specs.Tables.{Tables}
use Rattle.dae_types_rules.specs.Plan.{IsChecked}
use Rattle.dae_types_file_plans.specs.Files.{Product, plan_file}
use Rattle.dae_types_typed.specs.Reading.{Reads}
use Rattle.dae_unit.specs.Parameters.{HasParameters}
use Rattle.dae_types_typed.specs.declared.files.FileParts.{FileParts}
use Rattle.dae_types_typed.specs.declared.files.TypedFunction.{TypedFunction}
use Rattle.dae_lower_formed.specs.Sizes.{most_made_of_slots, most_made_in}
use Rattle.dae_sizes.specs.Worth.{priced, IsDefinition}
use Rattle.dae_sizes.specs.Paid.{bytes_of_literal}
use Rattle.dae_lower_formed.specs.Code.{most_code_of_slots, most_code_in}
use Rattle.dae_sizes.specs.From.{AreFrom}

-- the tokens of a definition, and the bytes of its literals
abbrev pub tokens : External → ℕ
tokens x = length (spell_external x [])

abbrev pub text : List (List ℕ) → External → ℕ
text literals x = priced (λ n. length (bytes_of_literal literals n)) (literal_numbers (spell_external x []))

-- a function of this definition: its own variables and those that are made of it are at least 7 fewer than 4 for each token
abbrev pub HasFew : (x : External) (variables : ℕ) (slots : List (Option FrameSlot)) (body : Statements) → Type 0
HasFew x variables slots body = IsDefinition x × (7 + (variables + (most_made_of_slots slots + most_made_in body)) ≤ 4 * tokens x)

-- its code weighs at least 28 less than 16 for each token and 8 for each byte of its literals
abbrev pub HasLittle : (literals : List (List ℕ)) (x : External) (slots : List (Option FrameSlot)) (body : Statements) → Type 0
HasLittle literals x slots body = 28 + (4 + (most_code_of_slots slots + most_code_in body)) ≤ 16 * tokens x + 8 * text literals x

-- in a file where no rule is broken, whatever was declared before
pub record IsPlanned (xs : List External) (s : Tables) (file : FileParts) : Type 0 where
  pub tables : Tables
  pub products : List Product
  pub spellings : List (List ℕ)
  pub checked : IsChecked (plan_file xs) s (Ok (tables, products))
  pub reads : Reads file tables products spellings

abbrev pub VariablesAreFew : Type 0
VariablesAreFew =
    (xs : List External) (s : Tables) (file : FileParts) → IsPlanned xs s file → AllByRecursion (HasParameters file) file.functions →
    AreFrom (λ x (f : TypedFunction). HasFew x f.variables f.parameters (view_statements f.body)) xs file.functions

abbrev pub CodeIsLittle : Type 0
CodeIsLittle =
    (xs : List External) (s : Tables) (file : FileParts) → IsPlanned xs s file → AllByRecursion (HasParameters file) file.functions →
    AreFrom (λ x (f : TypedFunction). HasLittle s.literals x f.parameters (view_statements f.body)) xs file.functions

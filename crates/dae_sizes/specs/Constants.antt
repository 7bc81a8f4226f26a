-- The aggregates of the functions that files join to get constants alone: numbers, and addresses of objects with static storage
-- (C90 6.5.7).
use Rattle.std.specs.Prelude.{List, []}
use Rattle.std.specs.List.{AllByRecursion}
use Rattle.dae_tree.specs.Files.{FileContents}
use Rattle.dae_program.specs.Views.{view_statements}
use Rattle.dae_program.specs.declared.program.Function.{Function}
use Rattle.dae_types_typed.specs.declared.files.FileParts.{FileParts}
use Rattle.dae_unit.specs.Meanings.{functions_from}
use Rattle.dae_lower_bounds.specs.Constants.{InitialisesConstants}
use Rattle.dae_sizes.specs.Sources.{AreTypedAs}

abbrev pub IsConstantFunction : Function → Type 0
IsConstantFunction f = InitialisesConstants (view_statements f.body)

abbrev pub FunctionsInitialiseConstants : Type 0
FunctionsInitialiseConstants =
    (files : List FileContents) (typed : List FileParts) → AreTypedAs files typed →
    AllByRecursion IsConstantFunction (functions_from [] 0 typed)

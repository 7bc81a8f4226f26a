-- The functions of a typed file have the parameters of their types (C90 6.7.1).
use Rattle.std.specs.Prelude.{◌≡◌, length}
use Rattle.dae_types_plans.specs.Steps.{parameter_types}
use Rattle.dae_types_typed.specs.Sound.{tables_of}
use Rattle.dae_types_typed.specs.declared.files.FileParts.{FileParts}
use Rattle.dae_types_typed.specs.declared.files.TypedFunction.{TypedFunction}

-- a function has as many parameters as its type
abbrev pub HasParameters : FileParts → TypedFunction → Type 0
HasParameters file f = length f.parameters ≡ length (parameter_types (tables_of file) f.routine)

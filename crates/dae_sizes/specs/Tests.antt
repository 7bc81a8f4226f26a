-- The tests of the functions that files join to: each tests a value. C has no test of what has none: each operand of one is a scalar
-- (C90 6.3.3.3, 6.3.8, 6.3.9, 6.3.13 to 6.3.15, 6.6.4, 6.6.5), and a call of exit or abort is void (7.10.4.1, 7.10.4.3).
use Rattle.std.specs.Prelude.{◌≡◌, List, []}
use Rattle.std.specs.List.{AllByRecursion}
use Rattle.dae_tree.specs.Files.{FileContents}
use Rattle.dae_program.specs.Trees.{Statements}
use Rattle.dae_program.specs.Views.{view_statements}
use Rattle.dae_program.specs.declared.program.Function.{Function}
use Rattle.dae_types_typed.specs.declared.files.FileParts.{FileParts}
use Rattle.dae_unit.specs.Meanings.{functions_from}
use Rattle.dae_lower_bounds.specs.Voids.{void_statements}
use Rattle.dae_sizes.specs.Sources.{AreTypedAs}

-- no test of a call of exit or abort is among them
abbrev pub HasTestedValues : Statements → Type 0
HasTestedValues body = void_statements body ≡ 0

abbrev pub TestsValues : Function → Type 0
TestsValues f = HasTestedValues (view_statements f.body)

abbrev pub FunctionsTestValues : Type 0
FunctionsTestValues =
    (files : List FileContents) (typed : List FileParts) → AreTypedAs files typed → AllByRecursion TestsValues (functions_from [] 0 typed)

-- What the initialised objects with static storage of a file hold: numbers, and addresses of objects with static storage (C90
-- 6.4, 6.5.7). So the joiner's word of an item (`word_of` in dae_unit) is never asked of anything else.
use Rattle.std.specs.Prelude.{List}
use Rattle.std.specs.List.{AllByRecursion}
use Rattle.dae_tree.specs.Files.{FileContents}
use Rattle.dae_program.specs.declared.expressions.Expression.TheVariants as expression
use Rattle.dae_program.specs.declared.expressions.Expression.{Expression}
use Rattle.dae_program.specs.declared.statements.Setting.{Setting}
use Rattle.dae_types_typed.specs.declared.files.Datum.{Datum}
use Rattle.dae_types_typed.specs.declared.files.FileParts.{FileParts}
use Rattle.dae_sizes.specs.Sources.{AreTypedAs}

abbrev pub IsNumberOrAddress : Expression → Type 0
IsNumberOrAddress (expression.Number w) = Unit {0}
IsNumberOrAddress (expression.Address o k) = Unit {0}
IsNumberOrAddress _ = ⊥

abbrev pub HasConstant : Setting → Type 0
HasConstant x = IsNumberOrAddress x.value

abbrev pub HoldsConstants : Datum → Type 0
HoldsConstants d = AllByRecursion HasConstant d.settings

abbrev pub HasConstantData : FileParts → Type 0
HasConstantData file = AllByRecursion HoldsConstants file.contents

abbrev pub DataAreConstant : Type 0
DataAreConstant = (files : List FileContents) (typed : List FileParts) → AreTypedAs files typed → AllByRecursion HasConstantData typed

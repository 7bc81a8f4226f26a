-- Values in memory as plain data.
use Rattle.std.specs.Prelude.{Bool, false, true, Option, Some, None, Result, Ok, Box}
use Rattle.std.specs.declared.alloc.Global.{Global}
use Rattle.dae_base.specs.declared.Signedness.{Signedness}
use Rattle.dae_base.specs.declared.Signedness.TheVariants as signedness
use Rattle.dae_program.specs.Trees as program
use Rattle.dae_program.specs.declared.expressions.Expression.{Expression}
use Rattle.dae_types_kinds.specs.declared.rules.CheckError.{CheckError}
use Rattle.dae_types_rules.specs.Plan.{Gives}
use Rattle.dae_program.specs.Views.{view}
use Rattle.dae_types_kinds.specs.Values.{Typed, typed, WordOperation, Operates, Compares, Combination, Words, PointerFirst, PointerSecond, Distance, Pointers}
use Rattle.dae_types_folding.specs.declared.value.TypedValue.{TypedValue}
use Rattle.dae_types_folding.specs.declared.operators.WordOperation.{WordOperation as DeedInMemory}
use Rattle.dae_types_folding.specs.declared.operators.WordOperation.TheVariants as deeds
use Rattle.dae_types_folding.specs.declared.operators.Combination.{Combination as CombinationInMemory}
use Rattle.dae_types_folding.specs.declared.operators.Combination.TheVariants as combinations

abbrev pub view_value : TypedValue → Typed
view_value x = typed (view x.tree.value) x.type_id x.category x.known

-- a tree in a box
abbrev pub view_boxed : Box Expression Global → program.Expression
view_boxed b = view b.value

abbrev pub is_without_sign : Signedness → Bool
is_without_sign signedness.Signed = false
is_without_sign signedness.Unsigned = true

abbrev pub view_deed : DeedInMemory → WordOperation
view_deed (deeds.Operates o) = Operates o
view_deed (deeds.Compares c turned) = Compares c turned

abbrev pub view_combination : CombinationInMemory → Combination
view_combination combinations.Words = Words
view_combination (combinations.PointerFirst n) = PointerFirst n
view_combination (combinations.PointerSecond n) = PointerSecond n
view_combination (combinations.Distance n) = Distance n
view_combination combinations.Pointers = Pointers

abbrev pub view_combined : Option CombinationInMemory → Option Combination
view_combined None = None
view_combined (Some c) = Some (view_combination c)

-- a function makes this tree, or this value, unless memory ran out
abbrev pub MakesTree : Result (Box Expression Global) CheckError → program.Expression → Type 0
MakesTree r e = Gives view_boxed r (Ok e)

abbrev pub MakesValue : Result TypedValue CheckError → Typed → Type 0
MakesValue r x = Gives view_value r (Ok x)

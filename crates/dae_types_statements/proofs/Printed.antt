-- The arguments of a printf in memory, as plain data.
use Rattle.std.proofs.Common.{◌≡◌, suc, List, [], ◌∷◌, length, refl, sym, ap, ◌∙◌}
use Rattle.std.specs.Prelude.{Box, Vec, map}
use Rattle.std.specs.declared.alloc.Global.{Global}
use Rattle.dae_base.specs.declared.Place.{Place}
use Rattle.dae_tree.specs.declared.expressions.Expression.{Expression as TreeInMemory}
use Rattle.dae_tree.specs.declared.expressions.Expression.TheVariants as code
use Rattle.dae_tree.specs.Views.{view as view_tree, views}
use Rattle.dae_tree.proofs.Laws.{view_call}
use Rattle.dae_program.specs.declared.expressions.Expression.{Expression}
use Rattle.dae_program.specs.Trees as program
use Rattle.dae_program.specs.Views.{view, view_expressions}
use Rattle.dae_types_plans.specs.Steps.{count_of}
use Rattle.dae_types_file_plans.specs.Statements.{arguments_of, listed_all}

pub listed : (xs : List Expression) → listed_all (map view xs) ≡ view_expressions xs
listed [] = refl
listed (x ∷ xs) = ap (program.expression_then (view x)) (listed xs)

pub counted : (xs : List TreeInMemory) → count_of (views xs) ≡ length xs
counted [] = refl
counted (x ∷ xs) = ap suc (counted xs)

pub arguments_seen : (e : TreeInMemory) (f : Box TreeInMemory Global) (p : Place) (list : Vec TreeInMemory Global) (xs : List TreeInMemory) → e ≡ code.Call f p list → xs ≡ list.items → views xs ≡ arguments_of (view_tree e)
arguments_seen e f p list xs is same = ap views same ∙ sym (ap (λ x. arguments_of (view_tree x)) is ∙ ap arguments_of (view_call f p list))

-- Declarations of no name.
use Rattle.std.proofs.Common.{◌≡◌, List, [], ◌∷◌, arith, length, nat_eq, refl}
use Rattle.std.proofs.lemmas.Bool.Decides.{nat_tests}
use Rattle.dae_tree.specs.declared.statements.InitDeclarator.{InitDeclarator}
use Rattle.dae_tree.specs.FileViews.{view_items}
use Rattle.dae_types_file_plans.specs.Statements.{is_alone}

pub alone_where_empty : (xs : List InitDeclarator) → is_alone (view_items xs) ≡ nat_eq (length xs) 0
alone_where_empty [] = refl
alone_where_empty (x ∷ xs) = grind (arith, nat_tests)

-- A definition's parameters, and their number.
use Rattle.std.proofs.Common.{◌≡◌, suc, List, [], ◌∷◌, length, Some, refl, ap, sym, ◌∙◌}
use Rattle.std.specs.Prelude.{Box, Vec}
use Rattle.std.specs.declared.alloc.Global.{Global}
use Rattle.dae_base.specs.declared.Place.{Place}
use Rattle.dae_tree.specs.declared.expressions.Declarator.{Declarator}
use Rattle.dae_tree.specs.declared.expressions.Declarator.TheVariants as declarator
use Rattle.dae_tree.specs.declared.expressions.Parameter.{Parameter}
use Rattle.dae_tree.specs.Views.{view_declarator, views_parameters}
use Rattle.dae_tree.proofs.Laws.{view_function}
use Rattle.dae_types_file_plans.specs.Files.{count_parameters, parameters_in}

pub parameters_counted : (xs : List Parameter) → count_parameters (views_parameters xs) ≡ length xs
parameters_counted [] = refl
parameters_counted (x ∷ xs) = ap suc (parameters_counted xs)

pub parameters_there : (d : Declarator) (inner : Box Declarator Global) (p : Place) (list : Vec Parameter Global) (xs : List Parameter) → d ≡ declarator.Function inner p list → xs ≡ list.items → views_parameters xs ≡ parameters_in (Some (view_declarator d))
parameters_there d inner p list xs is same = ap views_parameters same ∙ sym (ap (λ x. parameters_in (Some (view_declarator x))) is ∙ ap (λ x. parameters_in (Some x)) (view_function inner p list))

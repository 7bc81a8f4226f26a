-- Initialisers in memory that are lists in braces: what the plan over the list gives is what the plan of the whole gives.
use Rattle.std.proofs.Common.{◌≡◌, ℕ, [], ◌∷◌, List, Result, Ok, sym, ap, subst, ◌∙◌}
use Rattle.std.specs.Prelude.{Vec}
use Rattle.std.specs.declared.alloc.Global.{Global}
use Rattle.dae_base.specs.declared.Place.{Place}
use Rattle.dae_tree.specs.declared.expressions.TrailingComma.{TrailingComma}
use Rattle.dae_tree.specs.declared.statements.Initialiser.{Initialiser}
use Rattle.dae_tree.specs.declared.statements.Initialiser.TheVariants as initialiser
use Rattle.dae_tree.specs.Trees as tree
use Rattle.dae_tree.specs.Views.{has_comma}
use Rattle.dae_tree.specs.FileViews.{view_initialiser, views_initialisers}
use Rattle.dae_tree.proofs.Laws.{view_initialiser_list}
use Rattle.dae_program.specs.Trees as program
use Rattle.dae_types_kinds.specs.declared.rules.Breach.{Breach}
use Rattle.dae_types_kinds.specs.declared.rules.CheckError.{CheckError}
use Rattle.dae_types_kinds.specs.Tables.{Tables}
use Rattle.dae_types_rules.specs.Plan.{Gives, check_of}
use Rattle.dae_types_file_plans.specs.Initialisers.{Filling, Once, empty_filling, plan_initialiser}
use Rattle.dae_types_file_plans.specs.Statements.{plan_scalar}
use Rattle.dae_types_locals.specs.Plans.{plan_list, plan_scalar_list, plan_whole}

listed : (i : Initialiser) (p : Place) (list : Vec Initialiser Global) (c : TrailingComma) (xs : List Initialiser) → i ≡ initialiser.List p list c → xs ≡ list.items → tree.Listed p (views_initialisers xs) (has_comma c) ≡ view_initialiser i
listed i p list c xs is same = sym (ap view_initialiser is ∙ view_initialiser_list p list c ∙ ap (λ ys. tree.Listed p (views_initialisers ys) (has_comma c)) (sym same))

one_filling : (e f : Filling) → ◌≡◌ {A = Result Filling Breach} (Ok e) (Ok f) → e ≡ f
one_filling e f h = cc

pub list_gives : {X : Type 0} (see : X → Tables × Filling) (r : Result X CheckError) (f : Filling) (i : Initialiser) (p : Place) (list : Vec Initialiser Global) (c : TrailingComma) (xs : List Initialiser) (s : Tables) → i ≡ initialiser.List p list c → xs ≡ list.items → Gives see r (check_of (plan_list p f (views_initialisers xs)) s) → Gives see r (check_of (plan_initialiser f (view_initialiser i)) s)
list_gives see r f i p list c xs s is same g = subst (λ x. Gives see r (check_of (plan_initialiser f x) s)) (listed i p list c xs is same) g

pub whole_list_gives : {X : Type 0} (see : X → Tables × Filling) (r : Result X CheckError) (o t : ℕ) (i : Initialiser) (p : Place) (list : Vec Initialiser Global) (c : TrailingComma) (xs : List Initialiser) (f : Filling) (s : Tables) → i ≡ initialiser.List p list c → xs ≡ list.items → ◌≡◌ {A = Result Filling Breach} (Ok (empty_filling (Once o t ∷ []))) (Ok f) → Gives see r (check_of (plan_list p f (views_initialisers xs)) s) → Gives see r (check_of (plan_whole o t (view_initialiser i)) s)
whole_list_gives see r o t i p list c xs f s is same begun g =
    let by : Gives see r (check_of (plan_list p (empty_filling (Once o t ∷ [])) (views_initialisers xs)) s) = subst (λ (h : Filling). Gives see r (check_of (plan_list p h (views_initialisers xs)) s)) (sym (one_filling _ f begun)) g in
    subst (λ x. Gives see r (check_of (plan_whole o t x) s)) (listed i p list c xs is same) by

pub scalar_list_gives : {X : Type 0} (see : X → Tables × program.Statements) (r : Result X CheckError) (at : Place) (k : ℕ) (i : Initialiser) (p : Place) (list : Vec Initialiser Global) (c : TrailingComma) (xs : List Initialiser) (s : Tables) → i ≡ initialiser.List p list c → xs ≡ list.items → Gives see r (check_of (plan_scalar_list at k p (views_initialisers xs)) s) → Gives see r (check_of (plan_scalar at k (view_initialiser i)) s)
scalar_list_gives see r at k i p list c xs s is same g = subst (λ x. Gives see r (check_of (plan_scalar at k x) s)) (listed i p list c xs is same) g

use Rattle.std.proofs.Common.{◌≡◌, [], None, drop}
use Rattle.dae_tree.specs.Views.{views, views_specifiers, views_members, views_declarators, views_enumerators, views_parameters}
use Rattle.dae_types_kinds.specs.Types.{layout, no_parameters_id}
use Rattle.dae_types_rules.specs.Plan.{check_of}
use Rattle.dae_types_sites.specs.Scopes.{is_innermost}
use Rattle.dae_types_tables.specs.Seen.{tables}
use Rattle.dae_types_values.specs.Results.{views as views_of_arguments}
use Rattle.dae_types_plans.specs.Expressions.{plan_arguments, plan_specifiers, plan_members, plan_component_list, plan_enumerators, plan_parameters}
use Rattle.dae_types_walk.proofs.cycle.+tree.Given as goal

abbrev pub invariant-arguments-loop-e : goal.invariant-arguments-loop-e
invariant-arguments-loop-e l = record {
  numbered : l.number ≡ l.e-index;
  rest : check_of (plan_arguments l.function l.number (views_of_arguments l.done) (views (drop l.e-index l.list))) (tables l.checker) ≡ check_of (plan_arguments l.function 0 [] (views l.list)) (tables l.fn.checker);
}

abbrev pub invariant-specifiers-loop-one : goal.invariant-specifiers-loop-one
invariant-specifiers-loop-one l = check_of (plan_specifiers l.context (is_innermost l.scope) l.base (views_specifiers (drop l.one-index l.list))) (tables l.checker) ≡ check_of (plan_specifiers l.context (is_innermost l.scope) None (views_specifiers l.list)) (tables l.fn.checker)

abbrev pub invariant-members-loop-member : goal.invariant-members-loop-member
invariant-members-loop-member l = check_of (plan_members l.structure l.layout (views_members (drop l.member-index l.list))) (tables l.checker) ≡ check_of (plan_members l.structure (layout 0 1) (views_members l.list)) (tables l.fn.checker)

abbrev pub invariant-components-loop-one : goal.invariant-components-loop-one
invariant-components-loop-one l = check_of (plan_component_list l.place l.structure l.base l.layout (views_declarators (drop l.one-index l.list))) (tables l.checker) ≡ check_of (plan_component_list l.place l.structure l.base l.fn.layout (views_declarators l.list)) (tables l.fn.checker)

abbrev pub invariant-enumerators-loop-one : goal.invariant-enumerators-loop-one
invariant-enumerators-loop-one l = check_of (plan_enumerators l.word (views_enumerators (drop l.one-index l.list))) (tables l.checker) ≡ check_of (plan_enumerators 0 (views_enumerators l.list)) (tables l.fn.checker)

abbrev pub invariant-parameters-loop-one : goal.invariant-parameters-loop-one
invariant-parameters-loop-one l = check_of (plan_parameters l.place l.types (views_parameters (drop l.one-index l.list))) (tables l.checker) ≡ check_of (plan_parameters l.place no_parameters_id (views_parameters l.list)) (tables l.fn.checker)

-- A value has at most three typed nodes for each written one: by induction over its plan.
use Rattle.std.proofs.Common.{ℕ, suc, ◌+◌, ◌≤◌, false, List, [], Option, None, refl, arith, ◌*◌}
use Rattle.dae_tree.specs.Trees as tree
use Rattle.dae_tree.specs.Trees.{Expression, Expressions, Specifiers, Specifier, Members, Enumerators, Declarators, Declarator, Parameters}
use Rattle.dae_tree.specs.Depth.{place_of}
use Rattle.dae_program.specs.Trees as program
use Rattle.dae_types_kinds.specs.declared.tables.Context.TheVariants as context
use Rattle.dae_types_kinds.specs.Values.{literal}
use Rattle.dae_types_plans.specs.Steps.{name_in, count_of}
use Rattle.dae_types_plans.specs.Expressions.{plan, plan_arguments, plan_value}
use Rattle.dae_sizes.specs.Worth.{declares, declares_in_all}
use Rattle.std.proofs.lemmas.Result.{IfOk-at_ok}
use Rattle.dae_sizes.specs.Written.{nodes, nodes_of_all, TypedAreFew}
use Rattle.dae_sizes.proofs.Within.{Got, Within, same, stays, weaker, fewer, lighter, unmeasured, pure_within, maps_stays, both_within, chain_within, nothing_within, unused_within}
use Rattle.dae_sizes.proofs.Steps.{maps_keeps}
use Rattle.dae_sizes.proofs.Expressions.{type_name_within, specifiers_within, declarator_within}
use Rattle.dae_sizes.proofs.Ticks.{place_ticks, value_ticks, list_ticks}
use Rattle.dae_sizes.proofs.TickSteps.{value_few, name_few, condition_few, prefix_few, postfix_few, binary_few, index_few, access_few, sizeof_few, cast_few, assignment_few, conditional_few, comma_few, argument_few, call_few}

module _ (ls : List (List ℕ)) where
  low : 0 ≤ 1
  low = omega arith

  mutual
    pub plan_few : (e : Expression) → Within ls place_ticks (declares e) (3 * nodes e) (plan e)
    plan_few (tree.Identifier n) = weaker (omega arith) (omega arith) (name_few n)
    plan_few (tree.Number p k) = pure_within _ (omega arith)
    plan_few (tree.Literal p n) = maps_stays nothing_within (λ s x e l. record { grown = same 0 s (literal n s).0 refl refl refl; small = omega arith })
    plan_few (tree.Parenthesised p a) = plan_few a
    plan_few (tree.Index a p b) =
        weaker (omega arith) (omega arith) (index_few (place_of a) (place_of b) (both_within (value_few (place_of a) (plan_few a)) (value_few (place_of b) (plan_few b))))
    plan_few (tree.Call f p xs) =
        weaker (omega arith) (omega arith) (call_few (place_of f) (place_of f) (name_in f) (count_of xs) (plan_few f) (λ g. arguments_few g 0 [] xs))
    plan_few (tree.Member a p o n) = weaker (omega arith) (omega arith) (access_few (place_of a) o n (plan_few a))
    plan_few (tree.Postfix a p o) = weaker (omega arith) (omega arith) (postfix_few (place_of a) o (plan_few a))
    plan_few (tree.Prefix p o a) = weaker (omega arith) (omega arith) (prefix_few p (place_of a) o (name_in a) (plan_few a))
    plan_few (tree.SizeofExpression p a) =
        weaker (omega arith) (omega arith) (sizeof_few p (maps_keeps (unmeasured (unused_within (plan_few a))) (λ s x. stays 0)))
    plan_few (tree.SizeofType p q ws d) =
        weaker (omega arith) (omega arith) (sizeof_few p (type_name_within ws d p (specifiers_within 0 low ls context.TypeName false None ws) (λ q b. declarator_within 0 low ls q false b d)))
    plan_few (tree.Cast p ws d a) =
        weaker (omega arith) (omega arith) (cast_few p (both_within (type_name_within ws d p (specifiers_within 0 low ls context.TypeName false None ws) (λ q b. declarator_within 0 low ls q false b d)) (value_few (place_of a) (plan_few a))))
    plan_few (tree.Binary a p o b) = binary_few (nodes a) (nodes b) (place_of a) (place_of b) o (value_few (place_of a) (plan_few a)) (value_few (place_of b) (plan_few b))
    plan_few (tree.Conditional a p b d) =
        weaker (omega arith) (omega arith) (conditional_few (place_of a)
        (both_within (condition_few (place_of a) (plan_few a)) (unmeasured (both_within (value_few (place_of b) (plan_few b)) (value_few (place_of d) (plan_few d))))))
    plan_few (tree.Assignment a p o b) =
        weaker (omega arith) (omega arith) (assignment_few (place_of a) o (both_within (plan_few a) (value_few (place_of b) (plan_few b))))
    plan_few (tree.Comma a b) =
        weaker (omega arith) (omega arith) (comma_few (both_within (value_few (place_of a) (plan_few a)) (value_few (place_of b) (plan_few b))))

    arguments_few : (f : Option ℕ) (i : ℕ) (done : List program.Expression) (xs : Expressions) → Within ls list_ticks (declares_in_all xs) (list_ticks done + 3 * nodes_of_all xs) (plan_arguments f i done xs)
    arguments_few f i done tree.no_expressions = pure_within done (omega arith)
    arguments_few f i done (tree.expression_then a xs) =
        fewer (omega arith) (chain_within (argument_few (place_of a) f i done (value_few (place_of a) (plan_few a)))
        (λ more l. lighter (omega (arith, l)) (arguments_few f (suc i) more xs)))

  pub value_of_few : (e : Expression) → Within ls value_ticks (declares e) (3 * nodes e) (plan_value e)
  value_of_few e = value_few (place_of e) (plan_few e)

pub typed_are_few : TypedAreFew
typed_are_few e s t x h = (IfOk-at_ok (Got value_ticks (declares e) (3 * nodes e) s) h ((value_of_few s.literals e).comes s refl)).small

-- What an expression comes to weighs less than its tokens pay, and its declarators add few locals: by induction over its plan.
use Rattle.std.proofs.Common.{◌≡◌, ℕ, suc, ◌+◌, ◌≤◌, Bool, true, false, List, [], Option, None, refl, arith}
use Rattle.std.specs.Prelude.{◌&&◌}
use Rattle.dae_base.specs.declared.Place.{Place}
use Rattle.dae_tree.specs.Trees as tree
use Rattle.dae_tree.specs.Trees.{Expression, Expressions, Specifiers, Specifier, Members, Enumerators, Declarators, Declarator, Parameters}
use Rattle.dae_tree.specs.Depth.{place_of, place_of_specifiers}
use Rattle.dae_tree.specs.Names.{declared_name}
use Rattle.dae_program.specs.Trees as program
use Rattle.dae_types_kinds.specs.declared.types.Layout.{Layout}
use Rattle.dae_types_kinds.specs.declared.tables.Context.{Context}
use Rattle.dae_types_kinds.specs.declared.tables.Context.TheVariants as context
use Rattle.dae_types_kinds.specs.Types.{no_parameters_id, layout}
use Rattle.dae_types_kinds.specs.Values.{literal}
use Rattle.dae_types_plans.specs.Steps.{declared_place, name_in, count_of, is_last}
use Rattle.dae_types_plans.specs.Expressions.{plan, plan_arguments, plan_specifiers, plan_specifier, plan_members, plan_component_list, plan_enumerators, plan_declarator, plan_parameters, plan_type, plan_value}
use Rattle.dae_sizes.specs.Worth.{worth, worth_of_all, worth_of_more, declares, declares_in_all, declares_in_specifiers, declares_in_specifier, declares_in_members, declares_in_enumerators, declares_in_declarators, declares_in, declares_in_parameters}
use Rattle.dae_sizes.specs.Paid.{price}
use Rattle.dae_sizes.proofs.Within.{Within, none, same, stays, weaker, fewer, lighter, unmeasured, pure_within, maps_stays, both_within, chain_within, nothing_within, scoped_within, unused_within}
use Rattle.dae_sizes.proofs.Weighing.{cost, weight_of_list}
use Rattle.dae_sizes.proofs.Steps.{named, count_name, base_within, word_within, type_name_within as typedef_within, tag_within, structure_within, enumeration_tag_within, enumeration_within, enumerator_within, constant_within, member_at_within, pointer_within, unsized_within, count_within, sized_within, function_within, parameter_within, type_within, value_within, name_within, condition_within, prefix_within, postfix_within, binary_within, index_within, access_within, sizeof_within, cast_within, assignment_within, conditional_within, comma_within, argument_within, call_within, maps_keeps}

-- the name that a declarator declares, and those inside it
abbrev pub own : Declarator → ℕ
own tree.Absent = 0
own (tree.Named n) = 1
own (tree.Pointer p qs d) = own d
own (tree.Grouped p d) = own d
own (tree.Unsized d p) = own d
own (tree.Sized d p e) = own d
own (tree.Empty d p) = own d
own (tree.Void d p q) = own d
own (tree.Function d p ps) = own d

abbrev pub inner : Declarator → ℕ
inner tree.Absent = 0
inner (tree.Named n) = 0
inner (tree.Pointer p qs d) = inner d
inner (tree.Grouped p d) = inner d
inner (tree.Unsized d p) = inner d
inner (tree.Sized d p e) = inner d + declares e
inner (tree.Empty d p) = inner d
inner (tree.Void d p q) = inner d
inner (tree.Function d p ps) = inner d + declares_in_parameters ps

pub own_and_inner : (d : Declarator) → own d + inner d ≡ declares_in d
own_and_inner tree.Absent = refl
own_and_inner (tree.Named n) = refl
own_and_inner (tree.Pointer p qs d) = own_and_inner d
own_and_inner (tree.Grouped p d) = own_and_inner d
own_and_inner (tree.Unsized d p) = own_and_inner d
own_and_inner (tree.Sized d p e) = let h = own_and_inner d in omega (arith, h)
own_and_inner (tree.Empty d p) = own_and_inner d
own_and_inner (tree.Void d p q) = own_and_inner d
own_and_inner (tree.Function d p ps) = let h = own_and_inner d in omega (arith, h)

pub own_is : (d : Declarator) → count_name (declared_name d) ≡ own d
own_is tree.Absent = refl
own_is (tree.Named n) = refl
own_is (tree.Pointer p qs d) = own_is d
own_is (tree.Grouped p d) = own_is d
own_is (tree.Unsized d p) = own_is d
own_is (tree.Sized d p e) = own_is d
own_is (tree.Empty d p) = own_is d
own_is (tree.Void d p q) = own_is d
own_is (tree.Function d p ps) = own_is d

all_or_more : (price : ℕ → ℕ) (xs : Expressions) → worth_of_all price xs ≤ worth_of_more price xs
all_or_more price tree.no_expressions = omega arith
all_or_more price (tree.expression_then a xs) = omega arith

-- the type of a type name
pub type_name_within : {ls : List (List ℕ)} (ws : Specifiers) (d : Declarator) (p : Place) → Within ls none (declares_in_specifiers ws) 0 (plan_specifiers context.TypeName false None ws) →
    ((q : Place) (b : ℕ) → Within ls named (inner d) (own d) (plan_declarator q false b d)) → Within ls none (declares_in_specifiers ws + declares_in d) 0 (plan_type ws d p)
type_name_within ws d p g h =
    let j = own_and_inner d in
    fewer (omega (arith, j)) (type_within (chain_within (base_within ws g) (λ b l. h (place_of_specifiers ws p) b)))

module _ (c : ℕ) (low : c ≤ 1) (ls : List (List ℕ)) where
  mutual
    pub plan_within : (e : Expression) → Within ls (cost c 3) (declares e) (worth (price c ls) e) (plan e)
    plan_within (tree.Identifier n) = name_within c low n
    plan_within (tree.Number p k) = pure_within _ (omega (arith, low))
    plan_within (tree.Literal p n) = maps_stays nothing_within (λ s x e l. record { grown = same 0 s (literal n s).0 refl refl refl; small = omega (arith, low) })
    plan_within (tree.Parenthesised p a) = weaker (omega arith) (omega arith) (plan_within a)
    plan_within (tree.Index a p b) =
        weaker (omega arith) (omega arith) (index_within c low (place_of a) (place_of b) (both_within (value_within c low (place_of a) (plan_within a)) (value_within c low (place_of b) (plan_within b))))
    plan_within (tree.Call f p xs) =
        weaker (omega arith) (omega arith) (call_within c low (place_of f) (place_of f) (name_in f) (count_of xs) (plan_within f) (λ g. arguments_within g 0 [] xs))
    plan_within (tree.Member a p o n) = access_within c low (place_of a) o n (plan_within a)
    plan_within (tree.Postfix a p o) = postfix_within c low (place_of a) o (plan_within a)
    plan_within (tree.Prefix p o a) = prefix_within c low p (place_of a) o (name_in a) (plan_within a)
    plan_within (tree.SizeofExpression p a) =
        weaker (omega arith) (omega arith) (sizeof_within c low p (maps_keeps (unmeasured (unused_within (plan_within a))) (λ s x. stays 0)))
    plan_within (tree.SizeofType p q ws d) = weaker (omega arith) (omega arith) (sizeof_within c low p (type_name_within ws d p (specifiers_within context.TypeName false None ws) (λ q b. declarator_within q false b d)))
    plan_within (tree.Cast p ws d a) =
        weaker (omega arith) (omega arith) (cast_within c low p (both_within (type_name_within ws d p (specifiers_within context.TypeName false None ws) (λ q b. declarator_within q false b d)) (value_within c low (place_of a) (plan_within a))))
    plan_within (tree.Binary a p o b) =
        weaker (omega arith) (omega arith) (binary_within c low (place_of a) (place_of b) o (both_within (value_within c low (place_of a) (plan_within a)) (value_within c low (place_of b) (plan_within b))))
    plan_within (tree.Conditional a p b d) =
        weaker (omega arith) (omega arith) (conditional_within c low (place_of a)
        (both_within (condition_within c low (place_of a) (plan_within a)) (both_within (value_within c low (place_of b) (plan_within b)) (value_within c low (place_of d) (plan_within d)))))
    plan_within (tree.Assignment a p o b) =
        weaker (omega arith) (omega arith) (assignment_within c low (place_of a) o (both_within (plan_within a) (value_within c low (place_of b) (plan_within b))))
    plan_within (tree.Comma a b) =
        weaker (omega arith) (omega arith) (comma_within c low (both_within (value_within c low (place_of a) (plan_within a)) (value_within c low (place_of b) (plan_within b))))

    arguments_within : (f : Option ℕ) (i : ℕ) (done : List program.Expression) (xs : Expressions) → Within ls (weight_of_list c) (declares_in_all xs) (weight_of_list c done + worth_of_all (price c ls) xs) (plan_arguments f i done xs)
    arguments_within f i done tree.no_expressions = pure_within done (omega arith)
    arguments_within f i done (tree.expression_then a xs) =
        fewer (omega arith) (chain_within (argument_within c low (place_of a) f i done (value_within c low (place_of a) (plan_within a)))
        (λ more l. let g = all_or_more (price c ls) xs in lighter (omega (arith, l, g)) (arguments_within f (suc i) more xs)))

    pub specifiers_within : (k : Context) (alone : Bool) (b : Option ℕ) (ws : Specifiers) → Within ls none (declares_in_specifiers ws) 0 (plan_specifiers k alone b ws)
    specifiers_within k alone b tree.no_specifiers = pure_within b (omega arith)
    specifiers_within k alone b (tree.specifier_then w ws) = fewer (omega arith) (chain_within (specifier_within k alone b w) (λ b l. specifiers_within k alone b ws))

    specifier_within : (k : Context) (alone : Bool) (b : Option ℕ) (w : Specifier) → Within ls none (declares_in_specifier w) 0 (plan_specifier k alone b w)
    specifier_within k alone b (tree.Word p w) = word_within p k b w
    specifier_within k alone b (tree.TypeName n) = typedef_within n
    specifier_within k alone b (tree.Structure p n) = tag_within alone n
    specifier_within k alone b (tree.StructureBody p n q ms) = structure_within p n (λ j. plan_members j (layout 0 1) ms) (λ j. members_within j (layout 0 1) ms)
    specifier_within k alone b (tree.Enumeration p n) = enumeration_tag_within n
    specifier_within k alone b (tree.EnumerationBody p n q es comma) = enumeration_within n (enumerators_within 0 es)

    members_within : (k : ℕ) (l : Layout) (ms : Members) → Within ls none (declares_in_members ms) 0 (plan_members k l ms)
    members_within k l tree.no_members = pure_within l (omega arith)
    members_within k l (tree.member_then ws ds p ms) =
        fewer (omega arith) (chain_within (chain_within (base_within ws (specifiers_within context.Member false None ws)) (λ b q. components_within (place_of_specifiers ws p) k b l ds)) (λ l q. members_within k l ms))

    components_within : (q : Place) (k b : ℕ) (l : Layout) (ds : Declarators) → Within ls none (declares_in_declarators ds) 0 (plan_component_list q k b l ds)
    components_within q k b l tree.no_declarators = pure_within l (omega arith)
    components_within q k b l (tree.declarator_then d ds) =
        let h = own_and_inner d in
        fewer (omega (arith, h)) (chain_within (member_at_within (declared_place d q) k l (declared_name d) (unmeasured (declarator_within (declared_place d q) false b d))) (λ l r. components_within q k b l ds))

    enumerators_within : (w : ℕ) (es : Enumerators) → Within ls none (declares_in_enumerators es) 0 (plan_enumerators w es)
    enumerators_within w tree.no_enumerators = pure_within w (omega arith)
    enumerators_within w (tree.plain_then n es) = fewer (omega arith) (chain_within (enumerator_within n w) (λ w l. enumerators_within w es))
    enumerators_within w (tree.valued_then n p e es) =
        fewer (omega arith) (chain_within (chain_within (constant_within (place_of e) (value_within c low (place_of e) (plan_within e))) (λ w l. enumerator_within n w)) (λ w l. enumerators_within w es))

    pub declarator_within : (p : Place) (free : Bool) (b : ℕ) (d : Declarator) → Within ls named (inner d) (own d) (plan_declarator p free b d)
    declarator_within p free b tree.Absent = pure_within _ (omega arith)
    declarator_within p free b (tree.Named n) = pure_within _ (omega arith)
    declarator_within p free b (tree.Pointer q qs d) = fewer (omega arith) (chain_within (pointer_within p b) (λ b l. declarator_within p free b d))
    declarator_within p free b (tree.Grouped q d) = declarator_within p free b d
    declarator_within p free b (tree.Unsized d q) = fewer (omega arith) (chain_within (unsized_within p b) (λ b l. declarator_within p free b d))
    declarator_within p free b (tree.Sized d q e) =
        fewer (omega arith) (chain_within (sized_within p (free && is_last d) b (count_within (place_of e) (value_within c low (place_of e) (plan_within e)))) (λ b l. declarator_within p free b d))
    declarator_within p free b (tree.Empty d q) = fewer (omega arith) (chain_within (function_within p b (pure_within no_parameters_id (omega arith))) (λ b l. declarator_within p free b d))
    declarator_within p free b (tree.Void d q r) = fewer (omega arith) (chain_within (function_within p b (pure_within no_parameters_id (omega arith))) (λ b l. declarator_within p free b d))
    declarator_within p free b (tree.Function d q ps) =
        fewer (omega arith) (chain_within (function_within p b (scoped_within (parameters_within q no_parameters_id ps))) (λ b l. declarator_within p free b d))

    parameters_within : (q : Place) (list : ℕ) (ps : Parameters) → Within ls none (declares_in_parameters ps) 0 (plan_parameters q list ps)
    parameters_within q list tree.no_parameters = pure_within list (omega arith)
    parameters_within q list (tree.parameter_then ws d ps) =
        let h = own_and_inner d in
        fewer (omega (arith, h)) (chain_within (parameter_within (declared_place d (place_of_specifiers ws q)) list (declared_name d)
        (chain_within (base_within ws (specifiers_within context.Parameter false None ws)) (λ b l. declarator_within (declared_place d (place_of_specifiers ws q)) true b d)))
        (λ list l. parameters_within q list ps))

  pub value_of_within : (e : Expression) → Within ls (cost c 2) (declares e) (worth (price c ls) e) (plan_value e)
  value_of_within e = value_within c low (place_of e) (plan_within e)

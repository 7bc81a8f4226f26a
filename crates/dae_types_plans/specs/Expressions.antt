-- The plans of expressions, and of the specifiers and declarators that they hold.
use Rattle.std.specs.Prelude.{ℕ, suc, List, [], Option, Some, None, Bool, true, false, ◌&&◌, if◌then◌else◌}
use Rattle.dae_base.specs.declared.Place.{Place}
use Rattle.dae_tree.specs.Trees as tree
use Rattle.dae_tree.specs.Trees.{Expression, Expressions, Specifiers, Specifier, Members, Enumerators, Declarators, Declarator, Parameters}
use Rattle.dae_tree.specs.Depth.{place_of, place_of_specifiers}
use Rattle.dae_tree.specs.Names.{declared_name}
use Rattle.dae_program.specs.Trees as program
use Rattle.dae_types_kinds.specs.declared.types.Layout.{Layout}
use Rattle.dae_types_kinds.specs.declared.tables.Context.{Context}
use Rattle.dae_types_kinds.specs.declared.tables.Context.TheVariants as context
use Rattle.dae_types_kinds.specs.declared.tables.NamedType.{NamedType}
use Rattle.dae_types_kinds.specs.Types.{int_id, unsigned_id, no_parameters_id, layout}
use Rattle.dae_types_kinds.specs.Values.{Typed, number, literal}
use Rattle.dae_types_rules.specs.Plan.{CheckPlan, pure, both, chain}
use Rattle.dae_types_plans.specs.Steps.{does, nothing, scoped, unused, declared_place, is_last, base_at, word_at, type_name_at, tag_at, structure_body, enumeration_tag, enumeration_body, enumerator_at, constant_at, member_at, pointer, unsized, count_at, sized, function, parameter_at, type_of, value_at, name_at, condition_at, name_in, prefix_at, postfix_at, binary_at, index_at, access_at, sizeof_at, type_of_value, cast_at, assignment_at, conditional_at, comma_at, argument_at, count_of, call_of}

abbrev mutual
  pub plan : Expression → CheckPlan Typed
  plan (tree.Identifier n) = name_at n
  plan (tree.Number p c) = pure (number c.value (if c.unsigned then unsigned_id else int_id))
  plan (tree.Literal p n) = does (λ s x. literal n s) nothing
  plan (tree.Parenthesised p a) = plan a
  plan (tree.Index a p b) = index_at (place_of a) (place_of b) (both (value_at (place_of a) (plan a)) (value_at (place_of b) (plan b)))
  plan (tree.Call f p xs) = call_of (place_of f) (place_of f) (name_in f) (count_of xs) (plan f) (λ g. plan_arguments g 0 [] xs)
  plan (tree.Member a p o n) = access_at (place_of a) o n (plan a)
  plan (tree.Postfix a p o) = postfix_at (place_of a) o (plan a)
  plan (tree.Prefix p o a) = prefix_at p (place_of a) o (name_in a) (plan a)
  plan (tree.SizeofExpression p a) = sizeof_at p (type_of_value (unused (plan a)))
  plan (tree.SizeofType p q ws d) = sizeof_at p (type_of (chain int_id (base_at ws (plan_specifiers context.TypeName false None ws)) (λ b. plan_declarator (place_of_specifiers ws p) false b d)))
  plan (tree.Cast p ws d a) = cast_at p (both (type_of (chain int_id (base_at ws (plan_specifiers context.TypeName false None ws))
      (λ b. plan_declarator (place_of_specifiers ws p) false b d))) (value_at (place_of a) (plan a)))
  plan (tree.Binary a p o b) = binary_at (place_of a) (place_of b) o (both (value_at (place_of a) (plan a)) (value_at (place_of b) (plan b)))
  plan (tree.Conditional a p b c) = conditional_at (place_of a) (both (condition_at (place_of a) (plan a)) (both (value_at (place_of b) (plan b)) (value_at (place_of c) (plan c))))
  plan (tree.Assignment a p o b) = assignment_at (place_of a) o (both (plan a) (value_at (place_of b) (plan b)))
  plan (tree.Comma a b) = comma_at (both (value_at (place_of a) (plan a)) (value_at (place_of b) (plan b)))

  -- the arguments of a function, from number i on, behind those that are done
  pub plan_arguments : Option ℕ → ℕ → List program.Expression → Expressions → CheckPlan (List program.Expression)
  plan_arguments f i done tree.no_expressions = pure done
  plan_arguments f i done (tree.expression_then e es) = chain done (argument_at (place_of e) f i done (value_at (place_of e) (plan e))) (λ done. plan_arguments f (suc i) done es)

  -- the type that stands alone among specifiers, if there is one so far
  pub plan_specifiers : Context → Bool → Option ℕ → Specifiers → CheckPlan (Option ℕ)
  plan_specifiers c alone b tree.no_specifiers = pure b
  plan_specifiers c alone b (tree.specifier_then w ws) = chain b (plan_specifier c alone b w) (λ b. plan_specifiers c alone b ws)

  pub plan_specifier : Context → Bool → Option ℕ → Specifier → CheckPlan (Option ℕ)
  plan_specifier c alone b (tree.Word p k) = word_at p c b k
  plan_specifier c alone b (tree.TypeName n) = type_name_at n
  plan_specifier c alone b (tree.Structure p n) = tag_at alone n
  plan_specifier c alone b (tree.StructureBody p n q ms) = structure_body p n (λ k. plan_members k (layout 0 1) ms)
  plan_specifier c alone b (tree.Enumeration p n) = enumeration_tag n
  plan_specifier c alone b (tree.EnumerationBody p n q es comma) = enumeration_body n (plan_enumerators 0 es)

  -- the members of structure k, behind members of this layout
  pub plan_members : ℕ → Layout → Members → CheckPlan Layout
  plan_members k l tree.no_members = pure l
  plan_members k l (tree.member_then ws ds p ms) = chain l (chain int_id (base_at ws (plan_specifiers context.Member false None ws))
      (λ b. plan_component_list (place_of_specifiers ws p) k b l ds)) (λ l. plan_members k l ms)

  pub plan_component_list : Place → ℕ → ℕ → Layout → Declarators → CheckPlan Layout
  plan_component_list q k b l tree.no_declarators = pure l
  plan_component_list q k b l (tree.declarator_then d ds) = chain l
      (member_at (declared_place d q) k l (declared_name d) (plan_declarator (declared_place d q) false b d)) (λ l. plan_component_list q k b l ds)

  pub plan_enumerators : ℕ → Enumerators → CheckPlan ℕ
  plan_enumerators w tree.no_enumerators = pure w
  plan_enumerators w (tree.plain_then n es) = chain w (enumerator_at n w) (λ w. plan_enumerators w es)
  plan_enumerators w (tree.valued_then n p e es) = chain w (chain w (constant_at (place_of e) (value_at (place_of e) (plan e))) (λ w. enumerator_at n w)) (λ w. plan_enumerators w es)

  -- what a declarator declares over a type, from its outermost part. The place is that of what is declared; the flag says
  -- that an outermost array is free of a limit.
  pub plan_declarator : Place → Bool → ℕ → Declarator → CheckPlan NamedType
  plan_declarator p free b tree.Absent = pure (record { name = None; type_id = b })
  plan_declarator p free b (tree.Named n) = pure (record { name = Some n; type_id = b })
  plan_declarator p free b (tree.Pointer q qs d) = chain int_id (pointer p b) (λ b. plan_declarator p free b d)
  plan_declarator p free b (tree.Grouped q d) = plan_declarator p free b d
  plan_declarator p free b (tree.Unsized d q) = chain int_id (unsized p b) (λ b. plan_declarator p free b d)
  plan_declarator p free b (tree.Sized d q e) = chain int_id (sized p (free && is_last d) b (count_at (place_of e) (value_at (place_of e) (plan e)))) (λ b. plan_declarator p free b d)
  plan_declarator p free b (tree.Empty d q) = chain int_id (function p b (pure no_parameters_id)) (λ b. plan_declarator p free b d)
  plan_declarator p free b (tree.Void d q r) = chain int_id (function p b (pure no_parameters_id)) (λ b. plan_declarator p free b d)
  plan_declarator p free b (tree.Function d q ps) = chain int_id (function p b (scoped (plan_parameters q no_parameters_id ps))) (λ b. plan_declarator p free b d)

  pub plan_parameters : Place → ℕ → Parameters → CheckPlan ℕ
  plan_parameters q list tree.no_parameters = pure list
  plan_parameters q list (tree.parameter_then ws d ps) = chain list
      (parameter_at (declared_place d (place_of_specifiers ws q)) list (declared_name d)
      (chain int_id (base_at ws (plan_specifiers context.Parameter false None ws)) (λ b. plan_declarator (declared_place d (place_of_specifiers ws q)) true b d))) (λ list. plan_parameters q list ps)

-- the type of a type name, whose first token has this place where there is none in it
abbrev pub plan_type : Specifiers → Declarator → Place → CheckPlan ℕ
plan_type ws d q = type_of (chain int_id (base_at ws (plan_specifiers context.TypeName false None ws)) (λ b. plan_declarator (place_of_specifiers ws q) false b d))

-- an expression whose value is read
abbrev pub plan_value : Expression → CheckPlan Typed
plan_value e = value_at (place_of e) (plan e)

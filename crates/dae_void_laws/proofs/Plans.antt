-- Values are honest, and types are there: by induction over the plans of expressions, specifiers and declarators.
use Rattle.std.proofs.Common.{ℕ, suc, Bool, true, false, List, [], Option, Some, None, refl, arith}
use Rattle.std.specs.Prelude.{◌&&◌, slice_get}
use Rattle.dae_base.specs.declared.Place.{Place}
use Rattle.dae_tree.specs.Trees as tree
use Rattle.dae_tree.specs.Trees.{Expression, Expressions, Specifiers, Specifier, Members, Enumerators, Declarators, Declarator, Parameters}
use Rattle.dae_tree.specs.Depth.{place_of, place_of_specifiers}
use Rattle.dae_tree.specs.Names.{declared_name}
use Rattle.dae_program.specs.Trees as program
use Rattle.dae_types_kinds.specs.declared.types.Layout.{Layout}
use Rattle.dae_types_kinds.specs.declared.types.Shape.{Shape}
use Rattle.dae_types_kinds.specs.declared.types.Shape.TheVariants as shape
use Rattle.dae_types_kinds.specs.declared.tables.Context.{Context}
use Rattle.dae_types_kinds.specs.declared.tables.Context.TheVariants as context
use Rattle.dae_types_kinds.specs.Types.{char_id, no_parameters_id, layout}
use Rattle.dae_types_kinds.specs.Values.{Typed, literal_size}
use Rattle.dae_types_rules.specs.Plan.{CheckPlan, both}
use Rattle.dae_types_plans.specs.Steps.{declared_place, name_in, count_of, is_last, value_at}
use Rattle.dae_types_plans.specs.Expressions.{plan, plan_arguments, plan_specifiers, plan_specifier, plan_members, plan_component_list, plan_enumerators, plan_declarator, plan_parameters, plan_type, plan_value}
use Rattle.dae_void_laws.proofs.Kept.{Leads, Any, Anything, Extends, leads_pure, leads_maps, leads_chain, leads_both, leads_before, leads_carry, leads_reads, leads_nothing, leads_scoped, leads_unused, come_wider, shape_wider}
use Rattle.dae_void_laws.proofs.Values.{Honest, Tested, honest, honest_lasts}
use Rattle.dae_void_laws.proofs.Steps.{There, MaybeThere, NamedThere, Pair, Passed, there_lasts, anything_lasts, base_leads, word_leads, type_name_leads, tag_leads, structure_leads, enumeration_tag_leads, enumeration_leads, enumerator_leads, constant_leads, member_at_leads, pointer_leads, unsized_leads, count_leads, sized_leads, function_leads, parameter_leads, type_leads, value_leads, name_leads, condition_leads, prefix_leads, postfix_leads, binary_leads, index_leads, access_leads, sizeof_leads, cast_leads, assignment_leads, conditional_leads, comma_leads, argument_leads, call_leads}

pub tested_lasts : (xs ys : List Shape) (x : Typed) → Extends xs ys → Tested xs x → Tested ys x
tested_lasts xs ys x g h = h

-- the type of a type name
type_name_there : (ws : Specifiers) (d : Declarator) (p : Place) → Leads Any MaybeThere (plan_specifiers context.TypeName false None ws) →
    ((q : Place) (b : ℕ) → Leads (λ xs. There xs b) NamedThere (plan_declarator q false b d)) → Leads Any There (plan_type ws d p)
type_name_there ws d p g h = type_leads (leads_chain {Between = There} (base_leads ws g) (λ b. h (place_of_specifiers ws p) b))

two_values : {m l : CheckPlan Typed} (p q : Place) → Leads Any Honest m → Leads Any Honest l → Leads Any Pair (both (value_at p m) (value_at q l))
two_values p q h g = leads_both honest_lasts (value_leads p h) (value_leads q g)

mutual
  pub plan_leads : (e : Expression) → Leads Any Honest (plan e)
  plan_leads (tree.Identifier n) = name_leads n
  plan_leads (tree.Number p k) = leads_pure _ (λ xs l b. honest (record { inside = omega arith; itself = refl }))
  plan_leads (tree.Literal p n) = leads_maps {Between = Anything} leads_nothing (λ s x k l. come_wider (shape_wider (shape.Array char_id (Some (literal_size (slice_get s.literals n)))) s) k (honest (record { inside = omega arith; itself = refl })))
  plan_leads (tree.Parenthesised p a) = plan_leads a
  plan_leads (tree.Index a p b) = index_leads (place_of a) (place_of b) (two_values (place_of a) (place_of b) (plan_leads a) (plan_leads b))
  plan_leads (tree.Call f p xs) = call_leads (place_of f) (place_of f) (name_in f) (count_of xs) (plan_leads f) (λ g. leads_before (λ ys b. omega arith) (arguments_lead g 0 [] xs))
  plan_leads (tree.Member a p o n) = access_leads (place_of a) o n (plan_leads a)
  plan_leads (tree.Postfix a p o) = postfix_leads (place_of a) o (plan_leads a)
  plan_leads (tree.Prefix p o a) = prefix_leads p (place_of a) o (name_in a) (plan_leads a)
  plan_leads (tree.SizeofExpression p a) = sizeof_leads {After = Anything} p (leads_reads (leads_unused honest_lasts (plan_leads a)) (λ s x k l. tt))
  plan_leads (tree.SizeofType p q ws d) = sizeof_leads p (type_name_there ws d p (specifiers_lead context.TypeName false None ws) (λ q b. declarator_leads q false b d))
  plan_leads (tree.Cast p ws d a) =
      cast_leads p (leads_both there_lasts (type_name_there ws d p (specifiers_lead context.TypeName false None ws) (λ q b. declarator_leads q false b d)) (value_leads (place_of a) (plan_leads a)))
  plan_leads (tree.Binary a p o b) = binary_leads (place_of a) (place_of b) o (two_values (place_of a) (place_of b) (plan_leads a) (plan_leads b))
  plan_leads (tree.Conditional a p b d) =
      conditional_leads (place_of a) (leads_both tested_lasts (condition_leads (place_of a) (plan_leads a)) (two_values (place_of b) (place_of d) (plan_leads b) (plan_leads d)))
  plan_leads (tree.Assignment a p o b) = assignment_leads (place_of a) o (leads_both honest_lasts (plan_leads a) (value_leads (place_of b) (plan_leads b)))
  plan_leads (tree.Comma a b) = comma_leads (two_values (place_of a) (place_of b) (plan_leads a) (plan_leads b))

  arguments_lead : (f : Option ℕ) (i : ℕ) (done : List program.Expression) (xs : Expressions) → Leads (λ ys. Passed ys done) Passed (plan_arguments f i done xs)
  arguments_lead f i done tree.no_expressions = leads_pure done (λ xs l b. b)
  arguments_lead f i done (tree.expression_then a xs) =
      leads_chain {Between = Passed} (argument_leads (place_of a) f i done (value_leads (place_of a) (plan_leads a))) (λ more. arguments_lead f (suc i) more xs)

  pub specifiers_lead : (c : Context) (alone : Bool) (b : Option ℕ) (ws : Specifiers) → Leads (λ xs. MaybeThere xs b) MaybeThere (plan_specifiers c alone b ws)
  specifiers_lead c alone b tree.no_specifiers = leads_pure b (λ xs l h. h)
  specifiers_lead c alone b (tree.specifier_then w ws) = leads_chain {Between = MaybeThere} (specifier_leads c alone b w) (λ b. specifiers_lead c alone b ws)

  specifier_leads : (c : Context) (alone : Bool) (b : Option ℕ) (w : Specifier) → Leads (λ xs. MaybeThere xs b) MaybeThere (plan_specifier c alone b w)
  specifier_leads c alone b (tree.Word p w) = word_leads p c b w
  specifier_leads c alone b (tree.TypeName n) = type_name_leads n
  specifier_leads c alone b (tree.Structure p n) = tag_leads alone n
  specifier_leads c alone b (tree.StructureBody p n q ms) = structure_leads p n (λ j. plan_members j (layout 0 1) ms) (λ j. members_lead j (layout 0 1) ms)
  specifier_leads c alone b (tree.Enumeration p n) = enumeration_tag_leads n
  specifier_leads c alone b (tree.EnumerationBody p n q es comma) = enumeration_leads n (enumerators_lead 0 es)

  members_lead : (k : ℕ) (l : Layout) (ms : Members) → Leads Any Anything (plan_members k l ms)
  members_lead k l tree.no_members = leads_pure l (λ xs l b. tt)
  members_lead k l (tree.member_then ws ds p ms) =
      leads_chain {Between = Anything} (leads_chain {Between = There} (base_leads ws (specifiers_lead context.Member false None ws)) (λ b. components_lead (place_of_specifiers ws p) k b l ds)) (λ l. members_lead k l ms)

  components_lead : (q : Place) (k b : ℕ) (l : Layout) (ds : Declarators) → Leads (λ xs. There xs b) Anything (plan_component_list q k b l ds)
  components_lead q k b l tree.no_declarators = leads_pure l (λ xs l b. tt)
  components_lead q k b l (tree.declarator_then d ds) =
      leads_chain {Between = λ xs x. There xs b × Anything xs x} (leads_carry (λ xs ys. there_lasts xs ys b) (member_at_leads (declared_place d q) k l (declared_name d) (declarator_leads (declared_place d q) false b d)))
      (λ l. leads_before (λ xs h. h.0) (components_lead q k b l ds))

  enumerators_lead : (w : ℕ) (es : Enumerators) → Leads Any Anything (plan_enumerators w es)
  enumerators_lead w tree.no_enumerators = leads_pure w (λ xs l b. tt)
  enumerators_lead w (tree.plain_then n es) = leads_chain {Between = Anything} (enumerator_leads n w) (λ w. enumerators_lead w es)
  enumerators_lead w (tree.valued_then n p e es) =
      leads_chain {Between = Anything} (leads_chain {Between = Anything} (constant_leads (place_of e) (value_leads (place_of e) (plan_leads e))) (λ w. enumerator_leads n w)) (λ w. enumerators_lead w es)

  pub declarator_leads : (p : Place) (free : Bool) (b : ℕ) (d : Declarator) → Leads (λ xs. There xs b) NamedThere (plan_declarator p free b d)
  declarator_leads p free b tree.Absent = leads_pure _ (λ xs l h. h)
  declarator_leads p free b (tree.Named n) = leads_pure _ (λ xs l h. h)
  declarator_leads p free b (tree.Pointer q qs d) = leads_chain {Between = There} (pointer_leads p b) (λ b. declarator_leads p free b d)
  declarator_leads p free b (tree.Grouped q d) = declarator_leads p free b d
  declarator_leads p free b (tree.Unsized d q) = leads_chain {Between = There} (unsized_leads p b) (λ b. declarator_leads p free b d)
  declarator_leads p free b (tree.Sized d q e) =
      leads_chain {Between = There} (sized_leads p (free && is_last d) b (leads_before (λ xs h. tt) (count_leads (place_of e) (value_leads (place_of e) (plan_leads e))))) (λ b. declarator_leads p free b d)
  declarator_leads p free b (tree.Empty d q) = leads_chain {Between = There} (function_leads p b (leads_pure no_parameters_id (λ xs l h. tt))) (λ b. declarator_leads p free b d)
  declarator_leads p free b (tree.Void d q r) = leads_chain {Between = There} (function_leads p b (leads_pure no_parameters_id (λ xs l h. tt))) (λ b. declarator_leads p free b d)
  declarator_leads p free b (tree.Function d q ps) =
      leads_chain {Between = There} (function_leads p b (leads_before (λ xs h. tt) (leads_scoped anything_lasts (parameters_lead q no_parameters_id ps)))) (λ b. declarator_leads p free b d)

  parameters_lead : (q : Place) (list : ℕ) (ps : Parameters) → Leads Any Anything (plan_parameters q list ps)
  parameters_lead q list tree.no_parameters = leads_pure list (λ xs l b. tt)
  parameters_lead q list (tree.parameter_then ws d ps) =
      leads_chain {Between = Anything} (parameter_leads (declared_place d (place_of_specifiers ws q)) list (declared_name d)
      (leads_chain {Between = There} (base_leads ws (specifiers_lead context.Parameter false None ws)) (λ b. declarator_leads (declared_place d (place_of_specifiers ws q)) true b d)))
      (λ list. parameters_lead q list ps)

pub value_of_leads : (e : Expression) → Leads Any Honest (plan_value e)
value_of_leads e = value_leads (place_of e) (plan_leads e)

-- The definitions of a file pay for the bodies that its plan gives.
use Rattle.std.proofs.Common.{◌≡◌, ℕ, suc, ◌+◌, ◌-◌, ◌≤◌, Bool, true, false, List, [], ◌∷◌, ◌++◌, length, Option, Some, None, Ok, inl, inr, if◌then◌else◌, refl, sym, ap, ◌∙◌, subst, arith, append_assoc, length-append, append-nil}
use Rattle.std.proofs.lemmas.List.{length-take}
use Rattle.std.proofs.lemmas.Result.{IfOk-at_ok}
use Rattle.std.specs.Prelude.{IfOk, min, slice_get, is_some, nat_eq, not}
use Rattle.dae_base.specs.declared.Place.{Place}
use Rattle.dae_tree.specs.declared.words.Keyword.{Keyword}
use Rattle.dae_tree.specs.declared.expressions.Name.{Name}
use Rattle.dae_tree.specs.Trees as tree
use Rattle.dae_tree.specs.Trees.{Specifiers, Declarator, Parameters, Initialiser, InitDeclarator, Declaration, Statements, External}
use Rattle.dae_tree.specs.Depth.{place_of_specifiers}
use Rattle.dae_tree.specs.Names.{declared_name, has_typedef, function_part, is_bare}
use Rattle.dae_program.specs.Trees as program
use Rattle.dae_types_kinds.specs.declared.rules.Breach.{Breach}
use Rattle.dae_types_kinds.specs.declared.tables.Context.TheVariants as context
use Rattle.dae_types_kinds.specs.declared.tables.Entity.{Entity}
use Rattle.dae_types_kinds.specs.declared.tables.Entity.TheVariants as entity
use Rattle.dae_types_kinds.specs.declared.tables.Local.{Local}
use Rattle.dae_types_kinds.specs.declared.tables.NamedType.{NamedType}
use Rattle.dae_types_kinds.specs.declared.tables.StaticObject.{StaticObject}
use Rattle.dae_types_kinds.specs.declared.tables.Routine.{Routine}
use Rattle.dae_types_kinds.specs.declared.tables.Storage.{Storage}
use Rattle.dae_types_kinds.specs.declared.tables.Storage.TheVariants as storage
use Rattle.dae_types_kinds.specs.Tables.{Tables, closed, reopened}
use Rattle.dae_types_kinds.specs.Types.{shape_of, is_function, layout_at, rounded, composite, word_for}
use Rattle.dae_types_rules.specs.Sites.{Site}
use Rattle.dae_types_rules.specs.Table.{is_extern, is_static}
use Rattle.dae_types_rules.specs.Plan.{CheckPlan, pure, ask_all}
use Rattle.dae_types_plans.specs.Steps.{declared_place}
use Rattle.dae_types_file_plans.specs.declared.declarations.Role.{Role}
use Rattle.dae_types_file_plans.specs.declared.declarations.Role.TheVariants.{Reference, Definition}
use Rattle.dae_types_file_plans.specs.Statements.{own_of, is_alone}
use Rattle.dae_types_file_plans.specs.Files.{Product, Declares, Data, Body, most_frame, retyped, new_routine, declared_function, function_at, new_object, replaced, declared_object, object_at, role_of, declares_object, declares_function, type_of_object, with_object_type, plan_data, plan_either, plan_typed, plan_item_at, plan_items, storage_of, plan_declared, in_variable, kept_from, is_direct, definition_at, defined_or, define, second_at, unnamed_site, unnamed_sites, parameters_in, count_parameters, named_at, settled_locals, in_body, keep_scope, first_time, body_product, second_time, twice, plan_body_of, plan_defined_as, some_of, plan_defined, plan_external, plan_externals, plan_file}
use Rattle.dae_sizes.specs.Worth.{worth_of_declarations, worth_of_statements, worth_of_external, declares_in, declares_in_specifiers, declares_in_parameters, declares_in_value, declares_in_declarations, declares_in_statements, declares_in_external, IsDefinition}
use Rattle.dae_sizes.specs.Weights.{weight_in}
use Rattle.dae_sizes.specs.Paid.{price}
use Rattle.dae_sizes.specs.Bodies.{PlannedBody, bodies_in, IsPaidBy, ArePaidBy, BodiesPaid}
use Rattle.dae_sizes.proofs.Within.{Grown, Within, none, same, stays, grows, grown_more, fewer, unmeasured, pure_within, maps_stays, maps_reads, chain_within, nothing_within, looks_within, ends_within, settles_within}
use Rattle.dae_sizes.proofs.Weighing.{composite_grown}
use Rattle.dae_sizes.proofs.Steps.{count_name, base_within, node_keeps, maps_keeps}
use Rattle.dae_sizes.proofs.Expressions.{own, inner, own_and_inner, own_is, declarator_within, specifiers_within}
use Rattle.dae_sizes.proofs.Initialisers.{content_within, unused_initialiser_within}
use Rattle.dae_sizes.proofs.Statements.{typedef_within, block_within}
use Rattle.dae_sizes.proofs.ConstantStatements.{others_in, initialises, block_constant}
use Rattle.dae_sizes.proofs.Leads.{leads_both, Come, Leads, leads_pure, leads_maps, leads_node, leads_chain, leads_settled, leads_within, leads_if, leads_after}

-- ---- products

bodies-append : (xs ys : List Product) → bodies_in (xs ++ ys) ≡ bodies_in xs ++ bodies_in ys
bodies-append [] ys = refl
bodies-append (Declares d ∷ xs) ys = bodies-append xs ys
bodies-append (Data o items ∷ xs) ys = bodies-append xs ys
bodies-append (Body f locals storages body ∷ xs) ys = ap (λ (fs : List PlannedBody). record { routine = f; locals = locals; storages = storages; statements = body } ∷ fs) (bodies-append xs ys)

abbrev bodies : List Product → ℕ
bodies xs = length (bodies_in xs)

no_bodies : (fs : List PlannedBody) → length fs ≤ 0 → fs ≡ []
no_bodies [] h = refl
no_bodies (f ∷ fs) h = absurd (omega (arith, h))

-- ---- tables at file scope

retyped_grown : (f t : ℕ) (s : Tables) (r : Option Routine) → Grown 0 s (retyped f t s r)
retyped_grown f t s None = stays 0
retyped_grown f t s (Some r) = grown_more (omega arith) (grows (composite_grown s r.type_id t) (same 0 (composite s r.type_id t).0 (retyped f t s (Some r)) refl refl refl))

declared_function_grown : (n : Option Name) (own' : Bool) (t : ℕ) (e : Option Entity) (s : Tables) → Grown 0 s (declared_function n own' t e s).0
declared_function_grown n o t (Some (entity.Function f)) s = retyped_grown f t s (slice_get s.routines f)
declared_function_grown n o t e s = same 0 s (new_routine n o t s).0 refl refl refl

replaced_grown : (p : Place) (k : Option Keyword) (given : Bool) (o t : ℕ) (s : Tables) (r : Option StaticObject) → Grown 0 s (replaced p k given o t s r)
replaced_grown p k given o t s None = stays 0
replaced_grown p k given o t s (Some r) = grown_more (omega arith) (grows (composite_grown s r.type_id t) (same 0 (composite s r.type_id t).0 (replaced p k given o t s (Some r)) refl refl refl))

declared_object_grown : (p : Place) (n : Option Name) (k : Option Keyword) (given : Bool) (t : ℕ) (e : Option Entity) (s : Tables) → Grown 0 s (declared_object p n k given t e s).0
declared_object_grown p n k given t (Some (entity.Object o)) s = replaced_grown p k given o t s (slice_get s.objects o)
declared_object_grown p n k given t e s = same 0 s (new_object p n k given t s).0 refl refl refl

pub object_type_grown : (o t : ℕ) (s : Tables) (r : Option StaticObject) → Grown 0 s (with_object_type o t s r)
object_type_grown o t s None = stays 0
object_type_grown o t s (Some r) = same 0 s (with_object_type o t s (Some r)) refl refl refl

defined_grown : (r : Option Routine) (s : Tables) (f : ℕ) → Grown 0 s (defined_or r s f)
defined_grown None s f = stays 0
defined_grown (Some r) s f = same 0 s (defined_or (Some r) s f) refl refl refl

define_grown : (f : Option ℕ) (s : Tables) → Grown 0 s (define f s).0
define_grown None s = stays 0
define_grown (Some f) s = defined_grown (slice_get s.routines f) s f

declares_no_object : (p : Place) (r : Role) (o : Option ℕ) → bodies (declares_object p r o) ≤ 0
declares_no_object p r None = omega arith
declares_no_object p r (Some o) = omega arith

declares_no_function : (p : Place) (r : Role) (f : Option ℕ) → bodies_in (declares_function p r f) ≡ []
declares_no_function p r None = refl
declares_no_function p r (Some f) = refl

-- ---- declarations give no bodies

-- ---- what a definition needs

named_by : (z : Place) (o : Option Name) (m : ℕ) (ss : List Site) (s : Tables) (Q : Tables × Unit {0} → Type 0) → count_name o ≡ m → (m ≡ 1 → IfOk {E = Breach} (ask_all ss (Ok (s, tt {0}))) Q) → IfOk {E = Breach} (ask_all (unnamed_site z o ++ ss) (Ok (s, tt {0}))) Q
unfolding ask_all
named_by z None m ss s Q e k = tt
named_by z (Some n) m ss s Q e k = k (sym e)

length_if : (b : Bool) (x y : Storage) (xs ys : List Storage) (n : ℕ) → length xs ≡ n → length ys ≡ n → length (if b then x ∷ xs else y ∷ ys) ≡ suc n
length_if true x y xs ys n h k = ap suc h
length_if false x y xs ys n h k = ap suc k

length-kept : (s : Tables) (v o n : ℕ) (xs : List Local) → length (kept_from s v o n xs) ≡ length xs
length-kept s v o n [] = refl
length-kept s v o n (x ∷ xs) =
    let l = layout_at s x.type_id in
    let at = rounded o l.align in
    let u = if nat_eq n 0 then v else word_for (suc v) in
    length_if (in_variable s x) (storage.Variable v) (storage.Frame at) (kept_from s (word_for (suc v)) o (n - 1) xs) (kept_from s u (min (at + l.size) most_frame) (n - 1) xs) (length xs) (length-kept s (word_for (suc v)) o (n - 1) xs) (length-kept s u (min (at + l.size) most_frame) (n - 1) xs)

-- a definition gives one body, or none
abbrev Part : ℕ → List (List ℕ) → External → List PlannedBody → Type 0
Part c ls x [] = Unit {0}
Part c ls x (f ∷ []) = IsPaidBy c ls x f
Part c ls x (f ∷ g ∷ fs) = ⊥

-- with what other parts of the file give
parts : (c : ℕ) (ls : List (List ℕ)) (x : External) (xs : List External) (fs gs : List PlannedBody) → Part c ls x fs → ArePaidBy c ls xs gs → ArePaidBy c ls (x ∷ xs) (fs ++ gs)
parts c ls x xs [] [] h k = tt
parts c ls x xs [] (g ∷ gs) h k = inr k
parts c ls x xs (f ∷ []) gs h k = inl (h, k)
parts c ls x xs (f ∷ g ∷ fs) gs h k = absurd h

part_if : (b : Bool) (x y : Option Declarator) (n : ℕ) → declares_in_parameters (parameters_in x) ≤ n → declares_in_parameters (parameters_in y) ≤ n → declares_in_parameters (parameters_in (if b then x else y)) ≤ n
part_if true x y n h k = h
part_if false x y n h k = k

parameters_declare : (d : Declarator) → declares_in_parameters (parameters_in (function_part d)) ≤ declares_in d
parameters_declare tree.Absent = omega arith
parameters_declare (tree.Named n) = omega arith
parameters_declare (tree.Pointer p qs d) = parameters_declare d
parameters_declare (tree.Grouped p d) = parameters_declare d
parameters_declare (tree.Unsized d p) = parameters_declare d
parameters_declare (tree.Sized d p e) = let h = parameters_declare d in omega (arith, h)
parameters_declare (tree.Empty d p) = part_if (is_bare d) (Some (tree.Empty d p)) (function_part d) (declares_in d) (omega arith) (parameters_declare d)
parameters_declare (tree.Void d p q) = part_if (is_bare d) (Some (tree.Void d p q)) (function_part d) (declares_in d) (omega arith) (parameters_declare d)
parameters_declare (tree.Function d p ps) =
    let h = parameters_declare d in
    part_if (is_bare d) (Some (tree.Function d p ps)) (function_part d) (declares_in d + declares_in_parameters ps) (omega arith) (omega (arith, h))

module _ (c : ℕ) (low : c ≤ 1) (ls : List (List ℕ)) where
  pub function_at_within : (p : Place) (o given : Bool) (n : Option Name) (t : ℕ) → Within ls none 0 0 (function_at p o given n (pure t))
  function_at_within p o given n t = settles_within n (node_keeps (pure_within t (omega arith)) (λ s x. declared_function_grown n o x (own_of s n) s))

  pub object_at_within : (p : Place) (k : Option Keyword) (given : Bool) (n : Option Name) (t : ℕ) → Within ls none 0 0 (object_at p k given n (pure t))
  object_at_within p k given n t = settles_within n (node_keeps (pure_within t (omega arith)) (λ s x. declared_object_grown p n k given x (own_of s n) s))

  data_within : (p : Place) (x : Option (Place × Initialiser)) (o : Option ℕ) → Within ls bodies (declares_in_value x) 0 (plan_data p x o)
  data_within p None o = pure_within [] (omega arith)
  data_within p (Some x) None = maps_reads (unused_initialiser_within c low ls x.1) (λ s f e l. omega arith)
  data_within p (Some x) (Some o) =
      fewer (omega arith) (chain_within (looks_within {μ = none} {w = 0} (λ s. type_of_object s o) (λ s e. omega arith))
      (λ t l. maps_stays (content_within c low ls p 0 t x.1) (λ s y e l. record { grown = object_type_grown o y.type_id s (slice_get s.objects o); small = omega arith })))

  either_within : (p : Place) (k : Option Keyword) (i : InitDeclarator) (t : ℕ) (b : Bool) → Within ls bodies (declares_in_value i.initialiser) 0 (plan_either p k i t b)
  either_within p k i t true = fewer (omega arith) (maps_reads (function_at_within p _ _ (declared_name i.declarator) t) (λ s f e l. let h = ap length (declares_no_function p Reference f) in omega (arith, h)))
  either_within p k i t false =
      fewer (omega arith) (chain_within (object_at_within p k (is_some i.initialiser) (declared_name i.declarator) t) (λ o l. maps_reads (data_within p i.initialiser o) (λ s xs e l.
      let r = role_of (is_some i.initialiser) (not (is_extern k)) in
      let g = ap length (bodies-append (declares_object p r o) xs) in
      let j = length-append (bodies_in (declares_object p r o)) (bodies_in xs) in
      let h = declares_no_object p r o in omega (arith, l, g, j, h))))

  typed_within : (p : Place) (k : Option Keyword) (i : InitDeclarator) (t : Option ℕ) → Within ls bodies (declares_in_value i.initialiser) 0 (plan_typed p k i t)
  typed_within p k i None = data_within p i.initialiser None
  typed_within p k i (Some t) = fewer (omega arith) (chain_within (looks_within {μ = none} {w = 0} (λ s. is_function (shape_of s t)) (λ s e. omega arith)) (λ b l. either_within p k i t b))

  item_within : (is_typedef : Bool) (p : Place) (k : Option Keyword) (b : ℕ) (i : InitDeclarator) → Within ls bodies (inner i.declarator + declares_in_value i.initialiser) 0 (plan_item_at is_typedef p k b i)
  item_within true p k b i = fewer (omega arith) (maps_reads (typedef_within c low ls p false (is_some i.initialiser) (declared_name i.declarator) (declarator_within c low ls p false b i.declarator)) (λ s x e l. omega arith))
  item_within false p k b i =
      chain_within (settles_within (declared_name i.declarator) (maps_keeps (unmeasured (declarator_within c low ls p false b i.declarator)) (λ s x. stays 0))) (λ t l. typed_within p k i t)

  -- nothing is known
  abbrev Any : Tables → Type 0
  Any s = Unit {0}

  abbrev Same : List Product → Tables → List Product → Type 0
  Same done s xs = bodies_in xs ≡ bodies_in done

  items_lead : (is_typedef : Bool) (q : Place) (k : Option Keyword) (b : ℕ) (done : List Product) (items : List InitDeclarator) → Leads ls Any (Same done) (plan_items is_typedef q k b done items)
  items_lead is_typedef q k b done [] = leads_pure done (λ s h. refl)
  items_lead is_typedef q k b done (i ∷ items) =
      leads_chain {Between = Same done}
      (leads_maps {Between = λ s xs. bodies_in xs ≡ []} (leads_within (item_within is_typedef (declared_place i.declarator q) k b i) (λ s t x h g l. no_bodies (bodies_in x) l))
      (λ s xs e h. record { literals = e; so = bodies-append done xs ∙ ap (λ fs. bodies_in done ++ fs) h ∙ append-nil (bodies_in done) }))
      (λ more. leads_if (λ h. leads_after (λ s xs j. j ∙ h) (items_lead is_typedef q k b more items)))

  declared_leads : (done : List Product) (d : Declaration) → Leads ls Any (Same done) (plan_declared done d)
  declared_leads done d =
      leads_chain {Between = λ s x. Unit {0}} (leads_within (base_within d.specifiers (specifiers_within c low ls context.File (is_alone d.items) None d.specifiers)) (λ s t x h g l. tt))
      (λ b. items_lead (has_typedef d.specifiers) (place_of_specifiers d.specifiers d.end) (storage_of d.specifiers) b done d.items)

  -- ---- a definition

  abbrev Few : ℕ → Tables → Type 0
  Few k s = length s.locals ≤ k

  -- each parameter of a definition has a name, or a rule is broken
  named_asked : (q : Place) (ps : Parameters) (s : Tables) (Q : Tables × Unit {0} → Type 0) → (count_parameters ps ≤ declares_in_parameters ps → Q (s, tt {0})) → IfOk {E = Breach} (ask_all (unnamed_sites q ps) (Ok (s, tt {0}))) Q
  unfolding ask_all
  named_asked q tree.no_parameters s Q h = h (omega arith)
  named_asked q (tree.parameter_then ws d ps) s Q h = named_by (place_of_specifiers ws q) (declared_name d) (own d) (unnamed_sites q ps) s Q (own_is d) (λ e. named_asked q ps s Q (λ j. h (let g = own_and_inner d in omega (arith, e, j, g))))

  named_leads : (k : ℕ) (p : Place) (ps : Parameters) → Leads ls (Few k) (λ s x. Few k s × (count_parameters ps ≤ declares_in_parameters ps)) (named_at p ps)
  named_leads k p ps = record { leads = λ s e b. named_asked p ps s (Come ls (λ s x. Few k s × (count_parameters ps ≤ declares_in_parameters ps))) (λ h. record { literals = e; so = (b, h) }) }

  pub first_within : {n w : ℕ} {μ : program.Statements → ℕ} {m : CheckPlan program.Statements} (k : ℕ) → Within ls μ n w m → Within ls none n 0 (first_time k m)
  first_within k h =
      fewer (omega arith) (chain_within {μ = none} {w = 0} (maps_keeps nothing_within (λ s x. same 0 s (reopened s) refl refl refl))
      (λ outer l. maps_reads (ends_within (closed outer) (λ s. same 0 s (closed outer s) refl refl refl) h) (λ s x e l. omega arith)))

  pub in_body_within : {n w : ℕ} {μ : program.Statements → ℕ} {m : CheckPlan program.Statements} → Within ls μ n w m → Within ls μ n w (in_body m)
  in_body_within h =
      fewer (omega arith) (chain_within {μ = none} {w = 0} (maps_keeps nothing_within (λ s x. same 0 s (reopened s) refl refl refl))
      (λ outer l. ends_within (closed outer) (λ s. same 0 s (closed outer s) refl refl refl) h))

  -- parameters and locals are settled between the two times
  settled_come : (n k m : ℕ) (olds : List Tables) (s : Tables) → s.literals ≡ ls → Few k s → n ≤ m → Come ls (λ t (u : Unit {0}). Few m t × (length t.storages ≤ k)) (settled_locals n (elim olds [ [] ↦ s | old ∷ rest ↦ keep_scope old s ]), tt {0})
  settled_come n k m [] s e b l = record { literals = e; so = (let h = length-take n s.locals in omega (arith, h, l), let h = length-kept s 1 0 n s.locals in omega (arith, h, b)) }
  settled_come n k m (old ∷ rest) s e b l = record { literals = e; so = (let h = length-take n s.locals in omega (arith, h, l), let h = length-kept (keep_scope old s) 1 0 n s.locals in omega (arith, h, b)) }

  made_part : (x : External) → IsDefinition x → (f : Option ℕ) (s : Tables) (y : program.Statements) → length s.locals ≤ declares_in_external x → length s.storages ≤ declares_in_external x → 8 + weight_in c y ≤ worth_of_external (price c ls) x → others_in y ≤ 0 →
      Part c ls x (bodies_in (elim f [ None ↦ [] | Some g ↦ body_product g s y ]))
  made_part x is None s y l k w z = tt
  made_part x is (Some g) s y l k w z = record { definition = is; locals = l; storages = k; weight = w; constants = initialises y z }

  module _ {b w : ℕ} {m : CheckPlan program.Statements} (x : External) (is : IsDefinition x) (f : Option ℕ) (block : Within ls (weight_in c) b w m) (constant : Within ls others_in b 0 m) (enough : 8 + w ≤ worth_of_external (price c ls) x) (n k most : ℕ) (first : k + b ≤ declares_in_external x) (again : most + b ≤ declares_in_external x) where
    second_leads : Leads ls (λ s. Few most s × (length s.storages ≤ k + b)) (λ s r. Part c ls x (bodies_in r)) (second_time f m)
    second_leads =
        leads_maps {Between = λ s y. (Few (most + b) s × (length s.storages ≤ k + b) × (weight_in c y ≤ w)) × (others_in y ≤ 0)}
        (leads_both {After = λ s y. Few (most + b) s × (length s.storages ≤ k + b) × (weight_in c y ≤ w)} {Also = λ s y. others_in y ≤ 0}
        (leads_within (in_body_within block) (λ s t y h g l. (let i = h.0 in omega (arith, i, g.locals), let i = h.1 in let j = ap length g.storages in omega (arith, i, j), l)))
        (leads_within (in_body_within constant) (λ s t y h g l. l)))
        (λ s y e h. record { literals = e; so = made_part x is f s y (let i = h.0 in let j = i.0 in omega (arith, j, again)) (let i = h.0 in let j = i.1 in omega (arith, j, first)) (let i = h.0 in let j = i.2 in omega (arith, j, enough)) h.1 })

    twice_leads : Leads ls (λ s. Few k s × (n ≤ most)) (λ s r. Part c ls x (bodies_in r)) (twice n f m)
    twice_leads =
        leads_chain {Between = λ s olds. Few k s × (n ≤ most)} (leads_maps {Between = λ s u. Few k s × (n ≤ most)} (leads_pure (tt {0}) (λ s h. h)) (λ s u e h. record { literals = e; so = h }))
        (λ olds. leads_chain {Between = λ s u. Few (k + b) s × (n ≤ most)} (leads_within (first_within n block) (λ s t u h g l. (let i = h.0 in omega (arith, i, g.locals), h.1)))
        (λ u. leads_chain {Between = λ s u. Few most s × (length s.storages ≤ k + b)}
        (leads_maps {Between = λ s u. Few (k + b) s × (n ≤ most)} (leads_pure (tt {0}) (λ s h. h)) (λ s u e h. settled_come n (k + b) most olds s e h.0 h.1))
        (λ u. second_leads)))

  body_leads : (x : External) → IsDefinition x → (p : Place) (name : Option Name) (ps : Parameters) (ds : List Declaration) (ss : Statements) (t f : Option ℕ) (k : ℕ) → 8 + (worth_of_declarations (price c ls) ds + worth_of_statements (price c ls) ss) ≤ worth_of_external (price c ls) x →
      k + (declares_in_declarations ds + declares_in_statements ss) ≤ declares_in_external x → declares_in_parameters ps + (declares_in_declarations ds + declares_in_statements ss) ≤ declares_in_external x →
      Leads ls (Few k) (λ s r. Part c ls x (bodies_in r)) (plan_body_of p name ps ds ss t f)
  body_leads x is p name ps ds ss t f k enough first again =
      leads_chain {Between = λ s u. Few k s × (count_parameters ps ≤ declares_in_parameters ps)} (named_leads k p ps)
      (λ u. leads_chain {Between = λ s u. Few k s × (count_parameters ps ≤ declares_in_parameters ps)} (leads_maps {Between = λ s u. Few k s × (count_parameters ps ≤ declares_in_parameters ps)} (leads_pure (tt {0}) (λ s h. h)) (λ s u e h. record { literals = e; so = h }))
      (λ round. twice_leads x is f (block_within c low ls round ds ss) (block_constant ls round ds ss) enough (count_parameters ps) k (declares_in_parameters ps) first again))

  pub second_at_within : (p : Place) {m : CheckPlan (Option ℕ)} → Within ls none 0 0 m → Within ls none 0 0 (second_at p m)
  second_at_within p h = node_keeps h (λ s f. define_grown f s)

  behind_declared : (x : External) (p : Place) (f : Option ℕ) (xs : List Product) → Part c ls x (bodies_in xs) → Part c ls x (bodies_in (declares_function p Definition f ++ xs))
  behind_declared x p None xs h = h
  behind_declared x p (Some f) xs h = h

  defined_as_leads : (x : External) → IsDefinition x → (p : Place) (word : Option Keyword) (name : Option Name) (ps : Parameters) (ds : List Declaration) (ss : Statements) (t : Option ℕ) (k : ℕ) → 8 + (worth_of_declarations (price c ls) ds + worth_of_statements (price c ls) ss) ≤ worth_of_external (price c ls) x →
      k + (declares_in_declarations ds + declares_in_statements ss) ≤ declares_in_external x → declares_in_parameters ps + (declares_in_declarations ds + declares_in_statements ss) ≤ declares_in_external x →
      Leads ls (Few k) (λ s r. Part c ls x (bodies_in r)) (plan_defined_as p word name ps ds ss t)
  defined_as_leads x is p word name ps ds ss None k enough first again = body_leads x is p name ps ds ss None None k enough first again
  defined_as_leads x is p word name ps ds ss (Some t) k enough first again =
      leads_chain {Between = λ s f. Few k s} (leads_within (second_at_within p (function_at_within p (is_static word) false name t)) (λ s u f h g l. omega (arith, h, g.locals)))
      (λ f. leads_maps {Between = λ s r. Part c ls x (bodies_in r)} (body_leads x is p name ps ds ss (Some t) f k enough first again) (λ s xs e h. record { literals = e; so = behind_declared x p f xs h }))

  -- ---- files

  pub definition_at_within : {n w : ℕ} {μ : NamedType → ℕ} {m : CheckPlan NamedType} (p : Place) (is_typedef direct : Bool) → Within ls μ n w m → Within ls none n 0 (some_of (definition_at p is_typedef direct m))
  definition_at_within p is_typedef direct h = maps_keeps (node_keeps (unmeasured h) (λ s x. stays 0)) (λ s x. stays 0)

  -- what stands behind what is done
  abbrev Behind : External → List Product → Tables → List Product → Type 0
  Behind x done s r = (fs : List PlannedBody) × (bodies_in r ≡ bodies_in done ++ fs) × Part c ls x fs

  defined_leads : (done : List Product) (ws : Specifiers) (d : Declarator) (q : Place) (ds : List Declaration) (ss : Statements) → Leads ls Any (Behind (tree.Defined ws d q ds ss) done) (plan_defined done ws d q ds ss)
  defined_leads done ws d q ds ss =
      let x = tree.Defined ws d q ds ss in
      let p = declared_place d (place_of_specifiers ws q) in
      let name = declared_name d in
      let some = own_and_inner d in
      let less = parameters_declare d in
      leads_maps {Between = λ s r. Part c ls x (bodies_in r)}
      (leads_chain {Between = λ s u. Few 0 s} (leads_maps {Between = λ s u. Unit {0}} (leads_pure (tt {0}) (λ s h. tt)) (λ s u e h. record { literals = e; so = omega arith }))
      (λ u. leads_chain {Between = λ s b. Few (declares_in_specifiers ws) s} (leads_within (base_within ws (specifiers_within c low ls context.File false None ws)) (λ s t b h g l. omega (arith, h, g.locals)))
      (λ b. leads_chain {Between = λ s t. Few (declares_in_specifiers ws + inner d) s}
      (leads_settled name (leads_within (definition_at_within p (has_typedef ws) (is_direct d) (declarator_within c low ls p false b d)) (λ s u t h g l. omega (arith, h, g.locals))))
      (λ t. defined_as_leads x tt p (storage_of ws) name (parameters_in (function_part d)) ds ss t (declares_in_specifiers ws + inner d) (omega arith) (omega (arith, some)) (omega (arith, less))))))
      (λ s xs e h. record { literals = e; so = (bodies_in xs, bodies-append done xs, h) })

  external_leads : (done : List Product) (x : External) → Leads ls Any (Behind x done) (plan_external done x)
  external_leads done (tree.Declared d) = leads_after (λ s r h. ([], h ∙ sym (append-nil (bodies_in done)), tt)) (declared_leads done d)
  external_leads done (tree.Defined ws d q ds ss) = defined_leads done ws d q ds ss

  abbrev AllBehind : List External → List Product → Tables → List Product → Type 0
  AllBehind xs done s r = (fs : List PlannedBody) × (bodies_in r ≡ bodies_in done ++ fs) × ArePaidBy c ls xs fs

  externals_lead : (done : List Product) (xs : List External) → Leads ls Any (AllBehind xs done) (plan_externals done xs)
  externals_lead done [] = leads_pure done (λ s h. ([], sym (append-nil (bodies_in done)), tt))
  externals_lead done (x ∷ xs) =
      leads_chain {Between = Behind x done} (external_leads done x)
      (λ more. leads_if (λ h. leads_after (λ s r g. (h.0 ++ g.0, g.1 ∙ (ap (λ fs. fs ++ g.0) h.1 ∙ append_assoc (bodies_in done) h.0 g.0), parts c ls x xs h.0 g.0 h.2 g.2)) (externals_lead more xs)))

  pub file_leads : (xs : List External) → Leads ls Any (λ s r. ArePaidBy c ls xs (bodies_in r)) (plan_file xs)
  file_leads xs = leads_node {Between = AllBehind xs []} (externals_lead [] xs) (λ s r e h. record { literals = e; so = subst (ArePaidBy c ls xs) (sym h.1) h.2 })

pub bodies_paid : BodiesPaid
bodies_paid c xs s t products low h = (IfOk-at_ok (Come s.literals (λ u r. ArePaidBy c s.literals xs (bodies_in r))) h ((file_leads c low s.literals xs).leads s refl tt)).so

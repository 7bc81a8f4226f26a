-- The aggregates of a function get numbers and addresses of objects with static storage: by induction over the plans of
-- statements, with the measure of the items that are neither.
use Rattle.std.proofs.Common.{◌≡◌, ℕ, ◌+◌, ◌≤◌, Bool, true, false, List, [], ◌∷◌, ◌++◌, Option, Some, None, if◌then◌else◌, inl, inr, refl, arith}
use Rattle.std.specs.Prelude.{slice_get, is_some}
use Rattle.dae_base.specs.declared.Place.{Place}
use Rattle.dae_tree.specs.Trees as tree
use Rattle.dae_tree.specs.Trees.{Expression, Expressions, Initialiser, InitDeclarator, Declaration, Statement, Statements}
use Rattle.dae_tree.specs.Depth.{place_of, place_of_specifiers}
use Rattle.dae_tree.specs.Names.{declared_name, has_typedef}
use Rattle.dae_program.specs.Trees as program
use Rattle.dae_types_kinds.specs.declared.tables.Context.TheVariants as context
use Rattle.dae_types_kinds.specs.Tables.{Tables}
use Rattle.dae_types_kinds.specs.Types.{shape_of, is_scalar}
use Rattle.dae_types_kinds.specs.Values.{Typed, converted}
use Rattle.dae_types_rules.specs.Plan.{CheckPlan}
use Rattle.dae_types_plans.specs.Steps.{declared_place}
use Rattle.dae_types_file_plans.specs.declared.surroundings.Surrounding.{Surrounding}
use Rattle.dae_types_file_plans.specs.Initialisers.{Content}
use Rattle.dae_types_file_plans.specs.Statements.{behind_all, appended, type_of_local, offset_of_local, set_to, own_set, names_stored, scalar_value_at, plan_scalar, plan_first_scalar, initialised_at, plan_given, plan_local, plan_item_at, plan_items, is_alone, plan_declaration, plan_declarations, in_loop, in_switch, returned, nothing_returned, as_result, plan_return, is_printf_name, callee_name, arguments_of, plan_evaluation, plan_evaluate, Armed, arms_of, is_done, with_label, with_statement, Arming, case_at, default_at, label_at, started, starting_place, plan_statement, plan_statements, plan_body, plan_arms, plan_labelled, plan_block}
use Rattle.dae_sizes.specs.Worth.{declares, declares_in_all, declares_in, declares_in_specifiers, declares_in_initialiser, declares_in_initialisers, declares_in_value, declares_in_items, declares_in_declarations, declares_in_optional, declares_in_statement, declares_in_statements}
use Rattle.dae_sizes.proofs.Within.{Within, none, stays, fewer, unmeasured, pure_within, node_stays, node_reads, maps_reads, maps_stays, asks_within, both_within, chain_within, nothing_within, looks_within, scoped_within}
use Rattle.dae_sizes.proofs.Weighing.{cost}
use Rattle.dae_sizes.proofs.Steps.{base_within, constant_within, node_keeps}
use Rattle.dae_sizes.proofs.Expressions.{own_and_inner, own_is, value_of_within, specifiers_within, declarator_within}
use Rattle.dae_sizes.proofs.Initialisers.{unused_initialiser_within}
use Rattle.dae_sizes.proofs.Printing.{arguments_declare, format_within, printed_within}
use Rattle.dae_types_plans.specs.Steps.{count_of}
use Rattle.dae_types_file_plans.specs.Initialisers.{literal_in}
use Rattle.dae_types_file_plans.specs.Formats.{letters}
use Rattle.dae_types_file_plans.specs.Statements.{plan_printf}
use Rattle.dae_sizes.proofs.Statements.{type_grown, typedef_within, local_within, condition_of_within, optional_within, test_within}
use Rattle.dae_lower_bounds.specs.Constants.{IsConstant, AreConstant, InitialisesConstants, ArmsInitialiseConstants}
use Rattle.dae_sizes.proofs.Constants.{other, others, held, content_constant}

-- those of all statements
abbrev mutual
  pub others_in : program.Statements → ℕ
  others_in program.Done = 0
  others_in (program.Evaluate p e k) = others_in k
  others_in (program.Initialise p offset size items k) = others items + others_in k
  others_in (program.Print p xs pieces k) = others_in k
  others_in (program.If p e t u k) = others_in t + (others_in u + others_in k)
  others_in (program.Loop p test body step k) = others_in body + others_in k
  others_in (program.Do p body test k) = others_in body + others_in k
  others_in (program.Switch p e arms k) = others_in_arms arms + others_in k
  others_in (program.Break p k) = others_in k
  others_in (program.Continue p k) = others_in k
  others_in (program.Return p e k) = others_in k

  pub others_in_arms : program.Arms → ℕ
  others_in_arms program.no_arms = 0
  others_in_arms (program.arm_then labels t rest) = others_in t + others_in_arms rest

others-behind : (a b : program.Statements) → others_in (behind_all a b) ≡ others_in a + others_in b
others-behind program.Done b = omega arith
others-behind (program.Evaluate p e k) b = let h = others-behind k b in omega (arith, h)
others-behind (program.Initialise p o size items k) b = let h = others-behind k b in omega (arith, h)
others-behind (program.Print p es pieces k) b = let h = others-behind k b in omega (arith, h)
others-behind (program.If p e s t k) b = let h = others-behind k b in omega (arith, h)
others-behind (program.Loop p e body step k) b = let h = others-behind k b in omega (arith, h)
others-behind (program.Do p body e k) b = let h = others-behind k b in omega (arith, h)
others-behind (program.Switch p e arms k) b = let h = others-behind k b in omega (arith, h)
others-behind (program.Break p k) b = let h = others-behind k b in omega (arith, h)
others-behind (program.Continue p k) b = let h = others-behind k b in omega (arith, h)
others-behind (program.Return p e k) b = let h = others-behind k b in omega (arith, h)

-- ---- where there are none, all are constants

is_constant : (e : program.Expression) → other e ≤ 0 → IsConstant e
is_constant (program.Number k) h = inl (k, refl)
is_constant (program.Address o k) h = inr (o, k, refl)
is_constant e h = absurd (omega (arith, h))

are_constant : (xs : List program.Setting) → others xs ≤ 0 → AreConstant xs
are_constant [] h = tt
are_constant (x ∷ xs) h = (is_constant x.value (omega (arith, h)), are_constant xs (omega (arith, h)))

mutual
  pub initialises : (t : program.Statements) → others_in t ≤ 0 → InitialisesConstants t
  initialises program.Done h = tt
  initialises (program.Evaluate p e k) h = initialises k h
  initialises (program.Initialise p offset size items k) h = (are_constant items (omega (arith, h)), initialises k (omega (arith, h)))
  initialises (program.Print p xs pieces k) h = initialises k h
  initialises (program.If p e t u k) h = (initialises t (omega (arith, h)), initialises u (omega (arith, h)), initialises k (omega (arith, h)))
  initialises (program.Loop p test body step k) h = (initialises body (omega (arith, h)), initialises k (omega (arith, h)))
  initialises (program.Do p body test k) h = (initialises body (omega (arith, h)), initialises k (omega (arith, h)))
  initialises (program.Switch p e arms k) h = (arms_initialise arms (omega (arith, h)), initialises k (omega (arith, h)))
  initialises (program.Break p k) h = initialises k h
  initialises (program.Continue p k) h = initialises k h
  initialises (program.Return p e k) h = initialises k h

  arms_initialise : (arms : program.Arms) → others_in_arms arms ≤ 0 → ArmsInitialiseConstants arms
  arms_initialise program.no_arms h = tt
  arms_initialise (program.arm_then labels t rest) h = (initialises t (omega (arith, h)), arms_initialise rest (omega (arith, h)))

-- ---- the parts of a switch

abbrev armed : List Armed → ℕ
armed arms = others_in_arms (arms_of arms)

abbrev arming : Arming → ℕ
arming a = armed a.arms

armed_if : (b : Bool) (n : ℕ) (x y : List Armed) → armed x ≤ n → armed y ≤ n → armed (if b then x else y) ≤ n
armed_if true n x y h k = h
armed_if false n x y h k = k

label_adds_none : (l : Option ℕ) (arms : List Armed) → armed (with_label l arms) ≤ armed arms
label_adds_none l [] = omega arith
label_adds_none l (a ∷ []) =
    armed_if (is_done a.statements) (armed (a ∷ [])) (record a { labels = a.labels ++ (l ∷ []) } ∷ []) (a ∷ record { labels = l ∷ []; statements = program.Done } ∷ []) (omega arith) (omega arith)
label_adds_none l (a ∷ b ∷ rest) = let h = label_adds_none l (b ∷ rest) in omega (arith, h)

statement_adds : (x : program.Statements) (arms : List Armed) → armed (with_statement x arms) ≤ others_in x + armed arms
statement_adds x [] = omega arith
statement_adds x (a ∷ []) = let h = others-behind a.statements x in omega (arith, h)
statement_adds x (a ∷ b ∷ rest) = let h = statement_adds x (b ∷ rest) in omega (arith, h)

module _ (ls : List (List ℕ)) where
  low : 0 ≤ 1
  low = omega arith

  -- statements that give no item but constants
  abbrev Constant : ℕ → CheckPlan program.Statements → Type 0
  Constant n m = Within ls others_in n 0 m

  appended_constant : {n : ℕ} {m : CheckPlan program.Statements} (done : program.Statements) → others_in done ≤ 0 → Constant n m → Constant n (appended done m)
  appended_constant done z h = maps_reads h (λ s x e l. let g = others-behind done x in omega (arith, l, g, z))

  -- ---- local declarations

  own_constant : (b : Bool) (p : Place) (s : Tables) (k : ℕ) (e : program.Expression) → others_in (own_set b p s k e) ≤ 0
  own_constant true p s k e = omega arith
  own_constant false p s k e = omega arith

  scalar_value_constant : {n w : ℕ} {m : CheckPlan Typed} (p q : Place) (k : ℕ) → Within ls (cost 0 2) n w m → Constant n (scalar_value_at p q k m)
  scalar_value_constant p q k h = node_stays h (λ s x e l. record {
    grown = stays 0;
    small = own_constant (names_stored (slice_get s.storages k) (converted q s x (type_of_local s k)).tree) p s k (converted q s x (type_of_local s k)).tree;
  })

  mutual
    scalar_constant : (p : Place) (k : ℕ) (x : Initialiser) → Constant (declares_in_initialiser x) (plan_scalar p k x)
    scalar_constant p k (tree.Value e) = scalar_value_constant p (place_of e) k (value_of_within 0 low ls e)
    scalar_constant p k (tree.Listed q js comma) = fewer (omega arith) (chain_within (node_keeps nothing_within (λ s x. stays 0)) (λ x l. first_scalar_constant p k js))

    first_scalar_constant : (p : Place) (k : ℕ) (xs : tree.Initialisers) → Constant (declares_in_initialisers xs) (plan_first_scalar p k xs)
    first_scalar_constant p k tree.no_initialisers = pure_within program.Done (omega arith)
    first_scalar_constant p k (tree.initialiser_then x xs) = fewer (omega arith) (scalar_constant p k x)

  initialised_constant : {n : ℕ} {m : CheckPlan Content} (p : Place) (k : ℕ) → Within ls held n 0 m → Constant n (initialised_at p k m)
  initialised_constant p k h = maps_stays h (λ s x e l. record { grown = type_grown k x.type_id s; small = omega (arith, l) })

  begun_constant : (b : Bool) (p : Place) (s : Tables) (k : ℕ) → others_in (if b then set_to p s k (program.Number 0) else program.Done) ≤ 0
  begun_constant true p s k = omega arith
  begun_constant false p s k = omega arith

  given_constant : (p : Place) (k : ℕ) (x : Initialiser) (b : Bool) → Constant (declares_in_initialiser x) (plan_given p k x b)
  given_constant p k x true = scalar_constant p k x
  given_constant p k x false =
      fewer (omega arith) (chain_within (looks_within {μ = none} {w = 0} (λ s. type_of_local s k) (λ s e. omega arith)) (λ t l.
      chain_within (looks_within {μ = none} {w = 0} (λ s. offset_of_local s k) (λ s e. omega arith)) (λ o l. initialised_constant p k (content_constant ls p o t x))))

  local_constant : (p : Place) (x : Option (Place × Initialiser)) (k : Option ℕ) → Constant (declares_in_value x) (plan_local p x k)
  local_constant p None None = pure_within program.Done (omega arith)
  local_constant p None (Some k) = looks_within _ (λ s e. begun_constant (is_scalar (shape_of s (type_of_local s k))) p s k)
  local_constant p (Some x) None = maps_reads (unused_initialiser_within 0 low ls x.1) (λ s f e l. omega arith)
  local_constant p (Some x) (Some k) = fewer (omega arith) (chain_within (looks_within {μ = none} {w = 0} (λ s. is_scalar (shape_of s (type_of_local s k))) (λ s e. omega arith)) (λ b l. given_constant p k x.1 b))

  item_constant : (is_typedef : Bool) (p : Place) (b : ℕ) (i : InitDeclarator) → Constant (declares_in i.declarator + declares_in_value i.initialiser) (plan_item_at is_typedef p b i)
  item_constant true p b i =
      let h = own_and_inner i.declarator in
      fewer (omega (arith, h)) (maps_reads (typedef_within 0 low ls p true (is_some i.initialiser) (declared_name i.declarator) (declarator_within 0 low ls p false b i.declarator)) (λ s x e l. omega arith))
  item_constant false p b i =
      let h = own_and_inner i.declarator in
      let g = own_is i.declarator in
      fewer (omega (arith, h, g)) (chain_within (local_within 0 low ls p (is_some i.initialiser) (declared_name i.declarator) (declarator_within 0 low ls p false b i.declarator)) (λ k l. local_constant p i.initialiser k))

  items_constant : (q : Place) (is_typedef : Bool) (b : ℕ) (done : program.Statements) (items : List InitDeclarator) → others_in done ≤ 0 → Constant (declares_in_items items) (plan_items q is_typedef b done items)
  items_constant q is_typedef b done [] z = pure_within done z
  items_constant q is_typedef b done (i ∷ items) z =
      fewer (omega arith) (chain_within (appended_constant done z (item_constant is_typedef (declared_place i.declarator q) b i)) (λ more l. items_constant q is_typedef b more items l))

  declaration_constant : (done : program.Statements) (d : Declaration) → others_in done ≤ 0 → Constant (declares_in_specifiers d.specifiers + declares_in_items d.items) (plan_declaration done d)
  declaration_constant done d z =
      chain_within (base_within d.specifiers (specifiers_within 0 low ls context.Block (is_alone d.items) None d.specifiers)) (λ b l. items_constant (place_of_specifiers d.specifiers d.end) (has_typedef d.specifiers) b done d.items z)

  declarations_constant : (done : program.Statements) (ds : List Declaration) → others_in done ≤ 0 → Constant (declares_in_declarations ds) (plan_declarations done ds)
  declarations_constant done [] z = pure_within done z
  declarations_constant done (d ∷ ds) z = fewer (omega arith) (chain_within (declaration_constant done d z) (λ more l. declarations_constant more ds l))

  -- ---- returns and evaluations

  returned_constant : (p : Place) (b : Bool) (e : program.Expression) → others_in (returned p b e) ≤ 0
  returned_constant p true e = omega arith
  returned_constant p false e = omega arith

  nothing_constant : (p : Place) (b : Bool) → others_in (nothing_returned p b) ≤ 0
  nothing_constant p true = omega arith
  nothing_constant p false = omega arith

  return_constant : (p : Place) (k : Surrounding) (e : Option Expression) → Constant (declares_in_optional e) (plan_return p k e)
  return_constant p k None = pure_within _ (nothing_constant p k.is_main)
  return_constant p k (Some e) = node_reads (value_of_within 0 low ls e) (λ s x q l. returned_constant p k.is_main (as_result p s k.result x))

  printf_constant : (p : Place) (es : Expressions) → Constant (declares_in_all es) (plan_printf p es)
  printf_constant p tree.no_expressions = asks_within (pure_within program.Done (omega arith))
  printf_constant p (tree.expression_then e es) =
      fewer (omega arith) (chain_within (format_within 0 low ls (place_of e) (literal_in e) (count_of es))
      (λ ps l. maps_reads (printed_within 0 low ls (letters ps) 0 [] es) (λ s xs q k. omega arith)))

  evaluation_constant : (e : Expression) (b : Bool) → Constant (declares e) (plan_evaluation e b)
  evaluation_constant e true = fewer (arguments_declare e) (printf_constant (place_of e) (arguments_of e))
  evaluation_constant e false = maps_reads (value_of_within 0 low ls e) (λ s x q l. omega arith)

  evaluate_constant : (e : Expression) → Constant (declares e) (plan_evaluate e)
  evaluate_constant e = fewer (omega arith) (chain_within (looks_within {μ = none} {w = 0} (λ s. is_printf_name s (callee_name e)) (λ s q. omega arith)) (λ b l. evaluation_constant e b))

  started_constant : (p : Place) (e : Option program.Expression) (x : program.Statements) → others_in (started p e x) ≤ others_in x
  started_constant p None x = omega arith
  started_constant p (Some e) x = omega arith

  case_constant : (p : Place) (a : Arming) (e : Expression) → Within ls arming (declares e) (arming a) (case_at p a (label_at e))
  case_constant p a e = node_reads (constant_within (place_of e) (value_of_within 0 low ls e)) (λ s w q l. label_adds_none (Some w) a.arms)

  default_constant : (p : Place) (a : Arming) → Within ls arming 0 (arming a) (default_at p a)
  default_constant p a = node_reads nothing_within (λ s x q l. label_adds_none None a.arms)

  -- ---- statements. A type that nothing needs makes the lemmas' types alike.

  mutual
    statement_at : (k : Surrounding) (t : Statement) (X : Type 0) → Constant (declares_in_statement t) (plan_statement k t)
    statement_at k (tree.Block p ds ss) X =
        scoped_within (fewer (omega arith) (chain_within (declarations_constant program.Done ds (omega arith)) (λ done l. statements_at k done ss l X)))
    statement_at k (tree.Nothing p) X = pure_within program.Done (omega arith)
    statement_at k (tree.Evaluate e p) X = evaluate_constant e
    statement_at k (tree.If p q e t) X = maps_reads (both_within (unmeasured (condition_of_within 0 low ls e)) (statement_at k t X)) (λ s x q l. omega (arith, l))
    statement_at k (tree.IfElse p q e t u) X = maps_reads (both_within (unmeasured (condition_of_within 0 low ls e)) (both_within (statement_at k t X) (statement_at k u X))) (λ s x q l. omega (arith, l))
    statement_at k (tree.While p q e t) X = maps_reads (both_within (unmeasured (condition_of_within 0 low ls e)) (statement_at (in_loop k) t X)) (λ s x q l. omega (arith, l))
    statement_at k (tree.Do p t q r e u) X = maps_reads (both_within (statement_at (in_loop k) t X) (unmeasured (condition_of_within 0 low ls e))) (λ s x q l. omega (arith, l))
    statement_at k (tree.For p q a r b u d t) X =
        maps_reads (both_within (unmeasured (optional_within 0 low ls a)) (both_within (unmeasured (test_within 0 low ls b)) (both_within (unmeasured (optional_within 0 low ls d)) (statement_at (in_loop k) t X))))
        (λ s x q l. let h = started_constant (starting_place p a) x.0 (program.Loop p x.1.0 x.1.1.1 x.1.1.0 program.Done) in omega (arith, l, h))
    statement_at k (tree.Break p q) X = asks_within (pure_within _ (omega arith))
    statement_at k (tree.Continue p q) X = asks_within (pure_within _ (omega arith))
    statement_at k (tree.Return p e q) X = return_constant p k e
    statement_at k (tree.Switch p q e t) X =
        maps_reads (both_within (unmeasured (asks_within (value_of_within 0 low ls e))) (body_at (in_switch k) t (plan_statement (in_switch k) t) (statement_at (in_switch k) t X))) (λ s x q l. omega (arith, l))
    statement_at k (tree.Case p e t) X =
        fewer (omega arith) (chain_within (chain_within (asks_within nothing_within) (λ x l. constant_within (place_of e) (value_of_within 0 low ls e))) (λ w l. statement_at k t X))
    statement_at k (tree.Default p t) X = fewer (omega arith) (chain_within (asks_within nothing_within) (λ x l. statement_at k t X))

    statements_at : (k : Surrounding) (done : program.Statements) (ts : Statements) → others_in done ≤ 0 → (X : Type 0) → Constant (declares_in_statements ts) (plan_statements k done ts)
    statements_at k done tree.no_statements z X = pure_within done z
    statements_at k done (tree.statement_then t ts) z X = chain_within (appended_constant done z (statement_at k t X)) (λ more l. statements_at k more ts l X)

    body_at : (k : Surrounding) (t : Statement) (m : CheckPlan program.Statements) → Constant (declares_in_statement t) m → Within ls armed (declares_in_statement t) 0 (plan_body k t m)
    body_at k (tree.Block p ds ss) m h =
        scoped_within (fewer (omega arith) (chain_within (node_keeps nothing_within (λ s x. stays 0)) (λ x l. chain_within (declarations_constant program.Done ds (omega arith)) (λ y l. arms_at k (record { seen = []; arms = [] }) ss (omega arith) (Unit {0})))))
    body_at k t m h = fewer (omega arith) (chain_within (asks_within nothing_within) (λ x l. maps_reads h (λ s y q l. omega arith)))

    arms_at : (k : Surrounding) (a : Arming) (ts : Statements) → arming a ≤ 0 → (X : Type 0) → Within ls armed (declares_in_statements ts) 0 (plan_arms k a ts)
    arms_at k a tree.no_statements z X = pure_within a.arms z
    arms_at k a (tree.statement_then t ts) z X = chain_within (labelled_at k a t (plan_statement k t) z (statement_at k t X)) (λ b l. arms_at k b ts l X)

    labelled_at : (k : Surrounding) (a : Arming) (t : Statement) (m : CheckPlan program.Statements) → arming a ≤ 0 → Constant (declares_in_statement t) m → Within ls arming (declares_in_statement t) 0 (plan_labelled k a t m)
    labelled_at k a (tree.Case p e t) m z h = chain_within (case_constant p a e) (λ b l. labelled_at k b t (plan_statement k t) (omega (arith, z, l)) (statement_at k t (Unit {0})))
    labelled_at k a (tree.Default p t) m z h = fewer (omega arith) (chain_within (default_constant p a) (λ b l. labelled_at k b t (plan_statement k t) (omega (arith, z, l)) (statement_at k t (Unit {0}))))
    labelled_at k a t m z h = maps_reads h (λ s x q l. let g = statement_adds x a.arms in omega (arith, z, l, g))

  -- the body of a function
  pub block_constant : (k : Surrounding) (ds : List Declaration) (ss : Statements) → Constant (declares_in_declarations ds + declares_in_statements ss) (plan_block k ds ss)
  block_constant k ds ss = chain_within (declarations_constant program.Done ds (omega arith)) (λ done l. statements_at k done ss l (Unit {0}))

-- What statements, blocks and local declarations come to weighs less than their tokens and literals pay, and they declare few
-- locals: by induction over their plans.
use Rattle.std.proofs.Common.{◌≡◌, ℕ, ◌+◌, ◌≤◌, Bool, true, false, List, ◌∷◌, ◌++◌, Option, Some, None, if◌then◌else◌, refl, arith, length-append, []}
use Rattle.std.specs.Prelude.{slice_get, is_some}
use Rattle.dae_base.specs.declared.Place.{Place}
use Rattle.dae_tree.specs.declared.expressions.Name.{Name}
use Rattle.dae_tree.specs.Trees as tree
use Rattle.dae_tree.specs.Trees.{Expression, Initialiser, InitDeclarator, Declaration, Statement, Statements}
use Rattle.dae_tree.specs.Depth.{place_of, place_of_specifiers}
use Rattle.dae_tree.specs.Names.{declared_name, has_typedef}
use Rattle.dae_program.specs.Trees as program
use Rattle.dae_types_kinds.specs.declared.tables.Context.TheVariants as context
use Rattle.dae_types_kinds.specs.declared.tables.NamedType.{NamedType}
use Rattle.dae_types_kinds.specs.declared.tables.Storage.{Storage}
use Rattle.dae_types_kinds.specs.declared.tables.Storage.TheVariants as storage
use Rattle.dae_types_kinds.specs.Tables.{Tables}
use Rattle.dae_types_kinds.specs.Types.{shape_of, is_scalar}
use Rattle.dae_types_kinds.specs.Values.{Typed, converted}
use Rattle.dae_types_rules.specs.Plan.{CheckPlan}
use Rattle.dae_types_plans.specs.Steps.{declared_place}
use Rattle.dae_types_file_plans.specs.declared.surroundings.Surrounding.{Surrounding}
use Rattle.dae_types_file_plans.specs.Initialisers.{Content}
use Rattle.dae_types_file_plans.specs.Statements.{behind_all, appended, with_typedef, typedef_at, local_at, type_of_local, storage_target, offset_of_local, set_to, own_set, names_stored, taken_or_not, scalar_value_at, plan_scalar, plan_first_scalar, with_type, initialised_at, plan_given, plan_local, plan_item_at, plan_items, is_alone, plan_declaration, plan_declarations, in_loop, in_switch, returned, nothing_returned, as_result, plan_return, is_printf_name, callee_name, arguments_of, plan_evaluation, plan_evaluate, Armed, arms_of, is_done, with_label, with_statement, Arming, case_at, default_at, label_at, plan_optional, plan_condition, plan_test, started, starting_place, plan_statement, plan_statements, plan_body, plan_arms, plan_labelled, plan_block}
use Rattle.dae_sizes.specs.Worth.{worth, worth_of_initialiser, worth_of_initialisers, worth_of_value, worth_of_items, worth_of_declarations, worth_of_optional, worth_of_statement, worth_of_statements, declares, declares_in, declares_in_specifiers, declares_in_initialiser, declares_in_initialisers, declares_in_value, declares_in_items, declares_in_declarations, declares_in_optional, declares_in_statement, declares_in_statements}
use Rattle.dae_sizes.specs.Weights.{weight, weight_of_target, weight_of_some, weight_in, weight_in_arms}
use Rattle.dae_sizes.specs.Paid.{price}
use Rattle.dae_sizes.proofs.Within.{Grown, Within, none, same, stays, weaker, fewer, lighter, measured, unmeasured, pure_within, node_within, node_stays, node_reads, maps_reads, maps_stays, asks_within, both_within, chain_within, nothing_within, looks_within, scoped_within, settles_within}
use Rattle.dae_sizes.proofs.Weighing.{cost, converted_weighs, set_local_grown}
use Rattle.dae_sizes.proofs.Steps.{count_name, local_grown, base_within, constant_within, condition_within, node_keeps}
use Rattle.dae_sizes.proofs.Expressions.{own_and_inner, own_is, plan_within, value_of_within, specifiers_within, declarator_within}
use Rattle.dae_sizes.proofs.Initialisers.{held, content_within, unused_initialiser_within}
use Rattle.dae_sizes.proofs.Printing.{arguments_worth, arguments_declare, printf_within}

-- ---- trees of statements

pub weight-behind : (c : ℕ) (a b : program.Statements) → weight_in c (behind_all a b) ≡ weight_in c a + weight_in c b
weight-behind c program.Done b = omega arith
weight-behind c (program.Evaluate p e k) b = let h = weight-behind c k b in omega (arith, h)
weight-behind c (program.Initialise p o size items k) b = let h = weight-behind c k b in omega (arith, h)
weight-behind c (program.Print p es pieces k) b = let h = weight-behind c k b in omega (arith, h)
weight-behind c (program.If p e s t k) b = let h = weight-behind c k b in omega (arith, h)
weight-behind c (program.Loop p e body step k) b = let h = weight-behind c k b in omega (arith, h)
weight-behind c (program.Do p body e k) b = let h = weight-behind c k b in omega (arith, h)
weight-behind c (program.Switch p e arms k) b = let h = weight-behind c k b in omega (arith, h)
weight-behind c (program.Break p k) b = let h = weight-behind c k b in omega (arith, h)
weight-behind c (program.Continue p k) b = let h = weight-behind c k b in omega (arith, h)
weight-behind c (program.Return p e k) b = let h = weight-behind c k b in omega (arith, h)

pub target_weighs : (c : ℕ) (o : Option Storage) (p : Place) → weight_of_target c (storage_target o p) ≤ 1
target_weighs c (Some (storage.Variable n)) p = omega arith
target_weighs c (Some (storage.Frame o)) p = omega arith
target_weighs c None p = omega arith

set_weighs : (c : ℕ) (p : Place) (s : Tables) (k : ℕ) (e : program.Expression) → weight_in c (set_to p s k e) ≤ 3 + weight c e
set_weighs c p s k e = let h = target_weighs c (slice_get s.storages k) p in omega (arith, h)

-- ---- the parts of a switch

abbrev arms_weigh : ℕ → List Armed → ℕ
arms_weigh c arms = weight_in_arms c (arms_of arms)

abbrev arming_weighs : ℕ → Arming → ℕ
arming_weighs c a = arms_weigh c a.arms

arms_if : (b : Bool) (c n : ℕ) (x y : List Armed) → arms_weigh c x ≤ n → arms_weigh c y ≤ n → arms_weigh c (if b then x else y) ≤ n
arms_if true c n x y h k = h
arms_if false c n x y h k = k

label_weighs : (c : ℕ) (l : Option ℕ) (arms : List Armed) → arms_weigh c (with_label l arms) ≤ 3 + arms_weigh c arms
label_weighs c l [] = omega arith
label_weighs c l (a ∷ []) =
    let h = length-append a.labels (l ∷ []) in
    arms_if (is_done a.statements) c (3 + arms_weigh c (a ∷ [])) (record a { labels = a.labels ++ (l ∷ []) } ∷ []) (a ∷ record { labels = l ∷ []; statements = program.Done } ∷ []) (omega (arith, h)) (omega arith)
label_weighs c l (a ∷ b ∷ rest) = let h = label_weighs c l (b ∷ rest) in omega (arith, h)

statement_weighs : (c : ℕ) (x : program.Statements) (arms : List Armed) → arms_weigh c (with_statement x arms) ≤ 1 + (weight_in c x + arms_weigh c arms)
statement_weighs c x [] = omega arith
statement_weighs c x (a ∷ []) = let h = weight-behind c a.statements x in omega (arith, h)
statement_weighs c x (a ∷ b ∷ rest) = let h = statement_weighs c x (b ∷ rest) in omega (arith, h)

-- ---- tables

typedef_grown : (n : Option Name) (t : ℕ) (s : Tables) → Grown 0 s (with_typedef n t s)
typedef_grown None t s = stays 0
typedef_grown (Some n) t s = same 0 s (with_typedef (Some n) t s) refl refl refl

pub type_grown : (k t : ℕ) (s : Tables) → Grown 0 s (with_type k t s)
type_grown k t s = set_local_grown k (record { type_id = t; taken = taken_or_not (slice_get s.locals k) }) s

-- a statement with one more
abbrev pub statement_cost : ℕ → program.Statements → ℕ
statement_cost c x = 1 + weight_in c x

module _ (c : ℕ) (low : c ≤ 1) (ls : List (List ℕ)) where
  appended_within : {n w : ℕ} {m : CheckPlan program.Statements} (done : program.Statements) → Within ls (weight_in c) n w m → Within ls (weight_in c) n (weight_in c done + w) (appended done m)
  appended_within done h = maps_reads h (λ s x e l. let g = weight-behind c done x in omega (arith, l, g))

  -- ---- local declarations

  pub typedef_within : {n w : ℕ} {μ : NamedType → ℕ} {m : CheckPlan NamedType} (p : Place) (block given : Bool) (name : Option Name) → Within ls μ n w m → Within ls none n 0 (typedef_at p block given name m)
  typedef_within p block given name h = settles_within name (node_keeps (unmeasured h) (λ s x. typedef_grown name x.type_id s))

  pub local_within : {n w : ℕ} {μ : NamedType → ℕ} {m : CheckPlan NamedType} (p : Place) (given : Bool) (name : Option Name) → Within ls μ n w m → Within ls none (n + count_name name) 0 (local_at p given name m)
  local_within p given name h = settles_within name (node_within h (λ s x e l. record { grown = local_grown name x.type_id s; small = omega arith }))

  own_weighs : (b : Bool) (p : Place) (s : Tables) (k : ℕ) (e : program.Expression) → names_stored (slice_get s.storages k) e ≡ b → weight_in c (own_set b p s k e) ≤ 5 + weight c e
  own_weighs false p s k e h = let g = set_weighs c p s k e in omega (arith, g)
  own_weighs true p s k e h = let g = stored_free (slice_get s.storages k) h in omega (arith, low, g) where
    stored_free : (o : Option Storage) → names_stored o e ≡ true → weight_of_target c (storage_target o p) ≡ 0
    stored_free (Some (storage.Variable v)) h = refl
    stored_free (Some (storage.Frame v)) h = cc
    stored_free None h = cc

  scalar_value_within : {n w : ℕ} {m : CheckPlan Typed} (p q : Place) (k : ℕ) → Within ls (cost c 2) n w m → Within ls (weight_in c) n (4 + w) (scalar_value_at p q k m)
  scalar_value_within p q k h = node_stays h (λ s x e l. record {
    grown = stays 0;
    small =
        let g = converted_weighs c low q s x (type_of_local s k) in
        let j = own_weighs (names_stored (slice_get s.storages k) (converted q s x (type_of_local s k)).tree) p s k (converted q s x (type_of_local s k)).tree refl in omega (arith, l, g, j);
  })

  mutual
    scalar_within : (p : Place) (k : ℕ) (x : Initialiser) → Within ls (weight_in c) (declares_in_initialiser x) (4 + worth_of_initialiser (price c ls) x) (plan_scalar p k x)
    scalar_within p k (tree.Value e) = scalar_value_within p (place_of e) k (value_of_within c low ls e)
    scalar_within p k (tree.Listed q js comma) = weaker (omega arith) (omega arith) (chain_within (node_keeps nothing_within (λ s x. stays 0)) (λ x l. first_scalar_within p k js))

    first_scalar_within : (p : Place) (k : ℕ) (xs : tree.Initialisers) → Within ls (weight_in c) (declares_in_initialisers xs) (4 + worth_of_initialisers (price c ls) xs) (plan_first_scalar p k xs)
    first_scalar_within p k tree.no_initialisers = pure_within program.Done (omega arith)
    first_scalar_within p k (tree.initialiser_then x xs) = weaker (omega arith) (omega arith) (scalar_within p k x)

  initialised_within : {n w : ℕ} {m : CheckPlan Content} (p : Place) (k : ℕ) → Within ls (held c) n w m → Within ls (weight_in c) n (8 + w) (initialised_at p k m)
  initialised_within p k h = maps_stays h (λ s x e l. record { grown = type_grown k x.type_id s; small = omega (arith, l) })

  begun_weighs : (b : Bool) (p : Place) (s : Tables) (k : ℕ) → weight_in c (if b then set_to p s k (program.Number 0) else program.Done) ≤ 4
  begun_weighs true p s k = let h = set_weighs c p s k (program.Number 0) in omega (arith, low, h)
  begun_weighs false p s k = omega arith

  given_within : (p : Place) (k : ℕ) (x : Initialiser) (b : Bool) → Within ls (weight_in c) (declares_in_initialiser x) (8 + worth_of_initialiser (price c ls) x) (plan_given p k x b)
  given_within p k x true = lighter (omega arith) (scalar_within p k x)
  given_within p k x false =
      fewer (omega arith) (chain_within (looks_within {μ = none} {w = 0} (λ s. type_of_local s k) (λ s e. omega arith)) (λ t l.
      chain_within (looks_within {μ = none} {w = 0} (λ s. offset_of_local s k) (λ s e. omega arith)) (λ o l. initialised_within p k (content_within c low ls p o t x))))

  plan_local_within : (p : Place) (x : Option (Place × Initialiser)) (k : Option ℕ) → Within ls (weight_in c) (declares_in_value x) (4 + worth_of_value (price c ls) x) (plan_local p x k)
  plan_local_within p None None = pure_within program.Done (omega arith)
  plan_local_within p None (Some k) = looks_within _ (λ s e. begun_weighs (is_scalar (shape_of s (type_of_local s k))) p s k)
  plan_local_within p (Some x) None = maps_reads (unused_initialiser_within c low ls x.1) (λ s f e l. omega arith)
  plan_local_within p (Some x) (Some k) = weaker (omega arith) (omega arith) (chain_within (looks_within {μ = none} {w = 0} (λ s. is_scalar (shape_of s (type_of_local s k))) (λ s e. omega arith)) (λ b l. given_within p k x.1 b))

  item_within : (is_typedef : Bool) (p : Place) (b : ℕ) (i : InitDeclarator) → Within ls (weight_in c) (declares_in i.declarator + declares_in_value i.initialiser) (4 + worth_of_value (price c ls) i.initialiser) (plan_item_at is_typedef p b i)
  item_within true p b i =
      let h = own_and_inner i.declarator in
      fewer (omega (arith, h)) (maps_reads (typedef_within p true (is_some i.initialiser) (declared_name i.declarator) (declarator_within c low ls p false b i.declarator)) (λ s x e l. omega arith))
  item_within false p b i =
      let h = own_and_inner i.declarator in
      let g = own_is i.declarator in
      fewer (omega (arith, h, g)) (chain_within (local_within p (is_some i.initialiser) (declared_name i.declarator) (declarator_within c low ls p false b i.declarator)) (λ k l. plan_local_within p i.initialiser k))

  items_within : (q : Place) (is_typedef : Bool) (b : ℕ) (done : program.Statements) (items : List InitDeclarator) → Within ls (weight_in c) (declares_in_items items) (weight_in c done + worth_of_items (price c ls) items) (plan_items q is_typedef b done items)
  items_within q is_typedef b done [] = pure_within done (omega arith)
  items_within q is_typedef b done (i ∷ items) =
      fewer (omega arith) (chain_within (appended_within done (item_within is_typedef (declared_place i.declarator q) b i)) (λ more l. lighter (omega (arith, l)) (items_within q is_typedef b more items)))

  declaration_within : (done : program.Statements) (d : Declaration) → Within ls (weight_in c) (declares_in_specifiers d.specifiers + declares_in_items d.items) (weight_in c done + worth_of_items (price c ls) d.items) (plan_declaration done d)
  declaration_within done d =
      chain_within (base_within d.specifiers (specifiers_within c low ls context.Block (is_alone d.items) None d.specifiers)) (λ b l. items_within (place_of_specifiers d.specifiers d.end) (has_typedef d.specifiers) b done d.items)

  declarations_within : (done : program.Statements) (ds : List Declaration) → Within ls (weight_in c) (declares_in_declarations ds) (weight_in c done + worth_of_declarations (price c ls) ds) (plan_declarations done ds)
  declarations_within done [] = pure_within done (omega arith)
  declarations_within done (d ∷ ds) = fewer (omega arith) (chain_within (declaration_within done d) (λ more l. lighter (omega (arith, l)) (declarations_within more ds)))

  -- ---- returns, evaluations and tests

  returned_weighs : (p : Place) (b : Bool) (e : program.Expression) → weight_in c (returned p b e) ≤ 2 + weight c e
  returned_weighs p true e = omega arith
  returned_weighs p false e = omega arith

  nothing_weighs : (p : Place) (b : Bool) → weight_in c (nothing_returned p b) ≤ 3
  nothing_weighs p true = omega (arith, low)
  nothing_weighs p false = omega arith

  result_weighs : (p : Place) (s : Tables) (t : Option ℕ) (x : Typed) → weight c (as_result p s t x) ≤ 1 + weight c x.tree
  result_weighs p s None x = omega arith
  result_weighs p s (Some t) x = converted_weighs c low p s x t

  return_within : (p : Place) (k : Surrounding) (e : Option Expression) → Within ls (statement_cost c) (declares_in_optional e) (8 + worth_of_optional (price c ls) e) (plan_return p k e)
  return_within p k None = pure_within _ (let h = nothing_weighs p k.is_main in omega (arith, h))
  return_within p k (Some e) = node_reads (value_of_within c low ls e) (λ s x q l.
      let h = result_weighs p s k.result x in
      let g = returned_weighs p k.is_main (as_result p s k.result x) in omega (arith, l, h, g))

  evaluation_within : (e : Expression) (b : Bool) → Within ls (statement_cost c) (declares e) (4 + worth (price c ls) e) (plan_evaluation e b)
  evaluation_within e true =
      let h = arguments_worth (price c ls) e in
      let g = arguments_declare e in
      fewer g (measured (λ x l. omega (arith, h, l)) (printf_within c low ls (place_of e) (arguments_of e)))
  evaluation_within e false = maps_reads (value_of_within c low ls e) (λ s x q l. omega (arith, l))

  evaluate_within : (e : Expression) → Within ls (statement_cost c) (declares e) (4 + worth (price c ls) e) (plan_evaluate e)
  evaluate_within e = fewer (omega arith) (chain_within (looks_within {μ = none} {w = 0} (λ s. is_printf_name s (callee_name e)) (λ s q. omega arith)) (λ b l. evaluation_within e b))

  pub optional_within : (e : Option Expression) → Within ls (weight_of_some c) (declares_in_optional e) (worth_of_optional (price c ls) e) (plan_optional e)
  optional_within None = pure_within None (omega arith)
  optional_within (Some e) = maps_reads (value_of_within c low ls e) (λ s x q l. omega (arith, l))

  pub condition_of_within : (e : Expression) → Within ls (weight c) (declares e) (worth (price c ls) e) (plan_condition e)
  condition_of_within e = maps_reads (condition_within c low (place_of e) (plan_within c low ls e)) (λ s x q l. omega (arith, l))

  pub test_within : (e : Option Expression) → Within ls (weight_of_some c) (declares_in_optional e) (worth_of_optional (price c ls) e) (plan_test e)
  test_within None = pure_within None (omega arith)
  test_within (Some e) = maps_reads (condition_of_within e) (λ s x q l. l)

  started_weighs : (p : Place) (e : Option program.Expression) (x : program.Statements) → weight_in c (started p e x) ≤ 1 + (weight_of_some c e + weight_in c x)
  started_weighs p None x = omega arith
  started_weighs p (Some e) x = omega arith

  case_within : (p : Place) (a : Arming) (e : Expression) → Within ls (arming_weighs c) (declares e) (3 + arming_weighs c a) (case_at p a (label_at e))
  case_within p a e = node_reads (constant_within (place_of e) (value_of_within c low ls e)) (λ s w q l. label_weighs c (Some w) a.arms)

  default_within : (p : Place) (a : Arming) → Within ls (arming_weighs c) 0 (3 + arming_weighs c a) (default_at p a)
  default_within p a = node_reads nothing_within (λ s x q l. label_weighs c None a.arms)

  -- ---- statements. A type that nothing needs makes the lemmas' types alike.

  mutual
    statement_at : (k : Surrounding) (t : Statement) (X : Type 0) → Within ls (statement_cost c) (declares_in_statement t) (worth_of_statement (price c ls) t) (plan_statement k t)
    statement_at k (tree.Block p ds ss) X =
        scoped_within (fewer (omega arith) (chain_within (declarations_within program.Done ds) (λ done l. measured (λ x q. omega (arith, l, q)) (statements_at k done ss X))))
    statement_at k (tree.Nothing p) X = pure_within program.Done (omega arith)
    statement_at k (tree.Evaluate e p) X = evaluate_within e
    statement_at k (tree.If p q e t) X = maps_reads (both_within (condition_of_within e) (statement_at k t X)) (λ s x q l. omega (arith, l))
    statement_at k (tree.IfElse p q e t u) X = maps_reads (both_within (condition_of_within e) (both_within (statement_at k t X) (statement_at k u X))) (λ s x q l. omega (arith, l))
    statement_at k (tree.While p q e t) X = maps_reads (both_within (condition_of_within e) (statement_at (in_loop k) t X)) (λ s x q l. omega (arith, l))
    statement_at k (tree.Do p t q r e u) X = maps_reads (both_within (statement_at (in_loop k) t X) (condition_of_within e)) (λ s x q l. omega (arith, l))
    statement_at k (tree.For p q a r b u d t) X =
        maps_reads (both_within (optional_within a) (both_within (test_within b) (both_within (optional_within d) (statement_at (in_loop k) t X))))
        (λ s x q l. let h = started_weighs (starting_place p a) x.0 (program.Loop p x.1.0 x.1.1.1 x.1.1.0 program.Done) in omega (arith, l, h))
    statement_at k (tree.Break p q) X = asks_within (pure_within _ (omega arith))
    statement_at k (tree.Continue p q) X = asks_within (pure_within _ (omega arith))
    statement_at k (tree.Return p e q) X = return_within p k e
    statement_at k (tree.Switch p q e t) X =
        maps_reads (both_within (asks_within (value_of_within c low ls e)) (body_at (in_switch k) t (plan_statement (in_switch k) t) (statement_at (in_switch k) t X))) (λ s x q l. omega (arith, l))
    statement_at k (tree.Case p e t) X =
        weaker (omega arith) (omega arith) (chain_within (chain_within (asks_within nothing_within) (λ x l. constant_within (place_of e) (value_of_within c low ls e))) (λ w l. statement_at k t X))
    statement_at k (tree.Default p t) X = weaker (omega arith) (omega arith) (chain_within (asks_within nothing_within) (λ x l. statement_at k t X))

    statements_at : (k : Surrounding) (done : program.Statements) (ts : Statements) (X : Type 0) → Within ls (weight_in c) (declares_in_statements ts) (weight_in c done + worth_of_statements (price c ls) ts) (plan_statements k done ts)
    statements_at k done tree.no_statements X = pure_within done (omega arith)
    statements_at k done (tree.statement_then t ts) X =
        chain_within (appended_within done (measured {v = worth_of_statement (price c ls) t} (λ x l. omega (arith, l)) (statement_at k t X))) (λ more l. lighter (omega (arith, l)) (statements_at k more ts X))

    body_at : (k : Surrounding) (t : Statement) (m : CheckPlan program.Statements) → Within ls (statement_cost c) (declares_in_statement t) (worth_of_statement (price c ls) t) m → Within ls (arms_weigh c) (declares_in_statement t) (worth_of_statement (price c ls) t) (plan_body k t m)
    body_at k (tree.Block p ds ss) m h =
        scoped_within (weaker (omega arith) (omega arith) (chain_within (node_keeps nothing_within (λ s x. stays 0)) (λ x l. chain_within (declarations_within program.Done ds) (λ y l. arms_at k (record { seen = []; arms = [] }) ss (Unit {0})))))
    body_at k t m h = fewer (omega arith) (chain_within (asks_within nothing_within) (λ x l. maps_reads h (λ s y q l. omega arith)))

    arms_at : (k : Surrounding) (a : Arming) (ts : Statements) (X : Type 0) → Within ls (arms_weigh c) (declares_in_statements ts) (arming_weighs c a + worth_of_statements (price c ls) ts) (plan_arms k a ts)
    arms_at k a tree.no_statements X = pure_within a.arms (omega arith)
    arms_at k a (tree.statement_then t ts) X = chain_within (labelled_at k a t (plan_statement k t) (statement_at k t X)) (λ b l. lighter (omega (arith, l)) (arms_at k b ts X))

    labelled_at : (k : Surrounding) (a : Arming) (t : Statement) (m : CheckPlan program.Statements) → Within ls (statement_cost c) (declares_in_statement t) (worth_of_statement (price c ls) t) m → Within ls (arming_weighs c) (declares_in_statement t) (arming_weighs c a + worth_of_statement (price c ls) t) (plan_labelled k a t m)
    labelled_at k a (tree.Case p e t) m h = chain_within (case_within p a e) (λ b l. lighter (omega (arith, l)) (labelled_at k b t (plan_statement k t) (statement_at k t (Unit {0}))))
    labelled_at k a (tree.Default p t) m h = fewer (omega arith) (chain_within (default_within p a) (λ b l. lighter (omega (arith, l)) (labelled_at k b t (plan_statement k t) (statement_at k t (Unit {0})))))
    labelled_at k a t m h = maps_reads h (λ s x q l. let g = statement_weighs c x a.arms in omega (arith, l, g))

  -- the body of a function
  pub block_within : (k : Surrounding) (ds : List Declaration) (ss : Statements) → Within ls (weight_in c) (declares_in_declarations ds + declares_in_statements ss) (worth_of_declarations (price c ls) ds + worth_of_statements (price c ls) ss) (plan_block k ds ss)
  block_within k ds ss = chain_within (declarations_within program.Done ds) (λ done l. lighter (omega (arith, l)) (statements_at k done ss (Unit {0})))

-- A typed statement has at most four units of work for each that is written: by induction over the plans of statements.
use Rattle.std.proofs.Common.{◌≡◌, ℕ, zero, suc, ◌+◌, ◌*◌, ◌≤◌, Bool, true, false, List, ◌∷◌, ◌++◌, length, Option, Some, None, Ok, if◌then◌else◌, refl, arith, length-append, []}
use Rattle.std.proofs.lemmas.Bool.Decides.{nat_tests}
use Rattle.std.proofs.lemmas.Result.{IfOk-at_ok}
use Rattle.std.specs.Prelude.{IfOk, slice_get, is_some, nat_eq}
use Rattle.dae_base.specs.declared.Place.{Place}
use Rattle.dae_tree.specs.Trees as tree
use Rattle.dae_tree.specs.Trees.{Expression, Expressions, Initialiser, InitDeclarator, Declaration, Statement, Statements}
use Rattle.dae_tree.specs.Depth.{place_of, place_of_specifiers}
use Rattle.dae_tree.specs.Names.{declared_name, has_typedef}
use Rattle.dae_program.specs.declared.statements.FormatPiece.{FormatPiece}
use Rattle.dae_program.specs.declared.statements.FormatPiece.TheVariants as piece
use Rattle.dae_program.specs.Switches.{count_labels}
use Rattle.dae_program.specs.Trees as program
use Rattle.dae_types_kinds.specs.declared.tables.Context.TheVariants as context
use Rattle.dae_types_kinds.specs.declared.tables.Storage.{Storage}
use Rattle.dae_types_kinds.specs.declared.tables.Storage.TheVariants as storage
use Rattle.dae_types_kinds.specs.Tables.{Tables}
use Rattle.dae_types_kinds.specs.Types.{shape_of, is_scalar}
use Rattle.dae_types_kinds.specs.Values.{Typed, converted}
use Rattle.dae_types_rules.specs.Plan.{CheckPlan, ask_all}
use Rattle.dae_types_rules.specs.Sites.{AtFormat}
use Rattle.dae_types_plans.specs.Steps.{declared_place, count_of}
use Rattle.dae_types_file_plans.specs.declared.surroundings.Surrounding.{Surrounding}
use Rattle.dae_types_file_plans.specs.Formats.{letters}
use Rattle.dae_types_file_plans.specs.Initialisers.{Content, literal_in}
use Rattle.dae_types_file_plans.specs.Statements.{behind_all, appended, type_of_local, storage_target, offset_of_local, set_to, own_set, names_stored, scalar_value_at, plan_scalar, plan_first_scalar, initialised_at, plan_given, plan_local, plan_item_at, plan_items, is_alone, plan_declaration, plan_declarations, in_loop, in_switch, returned, nothing_returned, as_result, plan_return, is_printf_name, callee_name, arguments_of, plan_evaluation, plan_evaluate, Armed, arms_of, is_done, with_label, with_statement, Arming, case_at, default_at, label_at, plan_optional, plan_condition, plan_test, started, starting_place, plan_statement, plan_statements, plan_body, plan_arms, plan_labelled, plan_block, format_of, wanted_by, pieces_or, format_at, plan_printed, listed_all, plan_printf}
use Rattle.dae_sizes.specs.Worth.{declares, declares_in_all, declares_in, declares_in_specifiers, declares_in_initialiser, declares_in_initialisers, declares_in_value, declares_in_items, declares_in_declarations, declares_in_optional, declares_in_statement, declares_in_statements}
use Rattle.dae_sizes.specs.Written.{nodes, nodes_of_all, ticks, ticks_of_target}
use Rattle.dae_sizes.specs.WrittenStatements.{Often, so_often, nodes_of_some, nodes_of_initialiser, nodes_of_first, nodes_of_value, written_items, written_declarations, labels_before, labels_of_all, labels_in, written_start, written, written_all, ticks_of_some, ticks_of_printed, conversions, units, units_of_arms, BlocksAreFew}
use Rattle.dae_sizes.proofs.Within.{Got, Within, none, stays, weaker, fewer, lighter, measured, pure_within, node_stays, node_reads, maps_reads, maps_stays, asks_within, both_within, chain_within, nothing_within, looks_within, scoped_within}
use Rattle.dae_sizes.proofs.Steps.{base_within, constant_within, node_keeps}
use Rattle.dae_sizes.proofs.Expressions.{own_and_inner, own_is, specifiers_within, declarator_within}
use Rattle.dae_sizes.proofs.Initialisers.{unused_initialiser_within}
use Rattle.dae_sizes.proofs.Printing.{arguments_declare, asked_by}
use Rattle.dae_sizes.proofs.Statements.{type_grown, typedef_within, local_within}
use Rattle.dae_sizes.proofs.Constants.{held, content_constant}
use Rattle.dae_sizes.proofs.Ticks.{value_ticks, converted_ticks}
use Rattle.dae_sizes.proofs.TickSteps.{condition_few}
use Rattle.dae_sizes.proofs.TickPlans.{plan_few, value_of_few}

-- ---- so often

often_few : (n a b : ℕ) → a ≤ 4 * b → so_often n a ≤ 4 * so_often n b
often_few zero a b h = omega arith
often_few (suc n) a b h = let g = often_few n a b h in omega (arith, h, g)

often_apart : (n a b c : ℕ) → a ≤ b + c → so_often n a ≤ so_often n b + so_often n c
often_apart zero a b c h = omega arith
often_apart (suc n) a b c h = let g = often_apart n a b c h in omega (arith, h, g)

often_less : (n a b : ℕ) → a ≤ b → so_often n a ≤ so_often n b
often_less zero a b h = omega arith
often_less (suc n) a b h = let g = often_less n a b h in omega (arith, h, g)

often_both : (n a b c : ℕ) → a + b ≤ 4 * c → so_often n a + so_often n b ≤ 4 * so_often n c
often_both zero a b c h = omega arith
often_both (suc n) a b c h = let g = often_both n a b c h in omega (arith, h, g)

often_joined : (n a b c : ℕ) → a + b ≤ c → so_often n a + so_often n b ≤ so_often n c
often_joined zero a b c h = omega arith
often_joined (suc n) a b c h = let g = often_joined n a b c h in omega (arith, h, g)

-- ---- trees

some_nodes : (e : Expression) → 1 ≤ nodes e
some_nodes (tree.Identifier n) = omega arith
some_nodes (tree.Number p c) = omega arith
some_nodes (tree.Literal p n) = omega arith
some_nodes (tree.Parenthesised p a) = some_nodes a
some_nodes (tree.Index a p b) = omega arith
some_nodes (tree.Call f p xs) = omega arith
some_nodes (tree.Member a p o n) = omega arith
some_nodes (tree.Postfix a p o) = omega arith
some_nodes (tree.Prefix p o a) = omega arith
some_nodes (tree.SizeofExpression p a) = omega arith
some_nodes (tree.SizeofType p q ws d) = omega arith
some_nodes (tree.Cast p ws d a) = omega arith
some_nodes (tree.Binary a p o b) = omega arith
some_nodes (tree.Conditional a p b c) = omega arith
some_nodes (tree.Assignment a p o b) = omega arith
some_nodes (tree.Comma a b) = omega arith

arguments_counted : (xs : Expressions) → count_of xs ≤ nodes_of_all xs
arguments_counted tree.no_expressions = omega arith
arguments_counted (tree.expression_then a xs) = let h = some_nodes a in let g = arguments_counted xs in omega (arith, h, g)

arguments_nodes : (e : Expression) → nodes_of_all (arguments_of e) ≤ nodes e
arguments_nodes (tree.Call f p xs) = omega arith
arguments_nodes e = omega arith

target_ticks : (o : Option Storage) (p : Place) → ticks_of_target (storage_target o p) ≤ 1
target_ticks (Some (storage.Variable n)) p = omega arith
target_ticks (Some (storage.Frame o)) p = omega arith
target_ticks None p = omega arith

-- ---- printf

abbrev printed_ticks : List program.Expression → ℕ
printed_ticks [] = 0
printed_ticks (e ∷ es) = 1 + (ticks e + printed_ticks es)

printed-append : (xs ys : List program.Expression) → printed_ticks (xs ++ ys) ≡ printed_ticks xs + printed_ticks ys
printed-append [] ys = omega arith
printed-append (x ∷ xs) ys = let h = printed-append xs ys in omega (arith, h)

listed_printed : (es : List program.Expression) → ticks_of_printed (listed_all es) ≡ printed_ticks es
listed_printed [] = refl
listed_printed (e ∷ es) = let h = listed_printed es in omega (arith, h)

letters_counted : (ps : List FormatPiece) → conversions ps ≡ length (letters ps)
letters_counted [] = refl
letters_counted (piece.Byte b ∷ ps) = letters_counted ps
letters_counted (piece.Word spelling k ∷ ps) = let h = letters_counted ps in omega (arith, h)
letters_counted (piece.String k ∷ ps) = let h = letters_counted ps in omega (arith, h)

format_asked : (p : Place) (o : Option (List FormatPiece)) (given : ℕ) (s : Tables) → IfOk (ask_all (AtFormat p (wanted_by o) given ∷ []) (Ok (s, pieces_or o))) (Got conversions 0 given s)
unfolding ask_all
format_asked p None given s = tt
format_asked p (Some ps) given s = asked_by (nat_eq (length (letters ps)) given) p s ps (Got conversions 0 given s)
    (λ e. let k : length (letters ps) ≡ given = grind (arith, nat_tests) in let h = letters_counted ps in record { grown = stays 0; small = omega (arith, h, k) })

-- ---- the units of work of one statement behind others

units-behind : (o : Often) (a b : program.Statements) → units o (behind_all a b) ≡ units o a + units o b
units-behind o program.Done b = omega arith
units-behind o (program.Evaluate p e k) b = let h = units-behind o k b in omega (arith, h)
units-behind o (program.Initialise p offset size items k) b = let h = units-behind o k b in omega (arith, h)
units-behind o (program.Print p es pieces k) b = let h = units-behind o k b in omega (arith, h)
units-behind o (program.If p e s t k) b = let h = units-behind o k b in omega (arith, h)
units-behind o (program.Loop p e body step k) b = let h = units-behind o k b in omega (arith, h)
units-behind o (program.Do p body e k) b = let h = units-behind o k b in omega (arith, h)
units-behind o (program.Switch p e arms k) b = let h = units-behind o k b in omega (arith, h)
units-behind o (program.Break p k) b = let h = units-behind o k b in omega (arith, h)
units-behind o (program.Continue p k) b = let h = units-behind o k b in omega (arith, h)
units-behind o (program.Return p e k) b = let h = units-behind o k b in omega (arith, h)

-- ---- the parts of a switch that is begun n times: what its arms have, and its labels and arms, where the first arm is paid before

module _ (o : Often) (n : ℕ) where
  abbrev counted : List Armed → ℕ
  counted [] = 1
  counted (a ∷ rest) = count_labels (arms_of (a ∷ rest))

  abbrev armed : List Armed → ℕ
  armed arms = units_of_arms o (arms_of arms) + so_often n (counted arms)

  abbrev arming : Arming → ℕ
  arming a = armed a.arms

  all_counted : (arms : List Armed) → count_labels (arms_of arms) ≤ counted arms
  all_counted [] = omega arith
  all_counted (a ∷ rest) = omega arith

  -- a label counts for itself and its arm
  abbrev labels_of_last : Option ℕ → List Armed → ℕ
  labels_of_last l arms = count_labels (arms_of (with_label l arms))

  label_counts : (l : Option ℕ) (a : Armed) (rest : List Armed) → labels_of_last l (a ∷ rest) ≤ count_labels (arms_of (a ∷ rest)) + 2
  label_counts l a [] = by (is_done a.statements) where
    by : (b : Bool) → count_labels (arms_of (if b then record a { labels = a.labels ++ (l ∷ []) } ∷ [] else a ∷ record { labels = l ∷ []; statements = program.Done } ∷ [])) ≤ count_labels (arms_of (a ∷ [])) + 2
    by true = let h = length-append a.labels (l ∷ []) in omega (arith, h)
    by false = omega arith
  label_counts l a (b ∷ rest) = let h = label_counts l b rest in omega (arith, h)

  label_units : (l : Option ℕ) (arms : List Armed) → units_of_arms o (arms_of (with_label l arms)) ≤ units_of_arms o (arms_of arms)
  label_units l [] = omega arith
  label_units l (a ∷ []) = by (is_done a.statements) where
    by : (b : Bool) → units_of_arms o (arms_of (if b then record a { labels = a.labels ++ (l ∷ []) } ∷ [] else a ∷ record { labels = l ∷ []; statements = program.Done } ∷ [])) ≤ units_of_arms o (arms_of (a ∷ []))
    by true = omega arith
    by false = omega arith
  label_units l (a ∷ b ∷ rest) = let h = label_units l (b ∷ rest) in omega (arith, h)

  never_empty : (l : Option ℕ) (a : Armed) (rest : List Armed) → counted (with_label l (a ∷ rest)) ≡ labels_of_last l (a ∷ rest)
  never_empty l a [] = by (is_done a.statements) where
    by : (b : Bool) → counted (if b then record a { labels = a.labels ++ (l ∷ []) } ∷ [] else a ∷ record { labels = l ∷ []; statements = program.Done } ∷ []) ≡ count_labels (arms_of (if b then record a { labels = a.labels ++ (l ∷ []) } ∷ [] else a ∷ record { labels = l ∷ []; statements = program.Done } ∷ []))
    by true = refl
    by false = refl
  never_empty l a (b ∷ rest) = refl

  label_few : (l : Option ℕ) (arms : List Armed) → armed (with_label l arms) ≤ armed arms + so_often n 2
  label_few l [] = let h = often_apart n 2 1 2 (omega arith) in omega (arith, h)
  label_few l (a ∷ rest) =
      let e = never_empty l a rest in
      let c = label_counts l a rest in
      let h = often_apart n (counted (with_label l (a ∷ rest))) (counted (a ∷ rest)) 2 (omega (arith, e, c)) in
      let u = label_units l (a ∷ rest) in omega (arith, h, u)

  statement_counts : (x : program.Statements) (arms : List Armed) → counted (with_statement x arms) ≤ counted arms
  statement_counts x [] = omega arith
  statement_counts x (a ∷ []) = omega arith
  statement_counts x (a ∷ b ∷ []) = omega arith
  statement_counts x (a ∷ b ∷ c ∷ rest) = let h = statement_counts x (b ∷ c ∷ rest) in omega (arith, h)

  statement_units : (x : program.Statements) (arms : List Armed) → units_of_arms o (arms_of (with_statement x arms)) ≤ units o x + units_of_arms o (arms_of arms)
  statement_units x [] = omega arith
  statement_units x (a ∷ []) = let h = units-behind o a.statements x in omega (arith, h)
  statement_units x (a ∷ b ∷ rest) = let h = statement_units x (b ∷ rest) in omega (arith, h)

  statement_few : (x : program.Statements) (arms : List Armed) → armed (with_statement x arms) ≤ units o x + armed arms
  statement_few x arms =
      let h = often_less n (counted (with_statement x arms)) (counted arms) (statement_counts x arms) in
      let g = statement_units x arms in omega (arith, h, g)

module _ (o : Often) (ls : List (List ℕ)) where
  low : 0 ≤ 1
  low = omega arith

  -- statements with at most so many units of work
  abbrev Few : ℕ → ℕ → CheckPlan program.Statements → Type 0
  Few n w m = Within ls (units o) n w m

  appended_few : {n w : ℕ} {m : CheckPlan program.Statements} (done : program.Statements) → Few n w m → Few n (units o done + w) (appended done m)
  appended_few done h = maps_reads h (λ s x e l. let g = units-behind o done x in omega (arith, l, g))

  -- ---- local declarations

  set_few : (p : Place) (s : Tables) (k w : ℕ) (e : program.Expression) → ticks e ≤ 3 * w → 1 ≤ w + w → units o (set_to p s k e) ≤ 4 * so_often (o.begun p) (1 + w)
  set_few p s k w e l some =
      let h = target_ticks (slice_get s.storages k) p in
      let t = storage_target (slice_get s.storages k) p in
      let g = often_few (o.begun p) (1 + (1 + (ticks_of_target t + ticks e))) (1 + w) (omega (arith, h, l)) in omega (arith, g)

  begun_few : (b : Bool) (p : Place) (s : Tables) (k : ℕ) → units o (if b then set_to p s k (program.Number 0) else program.Done) ≤ 4 * so_often (o.begun p) 1
  begun_few true p s k =
      let h = target_ticks (slice_get s.storages k) p in
      let t = storage_target (slice_get s.storages k) p in
      let g = often_few (o.begun p) (1 + (1 + (ticks_of_target t + 1))) 1 (omega (arith, h)) in omega (arith, g)
  begun_few false p s k = omega arith

  own_few : (b : Bool) (p : Place) (s : Tables) (k w : ℕ) (e : program.Expression) → names_stored (slice_get s.storages k) e ≡ b → ticks e ≤ 3 * w → 1 ≤ w → units o (own_set b p s k e) ≤ 4 * so_often (o.begun p) (1 + w)
  own_few false p s k w e h l some = set_few p s k w e l (omega (arith, some))
  own_few true p s k w e h l some =
      let z = stored_free (slice_get s.storages k) h in
      let t = storage_target (slice_get s.storages k) p in
      let g = often_both (o.begun p) (1 + (1 + (ticks_of_target t + 1))) (1 + (1 + (ticks_of_target t + ticks e))) (1 + w) (omega (arith, z, l, some)) in omega (arith, g) where
        stored_free : (q : Option Storage) → names_stored q e ≡ true → ticks_of_target (storage_target q p) ≡ 0
        stored_free (Some (storage.Variable v)) h = refl
        stored_free (Some (storage.Frame v)) h = cc
        stored_free None h = cc

  scalar_value_few : {n w : ℕ} {m : CheckPlan Typed} (p q : Place) (k : ℕ) → 1 ≤ w → Within ls value_ticks n (3 * w) m → Few n (4 * so_often (o.begun p) (1 + w)) (scalar_value_at p q k m)
  scalar_value_few {n} {w} {m} p q k some h = node_stays h (λ s x e l. record {
    grown = stays 0;
    small =
        let g = converted_ticks q s x (type_of_local s k) in
        own_few (names_stored (slice_get s.storages k) (converted q s x (type_of_local s k)).tree) p s k w (converted q s x (type_of_local s k)).tree refl (omega (arith, g, l)) some;
  })

  mutual
    scalar_few : (p : Place) (k : ℕ) (x : Initialiser) → Few (declares_in_initialiser x) (4 * so_often (o.begun p) (1 + nodes_of_initialiser x)) (plan_scalar p k x)
    scalar_few p k (tree.Value e) = scalar_value_few p (place_of e) k (some_nodes e) (value_of_few ls e)
    scalar_few p k (tree.Listed q js comma) = fewer (omega arith) (chain_within (node_keeps nothing_within (λ s x. stays 0)) (λ x l. first_scalar_few p k js))

    first_scalar_few : (p : Place) (k : ℕ) (xs : tree.Initialisers) → Few (declares_in_initialisers xs) (4 * so_often (o.begun p) (1 + nodes_of_first xs)) (plan_first_scalar p k xs)
    first_scalar_few p k tree.no_initialisers = pure_within program.Done (omega arith)
    first_scalar_few p k (tree.initialiser_then x xs) = fewer (omega arith) (scalar_few p k x)

  initialised_few : {n : ℕ} {m : CheckPlan Content} (p : Place) (k w : ℕ) → Within ls held n 0 m → Few n (4 * so_often (o.begun p) (1 + w)) (initialised_at p k m)
  initialised_few p k w h = maps_stays h (λ s x e l. record { grown = type_grown k x.type_id s; small = let g = often_few (o.begun p) 1 (1 + w) (omega arith) in omega (arith, g) })

  given_few : (p : Place) (k : ℕ) (x : Initialiser) (b : Bool) → Few (declares_in_initialiser x) (4 * so_often (o.begun p) (1 + nodes_of_initialiser x)) (plan_given p k x b)
  given_few p k x true = scalar_few p k x
  given_few p k x false =
      fewer (omega arith) (chain_within (looks_within {μ = none} {w = 0} (λ s. type_of_local s k) (λ s e. omega arith)) (λ t l.
      chain_within (looks_within {μ = none} {w = 0} (λ s. offset_of_local s k) (λ s e. omega arith)) (λ at l. initialised_few p k (nodes_of_initialiser x) (content_constant ls p at t x))))

  local_few : (p : Place) (x : Option (Place × Initialiser)) (k : Option ℕ) → Few (declares_in_value x) (4 * so_often (o.begun p) (1 + nodes_of_value x)) (plan_local p x k)
  local_few p None None = pure_within program.Done (omega arith)
  local_few p None (Some k) = looks_within _ (λ s e. begun_few (is_scalar (shape_of s (type_of_local s k))) p s k)
  local_few p (Some x) None = maps_reads (unused_initialiser_within 0 low ls x.1) (λ s f e l. omega arith)
  local_few p (Some x) (Some k) = fewer (omega arith) (chain_within (looks_within {μ = none} {w = 0} (λ s. is_scalar (shape_of s (type_of_local s k))) (λ s e. omega arith)) (λ b l. given_few p k x.1 b))

  typedef_few : (p : Place) (b : ℕ) (i : InitDeclarator) → Few (declares_in i.declarator + declares_in_value i.initialiser) 0 (plan_item_at true p b i)
  typedef_few p b i =
      let h = own_and_inner i.declarator in
      fewer (omega (arith, h)) (maps_reads (typedef_within 0 low ls p true (is_some i.initialiser) (declared_name i.declarator) (declarator_within 0 low ls p false b i.declarator)) (λ s x e l. omega arith))

  item_few : (p : Place) (b : ℕ) (i : InitDeclarator) → Few (declares_in i.declarator + declares_in_value i.initialiser) (4 * so_often (o.begun p) (1 + nodes_of_value i.initialiser)) (plan_item_at false p b i)
  item_few p b i =
      let h = own_and_inner i.declarator in
      let g = own_is i.declarator in
      fewer (omega (arith, h, g)) (chain_within (local_within 0 low ls p (is_some i.initialiser) (declared_name i.declarator) (declarator_within 0 low ls p false b i.declarator)) (λ k l. local_few p i.initialiser k))

  items_few : (q : Place) (is_typedef : Bool) (b : ℕ) (done : program.Statements) (items : List InitDeclarator) → Few (declares_in_items items) (units o done + 4 * written_items o is_typedef q items) (plan_items q is_typedef b done items)
  items_few q is_typedef b done [] = pure_within done (omega arith)
  items_few q true b done (i ∷ items) =
      fewer (omega arith) (chain_within (appended_few done (typedef_few (declared_place i.declarator q) b i)) (λ more l. lighter (omega (arith, l)) (items_few q true b more items)))
  items_few q false b done (i ∷ items) =
      fewer (omega arith) (chain_within (appended_few done (item_few (declared_place i.declarator q) b i)) (λ more l. lighter (omega (arith, l)) (items_few q false b more items)))

  declaration_few : (done : program.Statements) (d : Declaration) → Few (declares_in_specifiers d.specifiers + declares_in_items d.items) (units o done + 4 * written_items o (has_typedef d.specifiers) (place_of_specifiers d.specifiers d.end) d.items) (plan_declaration done d)
  declaration_few done d =
      chain_within (base_within d.specifiers (specifiers_within 0 low ls context.Block (is_alone d.items) None d.specifiers)) (λ b l. items_few (place_of_specifiers d.specifiers d.end) (has_typedef d.specifiers) b done d.items)

  declarations_few : (done : program.Statements) (ds : List Declaration) → Few (declares_in_declarations ds) (units o done + 4 * written_declarations o ds) (plan_declarations done ds)
  declarations_few done [] = pure_within done (omega arith)
  declarations_few done (d ∷ ds) = fewer (omega arith) (chain_within (declaration_few done d) (λ more l. lighter (omega (arith, l)) (declarations_few more ds)))

  -- ---- returns, evaluations and tests

  returned_few : (p : Place) (b : Bool) (w : ℕ) (e : program.Expression) → ticks e ≤ 3 * w → units o (returned p b e) ≤ 4 * so_often (o.begun p) (1 + w)
  returned_few p true w e l = let g = often_few (o.begun p) (1 + (1 + ticks e)) (1 + w) (omega (arith, l)) in omega (arith, g)
  returned_few p false w e l = let g = often_few (o.begun p) (1 + ticks e) (1 + w) (omega (arith, l)) in omega (arith, g)

  nothing_few : (p : Place) (b : Bool) → units o (nothing_returned p b) ≤ 4 * so_often (o.begun p) 1
  nothing_few p true = let g = often_few (o.begun p) 3 1 (omega arith) in omega (arith, g)
  nothing_few p false = omega arith

  result_ticks : (p : Place) (s : Tables) (t : Option ℕ) (x : Typed) → ticks (as_result p s t x) ≤ 1 + ticks x.tree
  result_ticks p s None x = omega arith
  result_ticks p s (Some t) x = converted_ticks p s x t

  return_few : (p : Place) (k : Surrounding) (e : Option Expression) → Few (declares_in_optional e) (4 * so_often (o.begun p) (1 + nodes_of_some e)) (plan_return p k e)
  return_few p k None = pure_within _ (nothing_few p k.is_main)
  return_few p k (Some e) = node_reads (value_of_few ls e) (λ s x q l.
      let h = result_ticks p s k.result x in
      returned_few p k.is_main (nodes e) (as_result p s k.result x) (omega (arith, h, l)))

  format_few : (p : Place) (n : Option ℕ) (given : ℕ) → Within ls conversions 0 given (format_at p n given)
  format_few p n given = record { comes = λ s e. format_asked p (format_of s n) given s }

  printed_few : (texts : List Bool) (i : ℕ) (done : List program.Expression) (es : Expressions) → Within ls printed_ticks (declares_in_all es) (printed_ticks done + 3 * nodes_of_all es) (plan_printed texts i done es)
  printed_few texts i done tree.no_expressions = pure_within done (omega arith)
  printed_few texts i done (tree.expression_then e es) =
      chain_within (node_reads {μ = value_ticks} {ν = printed_ticks} {v = printed_ticks done + 3 * nodes e} (value_of_few ls e) (λ s x q l. let h = printed-append done (x.tree ∷ []) in omega (arith, l, h)))
      (λ more l. lighter (omega (arith, l)) (printed_few texts (suc i) more es))

  printf_few : (p : Place) (es : Expressions) → Few (declares_in_all es) (4 * so_often (o.begun p) (1 + nodes_of_all es)) (plan_printf p es)
  printf_few p tree.no_expressions = asks_within (pure_within program.Done (omega arith))
  printf_few p (tree.expression_then e es) =
      fewer (omega arith) (chain_within (format_few (place_of e) (literal_in e) (count_of es))
      (λ ps l. maps_reads (printed_few (letters ps) 0 [] es) (λ s xs q k.
      let h = listed_printed xs in
      let c = arguments_counted es in
      let g = often_few (o.begun p) (1 + (ticks_of_printed (listed_all xs) + conversions ps)) (1 + nodes_of_all (tree.expression_then e es)) (omega (arith, l, k, h, c)) in omega (arith, g))))

  evaluation_few : (e : Expression) (b : Bool) → Few (declares e) (4 * so_often (o.begun (place_of e)) (1 + nodes e)) (plan_evaluation e b)
  evaluation_few e true =
      let h = often_less (o.begun (place_of e)) (1 + nodes_of_all (arguments_of e)) (1 + nodes e) (let g = arguments_nodes e in omega (arith, g)) in
      weaker (arguments_declare e) (omega (arith, h)) (printf_few (place_of e) (arguments_of e))
  evaluation_few e false = maps_reads (value_of_few ls e) (λ s x q l. let g = often_few (o.begun (place_of e)) (1 + ticks x.tree) (1 + nodes e) (omega (arith, l)) in omega (arith, g))

  evaluate_few : (e : Expression) → Few (declares e) (4 * so_often (o.begun (place_of e)) (1 + nodes e)) (plan_evaluate e)
  evaluate_few e = fewer (omega arith) (chain_within (looks_within {μ = none} {w = 0} (λ s. is_printf_name s (callee_name e)) (λ s q. omega arith)) (λ b l. evaluation_few e b))

  -- an expression that may be left out counts one more where it stands
  abbrev given_ticks : Option program.Expression → ℕ
  given_ticks None = 0
  given_ticks (Some e) = 1 + ticks e

  given_some : (x : Option program.Expression) → ticks_of_some x ≤ given_ticks x
  given_some None = omega arith
  given_some (Some e) = omega arith

  optional_few : (e : Option Expression) → Within ls given_ticks (declares_in_optional e) (3 * nodes_of_some e) (plan_optional e)
  optional_few None = pure_within None (omega arith)
  optional_few (Some e) = maps_reads (value_of_few ls e) (λ s x q l. omega (arith, l))

  condition_of_few : (e : Expression) → Within ls (λ x. 1 + ticks x) (declares e) (3 * nodes e) (plan_condition e)
  condition_of_few e = maps_reads (condition_few (place_of e) (plan_few ls e)) (λ s x q l. omega (arith, l))

  test_few : (e : Option Expression) → Within ls given_ticks (declares_in_optional e) (3 * nodes_of_some e) (plan_test e)
  test_few None = pure_within None (omega arith)
  test_few (Some e) = maps_reads (condition_of_few e) (λ s x q l. l)

  -- a condition that is evaluated so often, with one unit more each time
  tested_few : (n : ℕ) (e : Expression) → Within ls (λ x. so_often n (1 + ticks x)) (declares e) (4 * so_often n (1 + nodes e)) (plan_condition e)
  tested_few n e = measured (λ x l. often_few n (1 + ticks x) (1 + nodes e) (omega (arith, l))) (condition_of_few e)

  -- and without
  repeated_few : (n : ℕ) (e : Expression) → Within ls (λ x. so_often n (ticks x)) (declares e) (4 * so_often n (nodes e)) (plan_condition e)
  repeated_few n e = measured (λ x l. often_few n (ticks x) (nodes e) (omega (arith, l))) (condition_of_few e)

  turns_few : (n : ℕ) (e : Option Expression) → Within ls (λ x. so_often n (1 + ticks_of_some x)) (declares_in_optional e) (4 * so_often n (1 + nodes_of_some e)) (plan_test e)
  turns_few n e = measured (λ x l. let h = given_some x in often_few n (1 + ticks_of_some x) (1 + nodes_of_some e) (omega (arith, l, h))) (test_few e)

  steps_few : (n : ℕ) (e : Option Expression) → Within ls (λ x. so_often n (ticks_of_some x)) (declares_in_optional e) (4 * so_often n (nodes_of_some e)) (plan_optional e)
  steps_few n e = measured (λ x l. let h = given_some x in often_few n (ticks_of_some x) (nodes_of_some e) (omega (arith, l, h))) (optional_few e)

  -- the first expression of a `for`
  abbrev start_units : Place → Option program.Expression → ℕ
  start_units p None = 0
  start_units p (Some e) = so_often (o.begun p) (1 + ticks e)

  started_units : (p : Place) (x : Option program.Expression) (y : program.Statements) → units o (started p x y) ≡ start_units p x + units o y
  started_units p None y = omega arith
  started_units p (Some e) y = refl

  start_small : (p : Place) (a : Option Expression) (x : Option program.Expression) → given_ticks x ≤ 3 * nodes_of_some a → start_units (starting_place p a) x ≤ 4 * written_start o a
  start_small p None None h = omega arith
  start_small p None (Some e) h = absurd (omega (arith, h))
  start_small p (Some a) None h = omega arith
  start_small p (Some a) (Some e) h = often_few (o.begun (place_of a)) (1 + ticks e) (nodes a) (omega (arith, h))

  start_few : (p : Place) (a : Option Expression) → Within ls (start_units (starting_place p a)) (declares_in_optional a) (4 * written_start o a) (plan_optional a)
  start_few p a = measured (λ x l. start_small p a x l) (optional_few a)

  -- ---- the labels of a switch that is begun n times

  case_few : (n : ℕ) (p : Place) (a : Arming) (e : Expression) → Within ls (arming o n) (declares e) (arming o n a + so_often n 2) (case_at p a (label_at e))
  case_few n p a e = node_reads (constant_within (place_of e) (value_of_few ls e)) (λ s w q l. label_few o n (Some w) a.arms)

  default_few : (n : ℕ) (p : Place) (a : Arming) → Within ls (arming o n) 0 (arming o n a + so_often n 2) (default_at p a)
  default_few n p a = node_reads nothing_within (λ s x q l. label_few o n None a.arms)

  -- what a switch comes to, by what its value and its arms come to
  switch_few : (n labels : ℕ) (e : Expression) (x : Typed) (arms : List Armed) (w : ℕ) → so_often n (1 + ticks x.tree) + armed o n arms ≤ so_often n (3 * nodes e) + (4 * w + so_often n (1 + 2 * labels)) →
      so_often n (1 + (count_labels (arms_of arms) + ticks x.tree)) + units_of_arms o (arms_of arms) ≤ 4 * (so_often n (1 + (labels + nodes e)) + w)
  switch_few n labels e x arms w l =
      let a = often_apart n (1 + (count_labels (arms_of arms) + ticks x.tree)) (count_labels (arms_of arms)) (1 + ticks x.tree) (omega arith) in
      let b = often_less n (count_labels (arms_of arms)) (counted o n arms) (all_counted o n arms) in
      let c = often_both n (3 * nodes e) (1 + 2 * labels) (1 + (labels + nodes e)) (omega arith) in
      omega (arith, l, a, b, c)

  -- nothing stands behind the body of a `while`
  never_stepped : (p : Place) → so_often (o.stepped p) 0 ≤ 0
  never_stepped p = by (o.stepped p) where
    by : (n : ℕ) → so_often n 0 ≤ 0
    by zero = omega arith
    by (suc n) = let h = by n in omega (arith, h)

  -- ---- statements. A type that nothing needs makes the lemmas' types alike.

  mutual
    statement_at : (k : Surrounding) (t : Statement) (X : Type 0) → Few (declares_in_statement t) (4 * written o t) (plan_statement k t)
    statement_at k (tree.Block p ds ss) X =
        scoped_within (fewer (omega arith) (chain_within (declarations_few program.Done ds) (λ done l. lighter (omega (arith, l)) (statements_at k done ss X))))
    statement_at k (tree.Nothing p) X = pure_within program.Done (omega arith)
    statement_at k (tree.Evaluate e p) X = evaluate_few e
    statement_at k (tree.If p q e t) X = maps_reads (both_within (tested_few (o.begun p) e) (statement_at k t X)) (λ s x q l. omega (arith, l))
    statement_at k (tree.IfElse p q e t u) X = maps_reads (both_within (tested_few (o.begun p) e) (both_within (statement_at k t X) (statement_at k u X))) (λ s x q l. omega (arith, l))
    statement_at k (tree.While p q e t) X = maps_reads (both_within (tested_few (o.turned p) e) (statement_at (in_loop k) t X)) (λ s x q l. let g = never_stepped p in omega (arith, l, g))
    statement_at k (tree.Do p t q r e u) X = maps_reads (both_within (statement_at (in_loop k) t X) (repeated_few (o.stepped p) e)) (λ s x q l. omega (arith, l))
    statement_at k (tree.For p q a r b u d t) X =
        maps_reads (both_within (start_few p a) (both_within (turns_few (o.turned p) b) (both_within (steps_few (o.stepped p) d) (statement_at (in_loop k) t X))))
        (λ s x q l. let h = started_units (starting_place p a) x.0 (program.Loop p x.1.0 x.1.1.1 x.1.1.0 program.Done) in omega (arith, l, h))
    statement_at k (tree.Break p q) X = asks_within (pure_within _ (omega arith))
    statement_at k (tree.Continue p q) X = asks_within (pure_within _ (omega arith))
    statement_at k (tree.Return p e q) X = return_few p k e
    statement_at k (tree.Switch p q e t) X =
        maps_reads (both_within (asks_within (measured (λ x l. often_less (o.begun p) (1 + ticks x.tree) (3 * nodes e) l) (value_of_few ls e))) (body_at (o.begun p) (in_switch k) t (plan_statement (in_switch k) t) (statement_at (in_switch k) t X)))
        (λ s x q l. let h = switch_few (o.begun p) (labels_in t) e x.0 x.1 (written o t) l in omega (arith, h))
    statement_at k (tree.Case p e t) X =
        fewer (omega arith) (chain_within (chain_within (asks_within nothing_within) (λ x l. constant_within (place_of e) (value_of_few ls e))) (λ w l. statement_at k t X))
    statement_at k (tree.Default p t) X = fewer (omega arith) (chain_within (asks_within nothing_within) (λ x l. statement_at k t X))

    statements_at : (k : Surrounding) (done : program.Statements) (ts : Statements) (X : Type 0) → Few (declares_in_statements ts) (units o done + 4 * written_all o ts) (plan_statements k done ts)
    statements_at k done tree.no_statements X = pure_within done (omega arith)
    statements_at k done (tree.statement_then t ts) X = chain_within (appended_few done (statement_at k t X)) (λ more l. lighter (omega (arith, l)) (statements_at k more ts X))

    body_at : (n : ℕ) (k : Surrounding) (t : Statement) (m : CheckPlan program.Statements) → Few (declares_in_statement t) (4 * written o t) m → Within ls (armed o n) (declares_in_statement t) (4 * written o t + so_often n (1 + 2 * labels_in t)) (plan_body k t m)
    body_at n k (tree.Block p ds ss) m h =
        let g = often_joined n 1 (2 * labels_of_all ss) (1 + 2 * labels_of_all ss) (omega arith) in
        scoped_within (weaker (omega arith) (omega (arith, g)) (chain_within (node_keeps nothing_within (λ s x. stays 0)) (λ x l. chain_within (declarations_few program.Done ds) (λ y l. arms_at n k (record { seen = []; arms = [] }) ss (Unit {0})))))
    body_at n k t m h = let g = often_less n 1 (1 + 2 * labels_in t) (omega arith) in fewer (omega arith) (chain_within (asks_within nothing_within) (λ x l. maps_reads h (λ s y q l. omega (arith, g))))

    arms_at : (n : ℕ) (k : Surrounding) (a : Arming) (ts : Statements) (X : Type 0) → Within ls (armed o n) (declares_in_statements ts) (arming o n a + (so_often n (2 * labels_of_all ts) + 4 * written_all o ts)) (plan_arms k a ts)
    arms_at n k a tree.no_statements X = pure_within a.arms (omega arith)
    arms_at n k a (tree.statement_then t ts) X =
        let g = often_joined n (2 * labels_before t) (2 * labels_of_all ts) (2 * (labels_before t + labels_of_all ts)) (omega arith) in
        chain_within (labelled_at n k a t (plan_statement k t) (statement_at k t X)) (λ b l. lighter (omega (arith, l, g)) (arms_at n k b ts X))

    labelled_at : (n : ℕ) (k : Surrounding) (a : Arming) (t : Statement) (m : CheckPlan program.Statements) → Few (declares_in_statement t) (4 * written o t) m → Within ls (arming o n) (declares_in_statement t) (arming o n a + (so_often n (2 * labels_before t) + 4 * written o t)) (plan_labelled k a t m)
    labelled_at n k a (tree.Case p e t) m h =
        let g = often_joined n 2 (2 * labels_before t) (2 * (1 + labels_before t)) (omega arith) in
        chain_within (case_few n p a e) (λ b l. lighter (omega (arith, l, g)) (labelled_at n k b t (plan_statement k t) (statement_at k t (Unit {0}))))
    labelled_at n k a (tree.Default p t) m h =
        let g = often_joined n 2 (2 * labels_before t) (2 * (1 + labels_before t)) (omega arith) in
        fewer (omega arith) (chain_within (default_few n p a) (λ b l. lighter (omega (arith, l, g)) (labelled_at n k b t (plan_statement k t) (statement_at k t (Unit {0})))))
    labelled_at n k a t m h = maps_reads h (λ s x q l. let g = statement_few o n x a.arms in omega (arith, l, g))

  -- the body of a function
  block_few : (k : Surrounding) (ds : List Declaration) (ss : Statements) → Few (declares_in_declarations ds + declares_in_statements ss) (4 * (written_declarations o ds + written_all o ss)) (plan_block k ds ss)
  block_few k ds ss = chain_within (declarations_few program.Done ds) (λ done l. lighter (omega (arith, l)) (statements_at k done ss (Unit {0})))

pub blocks_are_few : BlocksAreFew
blocks_are_few o k ds ss s t x h =
    (IfOk-at_ok (Got (units o) (declares_in_declarations ds + declares_in_statements ss) (4 * (written_declarations o ds + written_all o ss)) s) h ((block_few o s.literals k ds ss).comes s refl)).small

-- The initialised objects of a file hold numbers and addresses alone: by induction over the plan of the file, with the measure of
-- the items that are neither.
use Rattle.std.proofs.Common.{◌≡◌, ℕ, ◌+◌, ◌≤◌, Bool, true, false, List, [], ◌∷◌, ◌++◌, Option, Some, None, Result, Ok, Err, refl, sym, ap, ◌∙◌, subst, arith}
use Rattle.std.proofs.lemmas.Result.{IfOk-at_ok}
use Rattle.std.specs.Prelude.{IfOk, slice_get, is_some, not}
use Rattle.std.specs.List.{AllByRecursion}
use Rattle.dae_base.specs.declared.Place.{Place}
use Rattle.dae_tree.specs.declared.words.Keyword.{Keyword}
use Rattle.dae_tree.specs.declared.expressions.Name.{Name}
use Rattle.dae_tree.specs.FileViews.{view_externals}
use Rattle.dae_tree.specs.Trees as tree
use Rattle.dae_tree.specs.Trees.{Specifiers, Declarator, Parameters, Initialiser, InitDeclarator, Declaration, Statements, External}
use Rattle.dae_tree.specs.Depth.{place_of_specifiers}
use Rattle.dae_tree.specs.Names.{declared_name, has_typedef, function_part}
use Rattle.dae_program.specs.Trees as program
use Rattle.dae_program.specs.Views.{view, view_settings}
use Rattle.dae_program.specs.declared.expressions.Expression.TheVariants as expression
use Rattle.dae_program.specs.declared.expressions.Expression.{Expression}
use Rattle.dae_program.specs.declared.statements.Setting.{Setting}
use Rattle.dae_types_kinds.specs.declared.rules.Breach.{Breach}
use Rattle.dae_types_kinds.specs.declared.tables.Context.TheVariants as context
use Rattle.dae_types_kinds.specs.Tables.{Tables}
use Rattle.dae_types_kinds.specs.Types.{shape_of, is_function}
use Rattle.dae_types_rules.specs.Table.{is_extern, is_static}
use Rattle.dae_types_rules.specs.Plan.{CheckPlan, pure, maps, check_of, IsChecked}
use Rattle.dae_types_plans.specs.Steps.{changes_to, declared_place}
use Rattle.dae_types_file_plans.specs.declared.declarations.Role.{Role}
use Rattle.dae_types_file_plans.specs.declared.declarations.Role.TheVariants.{Reference, Definition}
use Rattle.dae_types_file_plans.specs.Promise.{FilesAreChecked}
use Rattle.dae_types_file_plans.specs.Statements.{is_alone}
use Rattle.dae_types_file_plans.specs.Files.{Product, Declares, Data, Body, role_of, declares_object, declares_function, type_of_object, plan_data, plan_either, plan_typed, plan_item_at, plan_items, storage_of, plan_declared, is_direct, started, parameters_in, count_parameters, surrounding, is_main_name, settled_locals, keep_scope, body_product, second_time, twice, plan_body_of, plan_defined_as, plan_defined, plan_external, plan_externals, plan_file}
use Rattle.dae_types_typed.specs.Reading.{ObjectContent, contents_in, view_data}
use Rattle.dae_types_typed.specs.declared.files.Datum.{Datum}
use Rattle.dae_types_typed.specs.declared.files.FileParts.{FileParts}
use Rattle.dae_sizes.specs.Worth.{declares_in_value}
use Rattle.dae_sizes.specs.Data.{IsNumberOrAddress, HasConstant, HoldsConstants, HasConstantData, DataAreConstant}
use Rattle.dae_sizes.specs.Small.{IsPlanned}
use Rattle.dae_sizes.specs.Sources.{start_by}
use Rattle.dae_sizes.proofs.Within.{Within, none, stays, fewer, unmeasured, pure_within, node_reads, maps_stays, maps_reads, chain_within, nothing_within, looks_within, settles_within}
use Rattle.dae_sizes.proofs.Steps.{base_within, maps_keeps}
use Rattle.dae_sizes.proofs.Expressions.{inner, declarator_within, specifiers_within}
use Rattle.dae_sizes.proofs.Initialisers.{unused_initialiser_within}
use Rattle.dae_sizes.proofs.Statements.{typedef_within, block_within}
use Rattle.dae_sizes.proofs.Constants.{other, others, content_constant}
use Rattle.dae_sizes.proofs.Leads.{Come, Leads, leads_pure, leads_maps, leads_node, leads_chain, leads_settled, leads_within}
use Rattle.dae_sizes.proofs.Files.{object_type_grown, function_at_within, object_at_within, first_within, in_body_within, second_at_within, definition_at_within}

-- ---- the items of the data among products that are neither numbers nor addresses

abbrev odd : List Product → ℕ
odd [] = 0
odd (Declares d ∷ xs) = odd xs
odd (Data o items ∷ xs) = others items + odd xs
odd (Body f locals storages body ∷ xs) = odd xs

odd-append : (xs ys : List Product) → odd (xs ++ ys) ≡ odd xs + odd ys
odd-append [] ys = omega arith
odd-append (Declares d ∷ xs) ys = odd-append xs ys
odd-append (Data o items ∷ xs) ys = let h = odd-append xs ys in omega (arith, h)
odd-append (Body f locals storages body ∷ xs) ys = odd-append xs ys

behind_clean : (xs ys : List Product) → odd xs ≤ 0 → odd ys ≤ 0 → odd (xs ++ ys) ≤ 0
behind_clean xs ys h k = let e = odd-append xs ys in omega (arith, h, k, e)

object_declared : (p : Place) (r : Role) (o : Option ℕ) → odd (declares_object p r o) ≤ 0
object_declared p r None = omega arith
object_declared p r (Some o) = omega arith

function_declared : (p : Place) (r : Role) (f : Option ℕ) → odd (declares_function p r f) ≤ 0
function_declared p r None = omega arith
function_declared p r (Some f) = omega arith

-- ---- files

module _ (ls : List (List ℕ)) where
  low : 0 ≤ 1
  low = omega arith

  data_clean : (p : Place) (x : Option (Place × Initialiser)) (o : Option ℕ) → Within ls odd (declares_in_value x) 0 (plan_data p x o)
  data_clean p None o = pure_within [] (omega arith)
  data_clean p (Some x) None = maps_reads (unused_initialiser_within 0 low ls x.1) (λ s f e l. omega arith)
  data_clean p (Some x) (Some o) =
      fewer (omega arith) (chain_within (looks_within {μ = none} {w = 0} (λ s. type_of_object s o) (λ s e. omega arith))
      (λ t l. maps_stays (content_constant ls p 0 t x.1) (λ s y e l. record { grown = object_type_grown o y.type_id s (slice_get s.objects o); small = omega (arith, l) })))

  either_clean : (p : Place) (k : Option Keyword) (i : InitDeclarator) (t : ℕ) (b : Bool) → Within ls odd (declares_in_value i.initialiser) 0 (plan_either p k i t b)
  either_clean p k i t true = fewer (omega arith) (maps_reads (function_at_within 0 low ls p _ _ (declared_name i.declarator) t) (λ s f e l. function_declared p Reference f))
  either_clean p k i t false =
      fewer (omega arith) (chain_within (object_at_within 0 low ls p k (is_some i.initialiser) (declared_name i.declarator) t) (λ o l. maps_reads (data_clean p i.initialiser o) (λ s xs e l.
      let r = role_of (is_some i.initialiser) (not (is_extern k)) in
      behind_clean (declares_object p r o) xs (object_declared p r o) l)))

  typed_clean : (p : Place) (k : Option Keyword) (i : InitDeclarator) (t : Option ℕ) → Within ls odd (declares_in_value i.initialiser) 0 (plan_typed p k i t)
  typed_clean p k i None = data_clean p i.initialiser None
  typed_clean p k i (Some t) = fewer (omega arith) (chain_within (looks_within {μ = none} {w = 0} (λ s. is_function (shape_of s t)) (λ s e. omega arith)) (λ b l. either_clean p k i t b))

  item_clean : (is_typedef : Bool) (p : Place) (k : Option Keyword) (b : ℕ) (i : InitDeclarator) → Within ls odd (inner i.declarator + declares_in_value i.initialiser) 0 (plan_item_at is_typedef p k b i)
  item_clean true p k b i = fewer (omega arith) (maps_reads (typedef_within 0 low ls p false (is_some i.initialiser) (declared_name i.declarator) (declarator_within 0 low ls p false b i.declarator)) (λ s x e l. omega arith))
  item_clean false p k b i =
      chain_within (settles_within (declared_name i.declarator) (maps_keeps (unmeasured (declarator_within 0 low ls p false b i.declarator)) (λ s x. stays 0))) (λ t l. typed_clean p k i t)

  -- nothing is known of the tables
  abbrev Any : {A : Type 0} → Tables → A → Type 0
  Any s x = Unit {0}

  abbrev Start : Tables → Type 0
  Start s = Unit {0}

  abbrev Clean : Tables → List Product → Type 0
  Clean s xs = odd xs ≤ 0

  items_clean : (is_typedef : Bool) (q : Place) (k : Option Keyword) (b : ℕ) (done : List Product) (items : List InitDeclarator) → Leads ls (λ s. odd done ≤ 0) Clean (plan_items is_typedef q k b done items)
  items_clean is_typedef q k b done [] = leads_pure done (λ s h. h)
  items_clean is_typedef q k b done (i ∷ items) =
      leads_chain {Between = Clean}
      (leads_maps {Between = λ s xs. odd (done ++ xs) ≤ 0} (leads_within (item_clean is_typedef (declared_place i.declarator q) k b i) (λ s t x h g l. behind_clean done x h l))
      (λ s xs e h. record { literals = e; so = h }))
      (λ more. items_clean is_typedef q k b more items)

  declared_clean : (done : List Product) (d : Declaration) → Leads ls (λ s. odd done ≤ 0) Clean (plan_declared done d)
  declared_clean done d =
      leads_chain {Between = λ s x. odd done ≤ 0} (leads_within (base_within d.specifiers (specifiers_within 0 low ls context.File (is_alone d.items) None d.specifiers)) (λ s t x h g l. h))
      (λ b. items_clean (has_typedef d.specifiers) (place_of_specifiers d.specifiers d.end) (storage_of d.specifiers) b done d.items)

  -- ---- a definition gives no data

  body_clean : (f : Option ℕ) (s : Tables) (y : program.Statements) → odd (elim f [ None ↦ [] | Some g ↦ body_product g s y ]) ≤ 0
  body_clean None s y = omega arith
  body_clean (Some g) s y = omega arith

  looked : {A : Type 0} (f : Tables → A) → Leads ls Start Any (maps (λ s x. (s, f s)) (pure (tt {0})))
  looked f = leads_maps {Between = λ s u. Unit {0}} (leads_pure (tt {0}) (λ s h. tt)) (λ s u e h. record { literals = e; so = tt })

  altered : (f : Tables → Tables) → ((s : Tables) → (f s).literals ≡ s.literals) → Leads ls Start Any (maps (λ s x. (f s, tt {0})) (pure (tt {0})))
  altered f k = leads_maps {Between = λ s u. Unit {0}} (leads_pure (tt {0}) (λ s h. tt)) (λ s u e h. record { literals = k s ∙ e; so = tt })

  second_clean : {b w : ℕ} {μ : program.Statements → ℕ} {m : CheckPlan program.Statements} (f : Option ℕ) → Within ls μ b w m → Leads ls Start Clean (second_time f m)
  second_clean f h = leads_maps {Between = Any} (leads_within (in_body_within 0 low ls h) (λ s t y h g l. tt)) (λ s y e h. record { literals = e; so = body_clean f s y })

  settled : (n : ℕ) (olds : List Tables) → Leads ls Start Any (changes_to (λ s. settled_locals n (elim olds [ [] ↦ s | old ∷ rest ↦ keep_scope old s ])))
  settled n [] = altered (λ s. settled_locals n s) (λ s. refl)
  settled n (old ∷ rest) = altered (λ s. settled_locals n (keep_scope old s)) (λ s. refl)

  twice_clean : {b w : ℕ} {μ : program.Statements → ℕ} {m : CheckPlan program.Statements} (n : ℕ) (f : Option ℕ) → Within ls μ b w m → Leads ls Start Clean (twice n f m)
  twice_clean n f h =
      leads_chain {Between = Any} (looked (λ s. s ∷ []))
      (λ olds. leads_chain {Between = Any} (leads_within (first_within 0 low ls n h) (λ s t u h g l. tt))
      (λ u. leads_chain {Between = Any} (settled n olds) (λ y. second_clean f h)))

  block_clean : (p : Place) (name : Option Name) (ps : Parameters) (ds : List Declaration) (ss : Statements) (t f : Option ℕ) → Leads ls Start Clean (plan_body_of p name ps ds ss t f)
  block_clean p name ps ds ss t f =
      leads_chain {Between = Any} (leads_within (node_reads {ν = none} {v = 0} nothing_within (λ s x e l. omega arith)) (λ s t x h g l. tt))
      (λ u. leads_chain {Between = Any} (looked (λ s. surrounding s (is_main_name s name) t))
      (λ round. twice_clean (count_parameters ps) f (block_within 0 low ls round ds ss)))

  defined_as_clean : (p : Place) (word : Option Keyword) (name : Option Name) (ps : Parameters) (ds : List Declaration) (ss : Statements) (t : Option ℕ) → Leads ls Start Clean (plan_defined_as p word name ps ds ss t)
  defined_as_clean p word name ps ds ss None = block_clean p name ps ds ss None None
  defined_as_clean p word name ps ds ss (Some t) =
      leads_chain {Between = Any} (leads_within (second_at_within 0 low ls p (function_at_within 0 low ls p (is_static word) false name t)) (λ s u f h g l. tt))
      (λ f. leads_maps {Between = Clean} (block_clean p name ps ds ss (Some t) f) (λ s xs e h. record { literals = e; so = behind_clean (declares_function p Definition f) xs (function_declared p Definition f) h }))

  clean_behind : (done : List Product) → odd done ≤ 0 → (r : Result (Tables × List Product) Breach) → IfOk r (Come ls Clean) → IfOk r (Come ls (λ s xs. odd (done ++ xs) ≤ 0))
  clean_behind done b (Ok x) q = record { literals = q.literals; so = behind_clean done x.1 b q.so }
  clean_behind done b (Err f) q = tt

  produced_clean : (done : List Product) {m : CheckPlan (List Product)} → Leads ls Start Clean m → Leads ls (λ s. odd done ≤ 0) Clean (maps (λ s xs. (s, done ++ xs)) m)
  produced_clean done {m} h =
      leads_maps {Between = λ s xs. odd (done ++ xs) ≤ 0} (record { leads = λ s e b. clean_behind done b (check_of m s) (h.leads s e tt) })
      (λ s xs e g. record { literals = e; so = g })

  defined_clean : (done : List Product) (ws : Specifiers) (d : Declarator) (q : Place) (ds : List Declaration) (ss : Statements) → Leads ls (λ s. odd done ≤ 0) Clean (plan_defined done ws d q ds ss)
  defined_clean done ws d q ds ss =
      let p = declared_place d (place_of_specifiers ws q) in
      let name = declared_name d in
      produced_clean done
      (leads_chain {Between = Any} (altered started (λ s. refl))
      (λ u. leads_chain {Between = Any} (leads_within (base_within ws (specifiers_within 0 low ls context.File false None ws)) (λ s t b h g l. tt))
      (λ b. leads_chain {Between = Any}
      (leads_settled name (leads_within (definition_at_within 0 low ls p (has_typedef ws) (is_direct d) (declarator_within 0 low ls p false b d)) (λ s u t h g l. tt)))
      (λ t. defined_as_clean p (storage_of ws) name (parameters_in (function_part d)) ds ss t))))

  external_clean : (done : List Product) (x : External) → Leads ls (λ s. odd done ≤ 0) Clean (plan_external done x)
  external_clean done (tree.Declared d) = declared_clean done d
  external_clean done (tree.Defined ws d q ds ss) = defined_clean done ws d q ds ss

  externals_clean : (done : List Product) (xs : List External) → Leads ls (λ s. odd done ≤ 0) Clean (plan_externals done xs)
  externals_clean done [] = leads_pure done (λ s h. h)
  externals_clean done (x ∷ xs) = leads_chain {Between = Clean} (external_clean done x) (λ more. externals_clean more xs)

  file_clean : (xs : List External) → Leads ls (λ s. 0 ≤ 0) Clean (plan_file xs)
  file_clean xs = leads_node {Between = Clean} (externals_clean [] xs) (λ s r e h. record { literals = e; so = h })

clean_products : (xs : List External) (s t : Tables) (products : List Product) → check_of (plan_file xs) s ≡ Ok (t, products) → odd products ≤ 0
clean_products xs s t products h = (IfOk-at_ok (Come s.literals (λ u r. odd r ≤ 0)) h ((file_clean s.literals xs).leads s refl (omega arith))).so

-- what no rule is broken in is what a check gives
clean_checked : FilesAreChecked → (xs : List External) (s t : Tables) (products : List Product) → IsChecked (plan_file xs) s (Ok (t, products)) → odd products ≤ 0
clean_checked checked xs s t products h = by (check_of (plan_file xs) s) refl (checked xs s) where
  some_same : {X : Type 0} (d : X) (x y : X) → Some x ≡ Some y → x ≡ y
  some_same d x y e = ap (λ o. elim o [ None ↦ d | Some z ↦ z ]) e

  by : (r : Result (Tables × List Product) Breach) → check_of (plan_file xs) s ≡ r → IsChecked (plan_file xs) s r → odd products ≤ 0
  by (Ok y) e k = subst (λ (ps : List Product). odd ps ≤ 0) (some_same products y.1 products (sym k.0.1 ∙ h.0.1)) (clean_products xs s y.0 y.1 e)
  by (Err f) e k = absurd (h.1 f.rule f.place k)

-- ---- the data in memory

constant_value : (e : Expression) → other (view e) ≤ 0 → IsNumberOrAddress e
constant_value (expression.Number k) h = tt
constant_value (expression.Address object offset) h = tt
constant_value (expression.Frame p offset) h = absurd (omega (arith, h))
constant_value (expression.Variable p v) h = absurd (omega (arith, h))
constant_value (expression.Read' p kind checked b a) h = absurd (omega (arith, h))
constant_value (expression.Convert' p kind b a) h = absurd (omega (arith, h))
constant_value (expression.Not' p b a) h = absurd (omega (arith, h))
constant_value (expression.Binary' p operator b a c d) h = absurd (omega (arith, h))
constant_value (expression.Compare' p comparison turned b a c d) h = absurd (omega (arith, h))
constant_value (expression.And' p b a c d) h = absurd (omega (arith, h))
constant_value (expression.Or' p b a c d) h = absurd (omega (arith, h))
constant_value (expression.Conditional' p b a c d e f) h = absurd (omega (arith, h))
constant_value (expression.Comma' b a c d) h = absurd (omega (arith, h))
constant_value (expression.Assign' p kind t b a) h = absurd (omega (arith, h))
constant_value (expression.Update' p kind t operator b a) h = absurd (omega (arith, h))
constant_value (expression.Step p kind t change fixity) h = absurd (omega (arith, h))
constant_value (expression.Call' p f shape row) h = absurd (omega (arith, h))
constant_value (expression.Putchar' p b a) h = absurd (omega (arith, h))
constant_value (expression.Exit' p b a) h = absurd (omega (arith, h))
constant_value (expression.Abort p) h = absurd (omega (arith, h))

constant_items : (xs : List Setting) → others (view_settings xs) ≤ 0 → AllByRecursion HasConstant xs
constant_items [] h = tt
constant_items (x ∷ xs) h = (constant_value x.value (omega (arith, h)), constant_items xs (omega (arith, h)))

abbrev odd_in : List ObjectContent → ℕ
odd_in [] = 0
odd_in (c ∷ cs) = others c.settings + odd_in cs

odd_contents : (xs : List Product) → odd_in (contents_in xs) ≡ odd xs
odd_contents [] = refl
odd_contents (Declares d ∷ xs) = odd_contents xs
odd_contents (Data o items ∷ xs) = let h = odd_contents xs in omega (arith, h)
odd_contents (Body f locals storages body ∷ xs) = odd_contents xs

constant_data : (ds : List Datum) → odd_in (view_data ds) ≤ 0 → AllByRecursion HoldsConstants ds
constant_data [] h = tt
constant_data (d ∷ ds) h = (constant_items d.settings (omega (arith, h)), constant_data ds (omega (arith, h)))

file_constant : FilesAreChecked → (xs : List External) (s : Tables) (file : FileParts) → IsPlanned xs s file → HasConstantData file
file_constant checked xs s file is =
    let reads = is.reads in
    let h = clean_checked checked xs s is.tables is.products is.checked in
    let e = ap odd_in reads.contents ∙ odd_contents is.products in
    constant_data file.contents (rw e h)

pub data_are_constant : FilesAreChecked → DataAreConstant
data_are_constant checked [] [] t = tt
data_are_constant checked [] (f ∷ fs) t = absurd t
data_are_constant checked (c ∷ cs) [] t = absurd t
data_are_constant checked (c ∷ cs) (f ∷ fs) t =
    let is = t.0 in (file_constant checked (view_externals c.externals) (start_by c is.numbers) f is.typed, data_are_constant checked cs fs t.1)

-- No statement tests the value of a call of exit or abort: by induction over the plans of initialisers, declarations and statements.
use Rattle.std.proofs.Common.{◌≡◌, ℕ, suc, ◌+◌, ◌≤◌, ◌<◌, Bool, true, false, List, [], ◌∷◌, ◌++◌, length, Option, Some, None, if◌then◌else◌, refl, ap, arith}
use Rattle.std.specs.Prelude.{slice_get, is_some}
use Rattle.dae_base.specs.declared.Place.{Place}
use Rattle.dae_tree.specs.declared.expressions.Name.{Name}
use Rattle.dae_tree.specs.Trees as tree
use Rattle.dae_tree.specs.Trees.{Expression, Expressions, Initialiser, Initialisers, InitDeclarator, Declaration, Statement, Statements}
use Rattle.dae_tree.specs.Depth.{place_of, place_of_specifiers}
use Rattle.dae_tree.specs.Names.{declared_name, has_typedef}
use Rattle.dae_program.specs.Expressions.{bit}
use Rattle.dae_program.specs.Trees as program
use Rattle.dae_types_kinds.specs.declared.tables.Context.TheVariants as context
use Rattle.dae_types_kinds.specs.declared.tables.Entity.TheVariants as entity
use Rattle.dae_types_kinds.specs.declared.tables.NamedType.{NamedType}
use Rattle.dae_types_kinds.specs.declared.tables.Storage.{Storage}
use Rattle.dae_types_kinds.specs.declared.tables.Storage.TheVariants as storage
use Rattle.dae_types_kinds.specs.declared.types.Shape.{Shape}
use Rattle.dae_types_kinds.specs.declared.types.Shape.TheVariants as shape
use Rattle.dae_types_kinds.specs.Tables.{Tables}
use Rattle.dae_types_kinds.specs.Types.{shape_of, is_scalar, int_id}
use Rattle.dae_types_kinds.specs.Values.{Typed, converted, number}
use Rattle.dae_types_rules.specs.Plan.{CheckPlan, pure, node}
use Rattle.dae_types_rules.specs.Sites.{Site}
use Rattle.dae_types_plans.specs.Steps.{declared_place}
use Rattle.dae_types_plans.specs.Expressions.{plan_value}
use Rattle.dae_types_file_plans.specs.declared.surroundings.Surrounding.{Surrounding}
use Rattle.dae_types_file_plans.specs.Formats.{letters}
use Rattle.dae_types_file_plans.specs.Initialisers.{Once, Filling, Landing, empty_filling, Content, over, literal_in, landing_at, item_at, value_item, list_at, plan_initialiser, plan_initialisers, plan_unused_initialiser, whole_by, is_value_for, filled_type, plan_content}
use Rattle.dae_types_file_plans.specs.Statements.{behind_all, appended, with_typedef, typedef_at, local_at, type_of_local, storage_target, offset_of_local, set_to, own_set, names_stored, scalar_value_at, plan_scalar, plan_first_scalar, with_type, initialised_at, plan_given, plan_local, plan_item_at, plan_items, is_alone, plan_declaration, plan_declarations, in_loop, in_switch, returned, nothing_returned, as_result, plan_return, is_printf_name, callee_name, arguments_of, plan_evaluation, plan_evaluate, Armed, arms_of, is_done, with_label, with_statement, Arming, case_at, default_at, label_at, plan_optional, plan_condition, plan_test, started, starting_place, plan_statement, plan_statements, plan_body, plan_arms, plan_labelled, plan_block, plan_printed, listed_all, plan_printf}
use Rattle.dae_lower_bounds.specs.Voids.{void_in, void_in_target, void_in_all, void_in_some, void_test, void_some, void_statements, void_arms}
use Rattle.dae_void_laws.proofs.Kept.{Extends, Kept, Leads, Any, Anything, leads_pure, leads_maps, leads_node, leads_chain, leads_both, leads_before, leads_carry, leads_if, leads_given, leads_pardons, leads_named, come_same, leads_reads, leads_sites, leads_nothing, leads_looks, leads_scoped, Wider, wide, come_wider, shape_wider, kept_name}
use Rattle.dae_void_laws.proofs.Values.{Clean, Honest, converted_in, void_in_list, void-append}
use Rattle.dae_void_laws.proofs.Steps.{There, NamedThere, Passed, there_lasts, base_leads, constant_leads, integer_leads, condition_leads, local_wider}
use Rattle.dae_void_laws.proofs.Plans.{tested_lasts, specifiers_lead, declarator_leads, plan_leads, value_of_leads}

-- ---- initialisers: what they give is of no account

landing_leads : (p : Place) (n : Option ℕ) (f : Filling) (x : Typed) → Leads Any Anything (landing_at p n f x)
landing_leads p n f x = leads_sites {Between = Anything} leads_nothing (λ s y k l u. tt)

item_leads : (p : Place) (n : Option ℕ) (x : Typed) (l : Landing) → Leads Any Anything (item_at p n x l)
item_leads p n x l = leads_pardons l.filling (leads_sites {Between = Anything} leads_nothing (λ s y k b u. tt))

value_item_leads : (e : Expression) (f : Filling) → Leads Any Anything (value_item (place_of e) (literal_in e) f (plan_value e))
value_item_leads e f =
    leads_chain {Between = Honest} (leads_pardons (number 0 int_id) (value_of_leads e))
    (λ x. leads_before (λ xs h. tt) (leads_pardons (over f) (leads_chain {Between = Anything} (landing_leads (place_of e) (literal_in e) f x) (λ l. item_leads (place_of e) (literal_in e) x l))))

list_leads : (p : Place) (f : Filling) (js : Initialisers) (fill : Filling → CheckPlan Filling) → ((g : Filling) → Leads Any Anything (fill g)) → Leads Any Anything (list_at p f js fill)
list_leads p f js fill h =
    leads_pardons (over f) (leads_chain {Between = Anything} (leads_sites {Between = Anything} leads_nothing (λ s y k l u. tt)) (λ o. leads_reads (h o.inside) (λ s g k l. tt)))

mutual
  initialiser_leads : (f : Filling) (x : Initialiser) → Leads Any Anything (plan_initialiser f x)
  initialiser_leads f (tree.Value e) = value_item_leads e f
  initialiser_leads f (tree.Listed p js comma) = list_leads p f js (λ g. plan_initialisers g js) (λ g. initialisers_lead g js)

  initialisers_lead : (f : Filling) (xs : Initialisers) → Leads Any Anything (plan_initialisers f xs)
  initialisers_lead f tree.no_initialisers = leads_pure f (λ xs l b. tt)
  initialisers_lead f (tree.initialiser_then x xs) = leads_chain {Between = Anything} (initialiser_leads f x) (λ g. initialisers_lead g xs)

pub unused_leads : (x : Initialiser) → Leads Any Anything (plan_unused_initialiser x)
unused_leads x = initialiser_leads (over (empty_filling [])) x

filled_wider : (s : Tables) (t n : ℕ) (u : Shape) → Wider s (filled_type s t n u).0
filled_wider s t n (shape.Array u None) = shape_wider (shape.Array u (Some n)) s
filled_wider s t n u = wide s

whole_leads : (o t : ℕ) (x : Initialiser) (b : Bool) → Leads Any Anything (whole_by o t x b)
whole_leads o t (tree.Value e) true = leads_sites (value_of_leads e) (λ s x k l u. tt)
whole_leads o t (tree.Value e) false = initialiser_leads (empty_filling (Once o t ∷ [])) (tree.Value e)
whole_leads o t (tree.Listed p js comma) b = initialiser_leads (empty_filling (Once o t ∷ [])) (tree.Listed p js comma)

pub content_leads : (p : Place) (o t : ℕ) (x : Initialiser) → Leads Any Anything (plan_content p o t x)
content_leads p o t x =
    leads_sites {Between = Anything} (leads_maps {Between = Anything} (leads_chain {Between = Anything} (leads_looks (λ s. is_value_for s t x) (λ s k b. tt)) (λ b. whole_leads o t x b))
    (λ s f k l. come_wider (filled_wider s t f.count (shape_of s t)) k tt)) (λ s x k l u. tt)

-- ---- one statement behind others

void-behind : (a b : program.Statements) → void_statements (behind_all a b) ≡ void_statements a + void_statements b
void-behind program.Done b = omega arith
void-behind (program.Evaluate p e k) b = let h = void-behind k b in omega (arith, h)
void-behind (program.Initialise p offset size items k) b = void-behind k b
void-behind (program.Print p es pieces k) b = let h = void-behind k b in omega (arith, h)
void-behind (program.If p e s t k) b = let h = void-behind k b in omega (arith, h)
void-behind (program.Loop p e body step k) b = let h = void-behind k b in omega (arith, h)
void-behind (program.Do p body e k) b = let h = void-behind k b in omega (arith, h)
void-behind (program.Switch p e arms k) b = let h = void-behind k b in omega (arith, h)
void-behind (program.Break p k) b = void-behind k b
void-behind (program.Continue p k) b = void-behind k b
void-behind (program.Return p e k) b = let h = void-behind k b in omega (arith, h)

target_void : (o : Option Storage) (p : Place) → void_in_target (storage_target o p) ≤ 0
target_void (Some (storage.Variable n)) p = omega arith
target_void (Some (storage.Frame o)) p = omega arith
target_void None p = omega arith

listed_all_in : (es : List program.Expression) → void_in_all (listed_all es) ≡ void_in_list es
listed_all_in [] = refl
listed_all_in (e ∷ es) = let h = listed_all_in es in omega (arith, h)

-- ---- the parts of a switch

-- in arms of a switch whose value is there
abbrev void_in_arms : List Armed → ℕ
void_in_arms arms = void_arms false (arms_of arms)

label_void : (l : Option ℕ) (arms : List Armed) → void_in_arms (with_label l arms) ≤ void_in_arms arms
label_void l [] = omega arith
label_void l (a ∷ []) = by (is_done a.statements) where
  by : (b : Bool) → void_in_arms (if b then record a { labels = a.labels ++ (l ∷ []) } ∷ [] else a ∷ record { labels = l ∷ []; statements = program.Done } ∷ []) ≤ void_in_arms (a ∷ [])
  by true = omega arith
  by false = omega arith
label_void l (a ∷ b ∷ rest) = let h = label_void l (b ∷ rest) in omega (arith, h)

statement_void : (x : program.Statements) (arms : List Armed) → void_in_arms (with_statement x arms) ≤ void_statements x + void_in_arms arms
statement_void x [] = omega arith
statement_void x (a ∷ []) = let h = void-behind a.statements x in omega (arith, h)
statement_void x (a ∷ b ∷ rest) = let h = statement_void x (b ∷ rest) in omega (arith, h)

-- ---- what is known of statements, of arms, and of expressions that are tested and that aren't

abbrev pub Free : List Shape → program.Statements → Type 0
Free xs y = void_statements y ≤ 0

abbrev Arms : List Shape → List Armed → Type 0
Arms xs arms = void_in_arms arms ≤ 0

abbrev ArmingOf : List Shape → Arming → Type 0
ArmingOf xs a = void_in_arms a.arms ≤ 0

abbrev Test : List Shape → program.Expression → Type 0
Test xs e = void_test e ≤ 0

abbrev MaybeTest : List Shape → Option program.Expression → Type 0
MaybeTest xs e = void_some e ≤ 0

abbrev Maybe : List Shape → Option program.Expression → Type 0
Maybe xs e = void_in_some e ≤ 0

pub free_lasts : (xs ys : List Shape) (y : program.Statements) → Extends xs ys → Free xs y → Free ys y
free_lasts xs ys y g h = h

arms_last : (xs ys : List Shape) (y : List Armed) → Extends xs ys → Arms xs y → Arms ys y
arms_last xs ys y g h = h

test_lasts : (xs ys : List Shape) (e : program.Expression) → Extends xs ys → Test xs e → Test ys e
test_lasts xs ys e g h = h

maybe_test_lasts : (xs ys : List Shape) (e : Option program.Expression) → Extends xs ys → MaybeTest xs e → MaybeTest ys e
maybe_test_lasts xs ys e g h = h

maybe_lasts : (xs ys : List Shape) (e : Option program.Expression) → Extends xs ys → Maybe xs e → Maybe ys e
maybe_lasts xs ys e g h = h

clean_test : (e : program.Expression) → Clean e → void_test e ≤ 0
clean_test e h = let a = h.inside in let b = ap bit h.itself in omega (arith, a, b)

appended_leads : {Before : List Shape → Type 0} {m : CheckPlan program.Statements} (done : program.Statements) → void_statements done ≤ 0 → Leads Before Free m → Leads Before Free (appended done m)
appended_leads done d h = leads_reads h (λ s x k l. let g = void-behind done x in omega (arith, d, l, g))

-- ---- local declarations

set_void : (p : Place) (s : Tables) (k : ℕ) (e : program.Expression) → void_in e ≤ 0 → void_statements (set_to p s k e) ≤ 0
set_void p s k e h = let t = target_void (slice_get s.storages k) p in omega (arith, h, t)

own_void : (b : Bool) (p : Place) (s : Tables) (k : ℕ) (e : program.Expression) → void_in e ≤ 0 → void_statements (own_set b p s k e) ≤ 0
own_void false p s k e h = set_void p s k e h
own_void true p s k e h =
    let a = set_void p s k (program.Number 0) (omega arith) in
    let b = set_void p s k e h in
    let g = void-behind (set_to p s k (program.Number 0)) (set_to p s k e) in omega (arith, a, b, g)

scalar_value_leads : {m : CheckPlan Typed} (p q : Place) (k : ℕ) → Leads Any Honest m → Leads Any Free (scalar_value_at p q k m)
scalar_value_leads p q k h = leads_node h (λ s x j l u.
    let e = (converted q s x (type_of_local s k)).tree in
    come_same j (own_void (names_stored (slice_get s.storages k) e) p s k e (converted_in q s x (type_of_local s k) l.inside)))

mutual
  scalar_set_leads : (p : Place) (k : ℕ) (x : Initialiser) → Leads Any Free (plan_scalar p k x)
  scalar_set_leads p k (tree.Value e) = scalar_value_leads p (place_of e) k (value_of_leads e)
  scalar_set_leads p k (tree.Listed q js comma) = leads_chain {Between = Anything} (leads_sites {Between = Anything} leads_nothing (λ s x k l u. tt)) (λ x. first_scalar_leads p k js)

  first_scalar_leads : (p : Place) (k : ℕ) (xs : Initialisers) → Leads Any Free (plan_first_scalar p k xs)
  first_scalar_leads p k tree.no_initialisers = leads_pure program.Done (λ xs l b. omega arith)
  first_scalar_leads p k (tree.initialiser_then x xs) = scalar_set_leads p k x

type_wider : (k t : ℕ) (s : Tables) → Wider s (with_type k t s)
type_wider k t s = let w = wide s in record { on = w.on; kept = λ j. j }

initialised_leads : {m : CheckPlan Content} (p : Place) (k : ℕ) → Leads Any Anything m → Leads Any Free (initialised_at p k m)
initialised_leads p k h = leads_maps h (λ s x j l. come_wider (type_wider k x.type_id s) j (omega arith))

begun_void : (b : Bool) (p : Place) (s : Tables) (k : ℕ) → void_statements (if b then set_to p s k (program.Number 0) else program.Done) ≤ 0
begun_void true p s k = set_void p s k (program.Number 0) (omega arith)
begun_void false p s k = omega arith

given_leads : (p : Place) (k : ℕ) (x : Initialiser) (b : Bool) → Leads Any Free (plan_given p k x b)
given_leads p k x true = scalar_set_leads p k x
given_leads p k x false =
    leads_chain {Between = Anything} (leads_looks (λ s. type_of_local s k) (λ s j b. tt)) (λ t.
    leads_chain {Between = Anything} (leads_looks (λ s. offset_of_local s k) (λ s j b. tt)) (λ o. initialised_leads p k (content_leads p o t x)))

local_leads : (p : Place) (x : Option (Place × Initialiser)) (k : Option ℕ) → Leads Any Free (plan_local p x k)
local_leads p None None = leads_pure program.Done (λ xs l b. omega arith)
local_leads p None (Some k) = leads_looks _ (λ s j b. begun_void (is_scalar (shape_of s (type_of_local s k))) p s k)
local_leads p (Some x) None = leads_reads (unused_leads x.1) (λ s f k l. omega arith)
local_leads p (Some x) (Some k) = leads_chain {Between = Anything} (leads_looks (λ s. is_scalar (shape_of s (type_of_local s k))) (λ s j b. tt)) (λ b. given_leads p k x.1 b)

typedef_come : (n : Option Name) (t : ℕ) (s : Tables) → Kept s → t < length s.shapes → Kept (with_typedef n t s)
typedef_come None t s k l = k
typedef_come (Some n) t s k l = kept_name n.number (entity.Type t) s l k

typedef_wide : (n : Option Name) (t : ℕ) (s : Tables) → Extends s.shapes (let u = with_typedef n t s in u.shapes)
typedef_wide None t s = let w = wide s in w.on
typedef_wide (Some n) t s = let w = wide s in w.on

pub typedef_leads : {Before : List Shape → Type 0} {m : CheckPlan NamedType} (p : Place) (block given : Bool) (name : Option Name) → Leads Before NamedThere m → Leads Before Anything (typedef_at p block given name m)
typedef_leads p block given name h = leads_named name (leads_node h (λ s x k l u. record { kept = typedef_come name x.type_id s k l; on = typedef_wide name x.type_id s; so = tt }))

local_at_leads : {Before : List Shape → Type 0} {m : CheckPlan NamedType} (p : Place) (given : Bool) (name : Option Name) → Leads Before NamedThere m → Leads Before Anything (local_at p given name m)
local_at_leads p given name h = leads_named name (leads_node h (λ s x k l u. come_wider (local_wider name x.type_id s) k tt))

item_at_leads : (is_typedef : Bool) (p : Place) (b : ℕ) (i : InitDeclarator) → Leads (λ xs. There xs b) Free (plan_item_at is_typedef p b i)
item_at_leads true p b i = leads_reads (typedef_leads p true (is_some i.initialiser) (declared_name i.declarator) (declarator_leads p false b i.declarator)) (λ s x k l. omega arith)
item_at_leads false p b i =
    leads_chain {Between = Anything} (local_at_leads p (is_some i.initialiser) (declared_name i.declarator) (declarator_leads p false b i.declarator)) (λ k. local_leads p i.initialiser k)

items_lead : (q : Place) (is_typedef : Bool) (b : ℕ) (done : program.Statements) (items : List InitDeclarator) → void_statements done ≤ 0 → Leads (λ xs. There xs b) Free (plan_items q is_typedef b done items)
items_lead q is_typedef b done [] d = leads_pure done (λ xs l h. d)
items_lead q is_typedef b done (i ∷ items) d =
    leads_chain {Between = λ xs more. There xs b × Free xs more} (leads_carry (λ xs ys. there_lasts xs ys b) (appended_leads done d (item_at_leads is_typedef (declared_place i.declarator q) b i)))
    (λ more. leads_given (λ e. items_lead q is_typedef b more items e))

declaration_leads : (done : program.Statements) (d : Declaration) → void_statements done ≤ 0 → Leads Any Free (plan_declaration done d)
declaration_leads done d l =
    leads_chain {Between = There} (base_leads d.specifiers (specifiers_lead context.Block (is_alone d.items) None d.specifiers))
    (λ b. items_lead (place_of_specifiers d.specifiers d.end) (has_typedef d.specifiers) b done d.items l)

declarations_lead : (done : program.Statements) (ds : List Declaration) → void_statements done ≤ 0 → Leads Any Free (plan_declarations done ds)
declarations_lead done [] l = leads_pure done (λ xs k b. l)
declarations_lead done (d ∷ ds) l = leads_chain {Between = Free} (declaration_leads done d l) (λ more. leads_if (λ e. declarations_lead more ds e))

-- ---- returns, evaluations and tests

returned_void : (p : Place) (b : Bool) (e : program.Expression) → void_in e ≤ 0 → void_statements (returned p b e) ≤ 0
returned_void p true e h = omega (arith, h)
returned_void p false e h = omega (arith, h)

nothing_void : (p : Place) (b : Bool) → void_statements (nothing_returned p b) ≤ 0
nothing_void p true = omega arith
nothing_void p false = omega arith

result_in : (p : Place) (s : Tables) (t : Option ℕ) (x : Typed) → void_in x.tree ≤ 0 → void_in (as_result p s t x) ≤ 0
result_in p s None x h = h
result_in p s (Some t) x h = converted_in p s x t h

return_leads : (p : Place) (c : Surrounding) (e : Option Expression) → Leads Any Free (plan_return p c e)
return_leads p c None = leads_pure _ (λ xs l b. nothing_void p c.is_main)
return_leads p c (Some e) = leads_sites (value_of_leads e) (λ s x k l u. returned_void p c.is_main (as_result p s c.result x) (result_in p s c.result x l.inside))

printed_leads : (texts : List Bool) (i : ℕ) (done : List program.Expression) (es : Expressions) → void_in_list done ≤ 0 → Leads Any Passed (plan_printed texts i done es)
printed_leads texts i done tree.no_expressions d = leads_pure done (λ xs l b. d)
printed_leads texts i done (tree.expression_then e es) d =
    leads_chain {Between = Passed} (leads_sites (value_of_leads e) (λ s x k l u. let a = l.inside in let h = void-append done (x.tree ∷ []) in omega (arith, d, a, h)))
    (λ more. leads_if (λ l. printed_leads texts (suc i) more es l))

printf_leads : (p : Place) (es : Expressions) → Leads Any Free (plan_printf p es)
printf_leads p tree.no_expressions = leads_sites {Between = Free} (leads_pure program.Done (λ xs l b. omega arith)) (λ s x k l u. l)
printf_leads p (tree.expression_then e es) =
    leads_chain {Between = Anything} (leads_sites {Between = Anything} leads_nothing (λ s x k l u. tt))
    (λ ps. leads_reads (printed_leads (letters ps) 0 [] es (omega arith)) (λ s xs k l. let h = listed_all_in xs in omega (arith, l, h)))

evaluation_leads : (e : Expression) (b : Bool) → Leads Any Free (plan_evaluation e b)
evaluation_leads e true = printf_leads (place_of e) (arguments_of e)
evaluation_leads e false = leads_reads (value_of_leads e) (λ s x k l. let a = l.inside in omega (arith, a))

evaluate_leads : (e : Expression) → Leads Any Free (plan_evaluate e)
evaluate_leads e = leads_chain {Between = Anything} (leads_looks (λ s. is_printf_name s (callee_name e)) (λ s k b. tt)) (λ b. evaluation_leads e b)

optional_leads : (e : Option Expression) → Leads Any Maybe (plan_optional e)
optional_leads None = leads_pure None (λ xs l b. omega arith)
optional_leads (Some e) = leads_reads (value_of_leads e) (λ s x k l. l.inside)

test_of_leads : (e : Expression) → Leads Any Test (plan_condition e)
test_of_leads e = leads_reads (condition_leads (place_of e) (plan_leads e)) (λ s x k l. clean_test x.tree l)

test_leads : (e : Option Expression) → Leads Any MaybeTest (plan_test e)
test_leads None = leads_pure None (λ xs l b. omega arith)
test_leads (Some e) = leads_reads (test_of_leads e) (λ s x k l. l)

started_void : (p : Place) (x : Option program.Expression) (y : program.Statements) → void_in_some x ≤ 0 → void_statements y ≤ 0 → void_statements (started p x y) ≤ 0
started_void p None y h k = k
started_void p (Some e) y h k = omega (arith, h, k)

-- ---- the labels of a switch

case_leads : (p : Place) (a : Arming) (e : Expression) → void_in_arms a.arms ≤ 0 → Leads Any ArmingOf (case_at p a (label_at e))
case_leads p a e h = leads_sites (constant_leads (place_of e) (value_of_leads e)) (λ s w k l u. let g = label_void (Some w) a.arms in omega (arith, h, g))

default_leads : (p : Place) (a : Arming) → void_in_arms a.arms ≤ 0 → Leads Any ArmingOf (default_at p a)
default_leads p a h = leads_sites {Between = Anything} leads_nothing (λ s x k l u. let g = label_void None a.arms in omega (arith, h, g))

switch_void : (p : Place) (x : Typed) (arms : List Armed) → Clean x.tree → void_in_arms arms ≤ 0 → void_statements (program.Switch p x.tree (arms_of arms) program.Done) ≤ 0
switch_void p x arms h k = let a = h.inside in let b = ap (λ b. void_arms b (arms_of arms)) h.itself in omega (arith, a, b, k)

asks_leads : {f : Tables → Unit {0} → List Site} → Leads Any Anything (node f (λ s x. (s, x)) (pure (tt {0})))
asks_leads = leads_sites {Between = Anything} leads_nothing (λ s x k l u. tt)

-- ---- statements. A type that nothing needs makes the lemmas' types alike.

mutual
  statement_leads : (c : Surrounding) (t : Statement) (X : Type 0) → Leads Any Free (plan_statement c t)
  statement_leads c (tree.Block p ds ss) X =
      leads_scoped free_lasts (leads_chain {Between = Free} (declarations_lead program.Done ds (omega arith)) (λ done. leads_if (λ d. statements_lead c done ss d X)))
  statement_leads c (tree.Nothing p) X = leads_pure program.Done (λ xs l b. omega arith)
  statement_leads c (tree.Evaluate e p) X = evaluate_leads e
  statement_leads c (tree.If p q e t) X = leads_reads (leads_both test_lasts (test_of_leads e) (statement_leads c t X)) (λ s x k l. let a = l.0 in let b = l.1 in omega (arith, a, b))
  statement_leads c (tree.IfElse p q e t u) X =
      leads_reads (leads_both test_lasts (test_of_leads e) (leads_both free_lasts (statement_leads c t X) (statement_leads c u X))) (λ s x k l. let a = l.0 in let b = l.1.0 in let d = l.1.1 in omega (arith, a, b, d))
  statement_leads c (tree.While p q e t) X = leads_reads (leads_both test_lasts (test_of_leads e) (statement_leads (in_loop c) t X)) (λ s x k l. let a = l.0 in let b = l.1 in omega (arith, a, b))
  statement_leads c (tree.Do p t q r e u) X = leads_reads (leads_both free_lasts (statement_leads (in_loop c) t X) (test_of_leads e)) (λ s x k l. let a = l.0 in let b = l.1 in omega (arith, a, b))
  statement_leads c (tree.For p q a r b u d t) X =
      leads_reads (leads_both maybe_lasts (optional_leads a) (leads_both maybe_test_lasts (test_leads b) (leads_both maybe_lasts (optional_leads d) (statement_leads (in_loop c) t X))))
      (λ s x k l. started_void (starting_place p a) x.0 (program.Loop p x.1.0 x.1.1.1 x.1.1.0 program.Done) l.0 (let f = l.1.0 in let g = l.1.1.0 in let h = l.1.1.1 in omega (arith, f, g, h)))
  statement_leads c (tree.Break p q) X = leads_sites {Between = Free} (leads_pure _ (λ xs l b. omega arith)) (λ s x k l u. l)
  statement_leads c (tree.Continue p q) X = leads_sites {Between = Free} (leads_pure _ (λ xs l b. omega arith)) (λ s x k l u. l)
  statement_leads c (tree.Return p e q) X = return_leads p c e
  statement_leads c (tree.Switch p q e t) X =
      leads_reads (leads_both tested_lasts (integer_leads (place_of e) (value_of_leads e)) (body_leads (in_switch c) t (plan_statement (in_switch c) t) (statement_leads (in_switch c) t X)))
      (λ s x k l. switch_void p x.0 x.1 l.0 l.1)
  statement_leads c (tree.Case p e t) X =
      leads_chain {Between = Anything} (leads_chain {Between = Anything} asks_leads (λ x. constant_leads (place_of e) (value_of_leads e))) (λ w. statement_leads c t X)
  statement_leads c (tree.Default p t) X = leads_chain {Between = Anything} asks_leads (λ x. statement_leads c t X)

  statements_lead : (c : Surrounding) (done : program.Statements) (ts : Statements) → void_statements done ≤ 0 → (X : Type 0) → Leads Any Free (plan_statements c done ts)
  statements_lead c done tree.no_statements d X = leads_pure done (λ xs l b. d)
  statements_lead c done (tree.statement_then t ts) d X = leads_chain {Between = Free} (appended_leads done d (statement_leads c t X)) (λ more. leads_if (λ e. statements_lead c more ts e X))

  body_leads : (c : Surrounding) (t : Statement) (m : CheckPlan program.Statements) → Leads Any Free m → Leads Any Arms (plan_body c t m)
  body_leads c (tree.Block p ds ss) m h =
      leads_scoped arms_last (leads_chain {Between = Anything} (leads_sites {Between = Anything} leads_nothing (λ s x k l u. tt))
      (λ x. leads_chain {Between = Free} (declarations_lead program.Done ds (omega arith)) (λ y. leads_before (λ xs b. tt) (arms_lead c (record { seen = []; arms = [] }) ss (omega arith) (Unit {0})))))
  body_leads c t m h = leads_chain {Between = Anything} asks_leads (λ x. leads_reads h (λ s y k l. omega arith))

  arms_lead : (c : Surrounding) (a : Arming) (ts : Statements) → void_in_arms a.arms ≤ 0 → (X : Type 0) → Leads Any Arms (plan_arms c a ts)
  arms_lead c a tree.no_statements d X = leads_pure a.arms (λ xs l b. d)
  arms_lead c a (tree.statement_then t ts) d X = leads_chain {Between = ArmingOf} (labelled_leads c a t (plan_statement c t) d (statement_leads c t X)) (λ b. leads_if (λ e. arms_lead c b ts e X))

  labelled_leads : (c : Surrounding) (a : Arming) (t : Statement) (m : CheckPlan program.Statements) → void_in_arms a.arms ≤ 0 → Leads Any Free m → Leads Any ArmingOf (plan_labelled c a t m)
  labelled_leads c a (tree.Case p e t) m d h = leads_chain {Between = ArmingOf} (case_leads p a e d) (λ b. leads_if (λ l. labelled_leads c b t (plan_statement c t) l (statement_leads c t (Unit {0}))))
  labelled_leads c a (tree.Default p t) m d h = leads_chain {Between = ArmingOf} (default_leads p a d) (λ b. leads_if (λ l. labelled_leads c b t (plan_statement c t) l (statement_leads c t (Unit {0}))))
  labelled_leads c a t m d h = leads_reads h (λ s x k l. let g = statement_void x a.arms in omega (arith, d, l, g))

-- the body of a function
pub block_leads : (c : Surrounding) (ds : List Declaration) (ss : Statements) → Leads Any Free (plan_block c ds ss)
block_leads c ds ss = leads_chain {Between = Free} (declarations_lead program.Done ds (omega arith)) (λ done. leads_if (λ d. statements_lead c done ss d (Unit {0})))

-- The bodies that the plan of a file gives test no call of exit or abort.
use Rattle.std.proofs.Common.{◌≡◌, ℕ, ◌≤◌, Bool, true, false, List, [], ◌∷◌, ◌++◌, length, Option, Some, None, refl, sym, ap, ◌∙◌, subst, arith}
use Rattle.std.proofs.lemmas.Result.{IfOk-at_ok}
use Rattle.std.specs.List.{AllByRecursion}
use Rattle.std.specs.Prelude.{slice_get, is_some, not}
use Rattle.dae_base.specs.declared.Place.{Place}
use Rattle.dae_base.proofs.Laws.{all_join}
use Rattle.dae_tree.specs.declared.words.Keyword.{Keyword}
use Rattle.dae_tree.specs.declared.expressions.Name.{Name}
use Rattle.dae_tree.specs.Trees as tree
use Rattle.dae_tree.specs.Trees.{Specifiers, Declarator, Parameters, Initialiser, InitDeclarator, Declaration, Statements, External}
use Rattle.dae_tree.specs.Depth.{place_of_specifiers}
use Rattle.dae_tree.specs.Names.{declared_name, has_typedef, function_part}
use Rattle.dae_program.specs.Trees as program
use Rattle.dae_types_kinds.specs.declared.tables.Context.TheVariants as context
use Rattle.dae_types_kinds.specs.declared.tables.Entity.{Entity}
use Rattle.dae_types_kinds.specs.declared.tables.Entity.TheVariants as entity
use Rattle.dae_types_kinds.specs.declared.tables.LibraryFunction.{LibraryFunction}
use Rattle.dae_types_kinds.specs.declared.tables.LibraryFunction.TheVariants as library
use Rattle.dae_types_kinds.specs.declared.tables.StaticObject.{StaticObject}
use Rattle.dae_types_kinds.specs.declared.tables.Routine.{Routine}
use Rattle.dae_types_kinds.specs.declared.types.Shape.{Shape}
use Rattle.dae_types_kinds.specs.Tables.{Tables, closed, reopened}
use Rattle.dae_types_kinds.specs.Types.{shape_of, is_function, first_shapes, composite}
use Rattle.dae_types_kinds.specs.Values.{result_of}
use Rattle.dae_types_rules.specs.Plan.{CheckPlan, pure, maps}
use Rattle.dae_types_rules.specs.Table.{is_extern, is_static}
use Rattle.dae_types_plans.specs.Steps.{declared_place}
use Rattle.dae_types_file_plans.specs.declared.declarations.Role.{Role}
use Rattle.dae_types_file_plans.specs.declared.declarations.Role.TheVariants.{Reference, Definition}
use Rattle.dae_types_file_plans.specs.Statements.{own_of, is_alone}
use Rattle.dae_types_file_plans.specs.Files.{Product, LibraryNames, is_main_name, name_number, retyped, new_routine, declared_function, function_at, replaced, declared_object, object_at, role_of, declares_object, declares_function, produced, type_of_object, with_object_type, plan_data, plan_either, plan_typed, plan_item_at, plan_items, storage_of, plan_declared, defined_or, define, second_at, started, parameters_in, count_parameters, settled_locals, in_body, keep_scope, first_time, body_product, second_time, twice, surrounding, plan_body_of, plan_defined_as, plan_defined, plan_external, plan_externals, plan_file, header_shapes, printf_type, putchar_type, exit_type, abort_type, empty_tables, with_library, with_stdio, with_stdlib, start_of}
use Rattle.dae_lower_bounds.specs.Voids.{void_statements}
use Rattle.dae_void_laws.specs.Tested.{BodyTestsValues, BodiesTestValues}
use Rattle.dae_void_laws.proofs.Kept.{IfThere, all_written, all_at, all_more, shape_is, Extends, IsNameIn, names_on, Returns, IsRoutineIn, Kept, Come, Leads, Any, Anything, leads_pure, leads_maps, leads_node, leads_chain, leads_before, leads_carry, leads_given, leads_if, leads_named, come_same, leads_reads, leads_sites, leads_nothing, leads_looks, leads_ends, Wider, wide, come_wider, closed_wider, kept_name}
use Rattle.dae_void_laws.proofs.Steps.{There, there_lasts, base_leads, composite_wider, composite_returns}
use Rattle.dae_void_laws.proofs.Plans.{specifiers_lead, declarator_leads}
use Rattle.dae_void_laws.proofs.Statements.{Free, free_lasts, unused_leads, content_leads, typedef_leads, block_leads}

-- ---- products

abbrev Good : List Shape → List Product → Type 0
Good xs ps = AllByRecursion BodyTestsValues ps

object_good : (p : Place) (r : Role) (o : Option ℕ) → AllByRecursion BodyTestsValues (declares_object p r o)
object_good p r None = tt
object_good p r (Some o) = (tt, tt)

function_good : (p : Place) (r : Role) (f : Option ℕ) → AllByRecursion BodyTestsValues (declares_function p r f)
function_good p r None = tt
function_good p r (Some f) = (tt, tt)

produced_leads : {Before : List Shape → Type 0} {m : CheckPlan (List Product)} (done : List Product) → AllByRecursion BodyTestsValues done → Leads Before Good m → Leads Before Good (produced done m)
produced_leads done d h = leads_reads h (λ s xs k l. all_join BodyTestsValues done xs d l)

-- ---- tables at file scope

-- the composite of a type with that of exit or abort returns void too
retyped_returns : (s : Tables) (l : Option LibraryFunction) (m t : ℕ) → Kept s → Returns s.shapes l m → (let x = composite s m t in let u = x.0 in Returns u.shapes l x.1)
retyped_returns s None m t k h = tt
retyped_returns s (Some library.Printf) m t k h = tt
retyped_returns s (Some library.Putchar) m t k h = tt
retyped_returns s (Some library.Exit) m t k h = ap result_of (sym (shape_is (composite s m t).0 (composite s m t).1)) ∙ composite_returns s m t (shape_is s 0 ∙ k.void) (ap result_of (shape_is s m) ∙ h)
retyped_returns s (Some library.Abort) m t k h = ap result_of (sym (shape_is (composite s m t).0 (composite s m t).1)) ∙ composite_returns s m t (shape_is s 0 ∙ k.void) (ap result_of (shape_is s m) ∙ h)

retyped_wider : (f t : ℕ) (s : Tables) (r : Option Routine) → (Kept s → IfThere (IsRoutineIn s.shapes) r) → Wider s (retyped f t s r)
retyped_wider f t s None h = wide s
retyped_wider f t s (Some r) h =
    let w = composite_wider s r.type_id t in
    let x = composite s r.type_id t in
    record {
      on = w.on;
      kept = λ k.
          (let j = w.kept k in
          record { many = j.many; void = j.void; names = j.names; kept = j.kept; routines = all_written (IsRoutineIn (let u = x.0 in u.shapes)) f (record { name = r.name; type_id = x.1; own = r.own; defined = r.defined; library = r.library }) (let u = x.0 in u.routines) (retyped_returns s r.library r.type_id t k (h k)) j.routines });
    }

new_routine_wider : (n : Option Name) (own : Bool) (t : ℕ) (s : Tables) → Wider s (new_routine n own t s).0
new_routine_wider n own t s =
    let w = wide s in
    record {
      on = w.on;
      kept = λ k.
          (let j = kept_name (name_number n) (entity.Function (length s.routines)) s tt k in
          record { many = j.many; void = j.void; names = j.names; kept = j.kept; routines = all_join (IsRoutineIn s.shapes) s.routines _ k.routines (tt, tt) });
    }

function_wider : (n : Option Name) (own : Bool) (t : ℕ) (e : Option Entity) (s : Tables) → Wider s (declared_function n own t e s).0
function_wider n own t (Some (entity.Function f)) s = retyped_wider f t s (slice_get s.routines f) (λ k. all_at (IsRoutineIn s.shapes) s.routines f k.routines)
function_wider n own t e s = new_routine_wider n own t s

replaced_wider : (p : Place) (w : Option Keyword) (given : Bool) (o t : ℕ) (s : Tables) (r : Option StaticObject) → Wider s (replaced p w given o t s r)
replaced_wider p w given o t s None = wide s
replaced_wider p w given o t s (Some r) = let z = composite_wider s r.type_id t in record { on = z.on; kept = z.kept }

object_wider : (p : Place) (n : Option Name) (w : Option Keyword) (given : Bool) (t : ℕ) (e : Option Entity) (s : Tables) → Wider s (declared_object p n w given t e s).0
object_wider p n w given t (Some (entity.Object o)) s = replaced_wider p w given o t s (slice_get s.objects o)
object_wider p n w given t e s = let z = wide s in record { on = z.on; kept = λ k. kept_name (name_number n) (entity.Object (length s.objects)) s tt k }

object_type_wider : (o t : ℕ) (s : Tables) (r : Option StaticObject) → Wider s (with_object_type o t s r)
object_type_wider o t s None = wide s
object_type_wider o t s (Some r) = let z = wide s in record { on = z.on; kept = λ k. k }

defined_wider : (r : Option Routine) (s : Tables) (f : ℕ) → (Kept s → IfThere (IsRoutineIn s.shapes) r) → Wider s (defined_or r s f)
defined_wider None s f h = wide s
defined_wider (Some r) s f h =
    let w = wide s in
    record {
      on = w.on;
      kept = λ k. record { many = k.many; void = k.void; names = k.names; kept = k.kept; routines = all_written (IsRoutineIn s.shapes) f (record { name = r.name; type_id = r.type_id; own = r.own; defined = true; library = r.library }) s.routines (h k) k.routines };
    }

define_wider : (f : Option ℕ) (s : Tables) → Wider s (define f s).0
define_wider None s = wide s
define_wider (Some f) s = defined_wider (slice_get s.routines f) s f (λ k. all_at (IsRoutineIn s.shapes) s.routines f k.routines)

define_come : (f : Option ℕ) (s : Tables) → Kept s → Come Anything s (define f s)
define_come None s k = come_same k tt
define_come (Some f) s k = come_wider (define_wider (Some f) s) k tt

-- ---- declarations

function_at_leads : (p : Place) (own given : Bool) (n : Option Name) (t : ℕ) → Leads Any Anything (function_at p own given n (pure t))
function_at_leads p own given n t = leads_named n (leads_node {Between = Anything} (leads_pure t (λ xs l b. tt)) (λ s t k l u. come_wider (function_wider n own t (own_of s n) s) k tt))

object_at_leads : (p : Place) (w : Option Keyword) (given : Bool) (n : Option Name) (t : ℕ) → Leads Any Anything (object_at p w given n (pure t))
object_at_leads p w given n t = leads_named n (leads_node {Between = Anything} (leads_pure t (λ xs l b. tt)) (λ s t k l u. come_wider (object_wider p n w given t (own_of s n) s) k tt))

data_leads : (p : Place) (x : Option (Place × Initialiser)) (o : Option ℕ) → Leads Any Good (plan_data p x o)
data_leads p None o = leads_pure [] (λ xs l b. tt)
data_leads p (Some x) None = leads_reads (unused_leads x.1) (λ s f k l. tt)
data_leads p (Some x) (Some o) =
    leads_chain {Between = Anything} (leads_looks (λ s. type_of_object s o) (λ s k b. tt))
    (λ t. leads_maps (content_leads p 0 t x.1) (λ s y k l. come_wider (object_type_wider o y.type_id s (slice_get s.objects o)) k (tt, tt)))

either_leads : (p : Place) (w : Option Keyword) (i : InitDeclarator) (t : ℕ) (b : Bool) → Leads Any Good (plan_either p w i t b)
either_leads p w i t true = leads_reads (function_at_leads p (is_static w) (is_some i.initialiser) (declared_name i.declarator) t) (λ s f k l. function_good p Reference f)
either_leads p w i t false =
    leads_chain {Between = Anything} (object_at_leads p w (is_some i.initialiser) (declared_name i.declarator) t)
    (λ o. produced_leads (declares_object p (role_of (is_some i.initialiser) (not (is_extern w))) o) (object_good p (role_of (is_some i.initialiser) (not (is_extern w))) o) (data_leads p i.initialiser o))

typed_leads : (p : Place) (w : Option Keyword) (i : InitDeclarator) (t : Option ℕ) → Leads Any Good (plan_typed p w i t)
typed_leads p w i None = data_leads p i.initialiser None
typed_leads p w i (Some t) = leads_chain {Between = Anything} (leads_looks (λ s. is_function (shape_of s t)) (λ s k b. tt)) (λ b. either_leads p w i t b)

item_leads : (is_typedef : Bool) (p : Place) (w : Option Keyword) (b : ℕ) (i : InitDeclarator) → Leads (λ xs. There xs b) Good (plan_item_at is_typedef p w b i)
item_leads true p w b i = leads_reads (typedef_leads p false (is_some i.initialiser) (declared_name i.declarator) (declarator_leads p false b i.declarator)) (λ s x k l. tt)
item_leads false p w b i =
    leads_chain {Between = Anything} (leads_named (declared_name i.declarator) (leads_reads (declarator_leads p false b i.declarator) (λ s x k l. tt))) (λ t. typed_leads p w i t)

items_lead : (is_typedef : Bool) (q : Place) (w : Option Keyword) (b : ℕ) (done : List Product) (items : List InitDeclarator) → AllByRecursion BodyTestsValues done → Leads (λ xs. There xs b) Good (plan_items is_typedef q w b done items)
items_lead is_typedef q w b done [] d = leads_pure done (λ xs l h. d)
items_lead is_typedef q w b done (i ∷ items) d =
    leads_chain {Between = λ xs more. There xs b × Good xs more} (leads_carry (λ xs ys. there_lasts xs ys b) (produced_leads done d (item_leads is_typedef (declared_place i.declarator q) w b i)))
    (λ more. leads_given (λ e. items_lead is_typedef q w b more items e))

declared_leads : (done : List Product) (d : Declaration) → AllByRecursion BodyTestsValues done → Leads Any Good (plan_declared done d)
declared_leads done d g =
    leads_chain {Between = There} (base_leads d.specifiers (specifiers_lead context.File (is_alone d.items) None d.specifiers))
    (λ b. items_lead (has_typedef d.specifiers) (place_of_specifiers d.specifiers d.end) (storage_of d.specifiers) b done d.items g)

-- ---- definitions

-- what the scopes that are kept name is there
abbrev Olds : List Shape → List Tables → Type 0
Olds xs olds = AllByRecursion (λ (s : Tables). AllByRecursion (IsNameIn xs) s.kept_names) olds

olds_last : (olds : List Tables) (xs ys : List Shape) → Extends xs ys → Olds xs olds → Olds ys olds
olds_last [] xs ys g h = tt
olds_last (old ∷ olds) xs ys g h = (all_more (IsNameIn xs) (IsNameIn ys) (λ d e. names_on g d.entity e) old.kept_names h.0, olds_last olds xs ys g h.1)

reopened_leads : {Before : List Shape → Type 0} → Leads Before Anything (maps (λ s x. (reopened s, s.innermost)) (pure (tt {0})))
reopened_leads {Before} =
    leads_maps {Between = λ xs x. Before xs} leads_nothing (λ s x k b. (let w = wide s in record {
      kept = record { many = k.many; void = k.void; names = all_join (IsNameIn s.shapes) s.names s.kept_names k.names k.kept; kept = k.kept; routines = k.routines };
      on = w.on;
      so = tt;
    }))

first_leads : {m : CheckPlan program.Statements} (n : ℕ) → Leads Any Free m → Leads Any Anything (first_time n m)
first_leads n h = leads_chain {Between = Anything} reopened_leads (λ outer. leads_reads (leads_ends (closed outer) free_lasts (closed_wider outer) h) (λ s x k l. tt))

in_body_leads : {m : CheckPlan program.Statements} → Leads Any Free m → Leads Any Free (in_body m)
in_body_leads h = leads_chain {Between = Anything} reopened_leads (λ outer. leads_ends (closed outer) free_lasts (closed_wider outer) h)

least : (n : ℕ) → n ≤ 0 → n ≡ 0
least n h = omega (arith, h)

body_good : (f : Option ℕ) (s : Tables) (y : program.Statements) → void_statements y ≤ 0 → AllByRecursion BodyTestsValues (elim f [ None ↦ [] | Some g ↦ body_product g s y ])
body_good None s y h = tt
body_good (Some g) s y h = (least (void_statements y) h, tt)

second_leads : {m : CheckPlan program.Statements} (f : Option ℕ) → Leads Any Free m → Leads Any Good (second_time f m)
second_leads f h = leads_reads (in_body_leads h) (λ s y k l. body_good f s y l)

settled_come : (n : ℕ) (olds : List Tables) (s : Tables) → Kept s → Olds s.shapes olds → Come Anything s (settled_locals n (elim olds [ [] ↦ s | old ∷ rest ↦ keep_scope old s ]), tt {0})
settled_come n [] s k b = let w = wide s in record { kept = k; on = w.on; so = tt }
settled_come n (old ∷ rest) s k b = let w = wide s in record { kept = record { many = k.many; void = k.void; names = k.names; kept = b.0; routines = k.routines }; on = w.on; so = tt }

twice_leads : {m : CheckPlan program.Statements} (n : ℕ) (f : Option ℕ) → Leads Any Free m → Leads Any Good (twice n f m)
twice_leads n f h =
    leads_chain {Between = Olds} (leads_looks (λ s. s ∷ []) (λ s k b. (k.kept, tt)))
    (λ olds. leads_chain {Between = λ xs u. Olds xs olds × Anything xs u} (leads_carry (olds_last olds) (leads_before (λ xs b. tt) (first_leads n h)))
    (λ u. leads_chain {Between = Anything} (leads_maps {Between = λ xs u. Olds xs olds × Unit {0}} leads_nothing (λ s u k b. settled_come n olds s k b.0)) (λ y. second_leads f h)))

body_of_leads : (p : Place) (name : Option Name) (ps : Parameters) (ds : List Declaration) (ss : Statements) (t f : Option ℕ) → Leads Any Good (plan_body_of p name ps ds ss t f)
body_of_leads p name ps ds ss t f =
    leads_chain {Between = Anything} (leads_sites {Between = Anything} leads_nothing (λ s x k l u. tt))
    (λ u. leads_chain {Between = Anything} (leads_looks (λ s. surrounding s (is_main_name s name) t) (λ s k b. tt))
    (λ round. twice_leads (count_parameters ps) f (block_leads round ds ss)))

second_at_leads : (p : Place) {m : CheckPlan (Option ℕ)} → Leads Any Anything m → Leads Any Anything (second_at p m)
second_at_leads p h = leads_node h (λ s f k l u. define_come f s k)

defined_as_leads : (p : Place) (word : Option Keyword) (name : Option Name) (ps : Parameters) (ds : List Declaration) (ss : Statements) (t : Option ℕ) → Leads Any Good (plan_defined_as p word name ps ds ss t)
defined_as_leads p word name ps ds ss None = body_of_leads p name ps ds ss None None
defined_as_leads p word name ps ds ss (Some t) =
    leads_chain {Between = Anything} (second_at_leads p (function_at_leads p (is_static word) false name t))
    (λ f. produced_leads (declares_function p Definition f) (function_good p Definition f) (body_of_leads p name ps ds ss (Some t) f))

started_wider : (s : Tables) → Wider s (started s)
started_wider s = let w = wide s in record { on = w.on; kept = λ k. record { many = k.many; void = k.void; names = k.names; kept = tt; routines = k.routines } }

defined_leads : (done : List Product) (ws : Specifiers) (d : Declarator) (q : Place) (ds : List Declaration) (ss : Statements) → AllByRecursion BodyTestsValues done → Leads Any Good (plan_defined done ws d q ds ss)
defined_leads done ws d q ds ss g =
    let p = declared_place d (place_of_specifiers ws q) in
    let name = declared_name d in
    produced_leads done g
    (leads_chain {Between = Anything} (leads_maps {Between = Anything} leads_nothing (λ s x k b. come_wider (started_wider s) k tt))
    (λ u. leads_chain {Between = There} (base_leads ws (specifiers_lead context.File false None ws))
    (λ b. leads_chain {Between = Anything}
    (leads_named name (leads_reads {Between = Anything} (leads_sites (declarator_leads p false b d) (λ s x k l u. tt)) (λ s x k l. tt)))
    (λ t. defined_as_leads p (storage_of ws) name (parameters_in (function_part d)) ds ss t))))

external_leads : (done : List Product) (x : External) → AllByRecursion BodyTestsValues done → Leads Any Good (plan_external done x)
external_leads done (tree.Declared d) g = declared_leads done d g
external_leads done (tree.Defined ws d q ds ss) g = defined_leads done ws d q ds ss g

externals_lead : (done : List Product) (xs : List External) → AllByRecursion BodyTestsValues done → Leads Any Good (plan_externals done xs)
externals_lead done [] g = leads_pure done (λ xs l b. g)
externals_lead done (x ∷ xs) g = leads_chain {Between = Good} (external_leads done x g) (λ more. leads_if (λ h. externals_lead more xs h))

file_leads : (xs : List External) → Leads Any Good (plan_file xs)
file_leads xs = leads_sites {Between = Good} (externals_lead [] xs tt) (λ s r k l u. l)

-- ---- what is declared before the first token

record Begins (s : Tables) : Type 0 where
  pub kept : Kept s
  pub shapes : s.shapes ≡ first_shapes ++ header_shapes

empty_begins : (literals : List (List ℕ)) (main : Option ℕ) → Begins (empty_tables literals main)
empty_begins literals main = record { kept = record { many = omega arith; void = refl; names = tt; kept = tt; routines = tt }; shapes = refl }

library_begins : (l : LibraryFunction) (t : ℕ) (name : Option ℕ) (s : Tables) → Returns (first_shapes ++ header_shapes) (Some l) t → Begins s → Begins (with_library l t name s)
library_begins l t None s r h = h
library_begins l t (Some name) s r h =
    let k = h.kept in
    let j = kept_name name (entity.Function (length s.routines)) s tt k in
    record {
      kept = record { many = j.many; void = j.void; names = j.names; kept = j.kept; routines = all_join (IsRoutineIn s.shapes) s.routines _ k.routines (subst (λ (xs : List Shape). Returns xs (Some l) t) (sym h.shapes) r, tt) };
      shapes = h.shapes;
    }

stdio_begins : (b : Bool) (n : LibraryNames) (s : Tables) → Begins s → Begins (with_stdio b n s)
stdio_begins false n s h = h
stdio_begins true n s h = library_begins library.Putchar putchar_type n.putchar _ tt (library_begins library.Printf printf_type n.printf s tt h)

stdlib_begins : (b : Bool) (n : LibraryNames) (s : Tables) → Begins s → Begins (with_stdlib b n s)
stdlib_begins false n s h = h
stdlib_begins true n s h = library_begins library.Abort abort_type n.abort _ refl (library_begins library.Exit exit_type n.exit s refl h)

start_begins : (stdio stdlib : Bool) (n : LibraryNames) (literals : List (List ℕ)) → Begins (start_of stdio stdlib n literals)
start_begins stdio stdlib n ls = stdlib_begins stdlib n _ (stdio_begins stdio n (empty_tables ls n.main) (empty_begins ls n.main))

pub bodies_test_values : BodiesTestValues
bodies_test_values xs stdio stdlib n ls t products h =
    let s = start_of stdio stdlib n ls in
    let begins = start_begins stdio stdlib n ls in
    (IfOk-at_ok (Come Good s) h ((file_leads xs).leads s begins.kept tt)).so

-- The plan of a file: declarations and definitions at file scope (C90 6.1.2.2 and 6.7), and what is declared before its first
-- token.
use Rattle.std.specs.Prelude.{ℕ, suc, ◌+◌, ◌-◌, ◌^◌, min, List, [], ◌∷◌, ◌++◌, length, take, Option, Some, None, is_some, Bool, true, false, ◌&&◌, ◌||◌, not, nat_eq, if◌then◌else◌, slice_get}
use Rattle.dae_base.specs.declared.Place.{Place}
use Rattle.dae_tree.specs.declared.words.Keyword.{Keyword}
use Rattle.dae_tree.specs.declared.expressions.Name.{Name}
use Rattle.dae_tree.specs.Trees as tree
use Rattle.dae_tree.specs.Trees.{Specifiers, Declarator, Parameters, Initialiser, InitDeclarator, Declaration, Statements, External}
use Rattle.dae_tree.specs.Words.{nothing_seen, seen_behind}
use Rattle.dae_tree.specs.Depth.{place_of_specifiers}
use Rattle.dae_tree.specs.Names.{declared_name, has_typedef, function_part}
use Rattle.dae_program.specs.Trees as program
use Rattle.dae_types_kinds.specs.declared.types.Shape.{Shape}
use Rattle.dae_types_kinds.specs.declared.types.Shape.TheVariants as shape
use Rattle.dae_types_kinds.specs.declared.tables.Context.TheVariants as context
use Rattle.dae_types_kinds.specs.declared.tables.Entity.{Entity}
use Rattle.dae_types_kinds.specs.declared.tables.Entity.TheVariants as entity
use Rattle.dae_types_kinds.specs.declared.tables.LibraryFunction.{LibraryFunction}
use Rattle.dae_types_kinds.specs.declared.tables.LibraryFunction.TheVariants as library
use Rattle.dae_types_kinds.specs.declared.tables.Local.{Local}
use Rattle.dae_types_kinds.specs.declared.tables.NamedType.{NamedType}
use Rattle.dae_types_kinds.specs.declared.tables.StaticObject.{StaticObject}
use Rattle.dae_types_kinds.specs.declared.tables.Routine.{Routine}
use Rattle.dae_types_kinds.specs.declared.tables.Storage.{Storage}
use Rattle.dae_types_kinds.specs.declared.tables.Storage.TheVariants as storage
use Rattle.dae_types_kinds.specs.Tables.{Tables, with_object, with_routine, with_locals, with_storages, with_name, set_object, set_routine, reopened, closed}
use Rattle.dae_types_kinds.specs.Types.{int_id, first_shapes, shape_of, is_function, is_scalar, composite, word_for, layout_at, rounded}
use Rattle.dae_types_kinds.specs.Values.{result_of}
use Rattle.dae_types_rules.specs.Table.{is_static, is_extern}
use Rattle.dae_types_rules.specs.Sites.{Site, AtFunction, AtObject, AtEndOfFile, AtDefinition, AtSecond, AtUnnamed}
use Rattle.dae_types_rules.specs.Plan.{CheckPlan, pure, node, chain}
use Rattle.dae_types_plans.specs.Steps.{at, does, nothing, looks, changes_to, ends, settles_name, declared_place, base_at, is_main}
use Rattle.dae_types_plans.specs.Expressions.{plan_specifiers, plan_declarator}
use Rattle.dae_types_file_plans.specs.declared.declarations.FileDeclaration.{FileDeclaration}
use Rattle.dae_types_file_plans.specs.declared.declarations.Role.{Role}
use Rattle.dae_types_file_plans.specs.declared.declarations.Role.TheVariants.{Reference, Tentative, Definition}
use Rattle.dae_types_file_plans.specs.Initialisers.{Content, plan_content, plan_unused_initialiser}
use Rattle.dae_types_file_plans.specs.declared.surroundings.Surrounding.{Surrounding}
use Rattle.dae_types_file_plans.specs.Statements.{plan_block, typedef_at, own_of, is_alone}

-- ---- what a file comes to: its declarations of objects and functions, the content of its objects that are initialised, and
-- its functions with their bodies
pub data Product : Type 0 where
  Declares : FileDeclaration → Product
  Data : (object : ℕ) → List program.Setting → Product
  Body : (routine : ℕ) → List Local → List Storage → program.Statements → Product

-- ---- functions and objects at file scope

abbrev pub is_main_name : Tables → Option Name → Bool
is_main_name s None = false
is_main_name s (Some n) = is_main s n.number

abbrev pub name_number : Option Name → ℕ
name_number None = 0
name_number (Some n) = n.number

-- a function that is declared again has the composite of its types
abbrev pub retyped : ℕ → ℕ → Tables → Option Routine → Tables
retyped f t s None = s
retyped f t s (Some r) = let x = composite s r.type_id t in set_routine f (record { name = r.name; type_id = x.1; own = r.own; defined = r.defined; library = r.library }) x.0

abbrev pub new_routine : Option Name → Bool → ℕ → Tables → Tables × ℕ
new_routine n own t s =
    (with_name (name_number n) (entity.Function (length s.routines)) (with_routine (record { name = name_number n; type_id = t; own = own; defined = false; library = None }) s), length s.routines)

abbrev pub declared_function : Option Name → Bool → ℕ → Option Entity → Tables → Tables × ℕ
declared_function n own t (Some (entity.Function f)) s = (retyped f t s (slice_get s.routines f), f)
declared_function n own t _ s = new_routine n own t s

-- the number of a function that is declared
abbrev pub function_at : Place → Bool → Bool → Option Name → CheckPlan ℕ → CheckPlan (Option ℕ)
function_at p own given n m =
    settles_name n (at (λ s t. AtFunction p (is_main_name s n) own given (own_of s n) s t) (λ s t. let x = declared_function n own t (own_of s n) s in (x.0, Some x.1)) m)

abbrev pub first_placed : Option Place → Bool → Place → Option Place
first_placed (Some q) placing p = Some q
first_placed None placing p = if placing then Some p else None

abbrev pub new_object : Place → Option Name → Option Keyword → Bool → ℕ → Tables → Tables × ℕ
new_object p n k given t s = (
  with_name (name_number n) (entity.Object (length s.objects))
      (with_object (record { name = name_number n; type_id = t; own = is_static k; initialised = given; placed = first_placed None (given || not (is_extern k)) p }) s),
  length s.objects,
)

abbrev pub replaced : Place → Option Keyword → Bool → ℕ → ℕ → Tables → Option StaticObject → Tables
replaced p k given o t s None = s
replaced p k given o t s (Some r) =
    let x = composite s r.type_id t in
    set_object o (record { name = r.name; type_id = x.1; own = r.own; initialised = r.initialised || given; placed = first_placed r.placed (given || not (is_extern k)) p }) x.0

abbrev pub declared_object : Place → Option Name → Option Keyword → Bool → ℕ → Option Entity → Tables → Tables × ℕ
declared_object p n k given t (Some (entity.Object o)) s = (replaced p k given o t s (slice_get s.objects o), o)
declared_object p n k given t _ s = new_object p n k given t s

abbrev pub object_at : Place → Option Keyword → Bool → Option Name → CheckPlan ℕ → CheckPlan (Option ℕ)
object_at p k given n m =
    settles_name n (at (λ s t. AtObject p k given (own_of s n) s t) (λ s t. let x = declared_object p n k given t (own_of s n) s in (x.0, Some x.1)) m)

-- ---- what a declaration is for an object or a function (C90 6.7.2)

abbrev pub role_of : (given placing : Bool) → Role
role_of given placing = if given then Definition else (if placing then Tentative else Reference)

abbrev pub declares_object : Place → Role → Option ℕ → List Product
declares_object p role None = []
declares_object p role (Some o) = Declares (record { entity = entity.Object o; place = p; role = role }) ∷ []

abbrev pub declares_function : Place → Role → Option ℕ → List Product
declares_function p role None = []
declares_function p role (Some f) = Declares (record { entity = entity.Function f; place = p; role = role }) ∷ []

abbrev pub produced : List Product → CheckPlan (List Product) → CheckPlan (List Product)
produced done m = does (λ s xs. (s, done ++ xs)) m

-- ---- initialisers of static storage

abbrev pub type_of_object : Tables → ℕ → ℕ
type_of_object s o = elim (slice_get s.objects o) [ None ↦ int_id | Some r ↦ r.type_id ]

abbrev pub with_object_type : ℕ → ℕ → Tables → Option StaticObject → Tables
with_object_type o t s None = s
with_object_type o t s (Some r) = set_object o (record { name = r.name; type_id = t; own = r.own; initialised = r.initialised; placed = r.placed }) s

abbrev pub data_at : ℕ → CheckPlan Content → CheckPlan (List Product)
data_at o m = does (λ s x. (with_object_type o x.type_id s (slice_get s.objects o), Data o x.items ∷ [])) m

abbrev pub plan_data : Place → Option (Place × Initialiser) → Option ℕ → CheckPlan (List Product)
plan_data p None o = pure []
plan_data p (Some x) None = does (λ s f. (s, [])) (plan_unused_initialiser x.1)
plan_data p (Some x) (Some o) = chain int_id (looks (λ s. type_of_object s o)) (λ t. data_at o (plan_content p 0 t x.1))

-- ---- declarations

abbrev pub plan_function : Place → Option Keyword → InitDeclarator → ℕ → CheckPlan (List Product)
plan_function p k i t = does (λ s f. (s, declares_function p Reference f)) (function_at p (is_static k) (is_some i.initialiser) (declared_name i.declarator) (pure t))

abbrev pub plan_object : Place → Option Keyword → InitDeclarator → ℕ → CheckPlan (List Product)
plan_object p k i t =
    let given = is_some i.initialiser in
    chain None (object_at p k given (declared_name i.declarator) (pure t)) (λ o. produced (declares_object p (role_of given (not (is_extern k))) o) (plan_data p i.initialiser o))

abbrev pub plan_either : Place → Option Keyword → InitDeclarator → ℕ → Bool → CheckPlan (List Product)
plan_either p k i t true = plan_function p k i t
plan_either p k i t false = plan_object p k i t

-- a type that is faulty makes no declaration: its name is noted, and its initialiser only looked at
abbrev pub plan_typed : Place → Option Keyword → InitDeclarator → Option ℕ → CheckPlan (List Product)
plan_typed p k i None = plan_data p i.initialiser None
plan_typed p k i (Some t) = chain false (looks (λ s. is_function (shape_of s t))) (plan_either p k i t)

abbrev pub some_type : CheckPlan NamedType → CheckPlan (Option ℕ)
some_type m = does (λ s x. (s, Some x.type_id)) m

abbrev pub plan_item_at : Bool → Place → Option Keyword → ℕ → InitDeclarator → CheckPlan (List Product)
plan_item_at true p k b i = does (λ s x. (s, [])) (typedef_at p false (is_some i.initialiser) (declared_name i.declarator) (plan_declarator p false b i.declarator))
plan_item_at false p k b i = chain None (settles_name (declared_name i.declarator) (some_type (plan_declarator p false b i.declarator))) (plan_typed p k i)

abbrev pub plan_items : Bool → Place → Option Keyword → ℕ → List Product → List InitDeclarator → CheckPlan (List Product)
plan_items is_typedef q k b done [] = pure done
plan_items is_typedef q k b done (i ∷ is) = chain done (produced done (plan_item_at is_typedef (declared_place i.declarator q) k b i)) (λ done. plan_items is_typedef q k b done is)

abbrev pub storage_of : Specifiers → Option Keyword
storage_of ws = (seen_behind nothing_seen ws).storage

abbrev pub plan_declared : List Product → Declaration → CheckPlan (List Product)
plan_declared done d =
    chain int_id (base_at d.specifiers (plan_specifiers context.File (is_alone d.items) None d.specifiers))
    (λ b. plan_items (has_typedef d.specifiers) (place_of_specifiers d.specifiers d.end) (storage_of d.specifiers) b done d.items)

-- ---- where the parameters and locals of a function are kept. Variable 0 holds what the function returns, the next ones the
-- parameters; other scalars follow, unless their addresses are taken. What is in the frame stands in the order of the text.
-- Sums stop at a number that is far above what a memory has: a call with such a frame traps, wherever its objects stand.
abbrev pub most_frame : ℕ
most_frame = 2 ^ 31

abbrev pub in_variable : Tables → Local → Bool
in_variable s x = is_scalar (shape_of s x.type_id) && not x.taken

-- from the next variable and the next offset on, so many parameters and then locals
abbrev pub kept_from : Tables → (variable offset parameters : ℕ) → List Local → List Storage
kept_from s v o n [] = []
kept_from s v o n (x ∷ xs) =
    let l = layout_at s x.type_id in
    let at = rounded o l.align in
    let next = word_for (suc v) in
    if in_variable s x then storage.Variable v ∷ kept_from s next o (n - 1) xs
    else storage.Frame at
    ∷ kept_from s (if nat_eq n 0 then v else next) (min (at + l.size) most_frame) (n - 1) xs

-- ---- definitions (C90 6.7.1)

abbrev pub is_direct : Declarator → Bool
is_direct d = is_some (function_part d)

abbrev pub definition_at : Place → Bool → Bool → CheckPlan NamedType → CheckPlan ℕ
definition_at p is_typedef direct m = at (λ s x. AtDefinition p is_typedef direct (shape_of s x.type_id)) (λ s x. (s, x.type_id)) m

abbrev pub defined_or : Option Routine → Tables → ℕ → Tables
defined_or None s f = s
defined_or (Some r) s f = set_routine f (record { name = r.name; type_id = r.type_id; own = r.own; defined = true; library = r.library }) s

abbrev pub routine_by : Tables → Option ℕ → Option Routine
routine_by s None = None
routine_by s (Some f) = slice_get s.routines f

abbrev pub define : Option ℕ → Tables → Tables × Option ℕ
define None s = (s, None)
define (Some f) s = (defined_or (slice_get s.routines f) s f, Some f)

abbrev pub second_at : Place → CheckPlan (Option ℕ) → CheckPlan (Option ℕ)
second_at p m = at (λ s f. AtSecond p (routine_by s f)) (λ s f. define f s) m

-- nothing local is there, and no scope is kept
abbrev pub started : Tables → Tables
started s = record s { locals = []; storages = []; kept_names = []; kept_tags = [] }

-- a definition's parameters have names
abbrev pub unnamed_site : Place → Option Name → List Site
unnamed_site p None = AtUnnamed p ∷ []
unnamed_site p (Some n) = []

abbrev pub unnamed_sites : Place → Parameters → List Site
unnamed_sites q tree.no_parameters = []
unnamed_sites q (tree.parameter_then ws d ps) = unnamed_site (place_of_specifiers ws q) (declared_name d) ++ unnamed_sites q ps

abbrev pub parameters_in : Option Declarator → Parameters
parameters_in (Some (tree.Function d q ps)) = ps
parameters_in _ = tree.no_parameters

abbrev pub count_parameters : Parameters → ℕ
count_parameters tree.no_parameters = 0
count_parameters (tree.parameter_then ws d ps) = suc (count_parameters ps)

abbrev pub named_at : Place → Parameters → CheckPlan (Unit {0})
named_at p ps = node (λ s x. unnamed_sites p ps) (λ s x. (s, tt {0})) nothing

-- the body goes through twice: first to see whose address is taken, and then with each parameter and local in its place
abbrev pub settled_locals : ℕ → Tables → Tables
settled_locals n s = with_storages (kept_from s 1 0 n s.locals) (with_locals (take n s.locals) s)

abbrev pub in_body : CheckPlan program.Statements → CheckPlan program.Statements
in_body m = chain (record { names = 0; tags = 0 }) (does (λ s x. (reopened s, s.innermost)) nothing) (λ outer. ends (closed outer) m)

-- the scope of the parameters is kept for the second time
abbrev pub keep_scope : Tables → Tables → Tables
keep_scope old s = record s { kept_names = old.kept_names; kept_tags = old.kept_tags; uses = old.uses }

abbrev pub first_time : ℕ → CheckPlan program.Statements → CheckPlan (Unit {0})
first_time n body = chain (record { names = 0; tags = 0 }) (does (λ s x. (reopened s, s.innermost)) nothing) (λ outer. does (λ s x. (s, tt {0})) (ends (closed outer) body))

abbrev pub body_product : ℕ → Tables → program.Statements → List Product
body_product f s x = Body f s.locals s.storages x ∷ []

abbrev pub second_time : Option ℕ → CheckPlan program.Statements → CheckPlan (List Product)
second_time f body = does (λ s x. (s, elim f [ None ↦ [] | Some g ↦ body_product g s x ])) (in_body body)

abbrev pub twice : ℕ → Option ℕ → CheckPlan program.Statements → CheckPlan (List Product)
twice n f body = chain [] (looks (λ s. s ∷ [])) (λ olds. chain tt (first_time n body)
    (λ x. chain tt (changes_to (λ s. settled_locals n (elim olds [ [] ↦ s | old ∷ rest ↦ keep_scope old s ]))) (λ y. second_time f body)))

abbrev pub result_type : Tables → Option ℕ → Option ℕ
result_type s None = None
result_type s (Some t) = Some (result_of (shape_of s t))

abbrev pub surrounding : Tables → Bool → Option ℕ → Surrounding
surrounding s main t = record { result = result_type s t; is_main = main; inside_loop = false; inside_switch = false }

abbrev pub first_surrounding : Surrounding
first_surrounding = record { result = None; is_main = false; inside_loop = false; inside_switch = false }

abbrev pub plan_body_of : Place → Option Name → Parameters → List Declaration → Statements → Option ℕ → Option ℕ → CheckPlan (List Product)
plan_body_of p n ps ds ss t f = chain tt (named_at p ps) (λ x. chain first_surrounding (looks (λ s. surrounding s (is_main_name s n) t)) (λ c. twice (count_parameters ps) f (plan_block c ds ss)))

-- of a function whose type is faulty the body is looked at
abbrev pub plan_defined_as : Place → Option Keyword → Option Name → Parameters → List Declaration → Statements → Option ℕ → CheckPlan (List Product)
plan_defined_as p k n ps ds ss None = plan_body_of p n ps ds ss None None
plan_defined_as p k n ps ds ss (Some t) =
    chain None (second_at p (function_at p (is_static k) false n (pure t))) (λ f. produced (declares_function p Definition f) (plan_body_of p n ps ds ss (Some t) f))

abbrev pub some_of : CheckPlan ℕ → CheckPlan (Option ℕ)
some_of m = does (λ s t. (s, Some t)) m

abbrev pub plan_defined : List Product → Specifiers → Declarator → Place → List Declaration → Statements → CheckPlan (List Product)
plan_defined done ws d q ds ss =
    let p = declared_place d (place_of_specifiers ws q) in
    let n = declared_name d in
    produced
    done
    (chain tt (changes_to started) (λ x. chain int_id (base_at ws (plan_specifiers context.File false None ws))
    (λ b. chain None (settles_name n (some_of (definition_at p (has_typedef ws) (is_direct d) (plan_declarator p false b d))))
    (plan_defined_as p (storage_of ws) n (parameters_in (function_part d)) ds ss))))

-- ---- the end of the file: each object that has room must have a complete type

abbrev pub end_sites : Tables → List StaticObject → List Site
end_sites s [] = []
end_sites s (o ∷ os) = elim o.placed [ None ↦ end_sites s os | Some p ↦ AtEndOfFile p s o.type_id ∷ end_sites s os ]

abbrev pub ends_file : CheckPlan (List Product) → CheckPlan (List Product)
ends_file m = node (λ s xs. end_sites s s.objects) (λ s xs. (s, xs)) m

abbrev pub plan_external : List Product → External → CheckPlan (List Product)
plan_external done (tree.Declared d) = plan_declared done d
plan_external done (tree.Defined ws d q ds ss) = plan_defined done ws d q ds ss

abbrev pub plan_externals : List Product → List External → CheckPlan (List Product)
plan_externals done [] = pure done
plan_externals done (x ∷ xs) = chain done (plan_external done x) (λ done. plan_externals done xs)

abbrev pub plan_file : List External → CheckPlan (List Product)
plan_file xs = ends_file (plan_externals [] xs)

-- ---- what is declared before the first token (C90 7.9.6.3, 7.9.7.9, 7.10.4.1 and 7.10.4.3): the basic types, and the
-- functions of the headers that the file includes, by the numbers of their names

-- int (char *), int (int), void (int) and void (void)
abbrev pub printf_type : ℕ
printf_type = 11

abbrev pub putchar_type : ℕ
putchar_type = 13

abbrev pub exit_type : ℕ
exit_type = 14

abbrev pub abort_type : ℕ
abort_type = 15

abbrev pub header_shapes : List Shape
header_shapes = shape.Pointer 1 ∷ shape.Parameter 8 9 ∷ shape.Function 6 10 ∷ shape.Parameter 8 6 ∷ shape.Function 6 12 ∷ shape.Function 0 12 ∷ shape.Function 0 8 ∷ []

abbrev pub empty_tables : List (List ℕ) → Option ℕ → Tables
empty_tables literals main =
    record {
      shapes = first_shapes ++ header_shapes;
      structures = [];
      components = [];
      names = [];
      tags = [];
      innermost = record { names = 0; tags = 0 };
      kept_names = [];
      kept_tags = [];
      objects = [];
      routines = [];
      locals = [];
      storages = [];
      uses = [];
      literals = literals;
      main = main;
    }

abbrev pub with_library : LibraryFunction → ℕ → Option ℕ → Tables → Tables
with_library f t None s = s
with_library f t (Some name) s = with_name name (entity.Function (length s.routines)) (with_routine (record { name = name; type_id = t; own = false; defined = false; library = Some f }) s)

-- the numbers of the names of the library's functions and of main, where the file has them
pub record LibraryNames : Type 0 where
  pub printf : Option ℕ
  pub putchar : Option ℕ
  pub exit : Option ℕ
  pub abort : Option ℕ
  pub main : Option ℕ

abbrev pub with_stdio : Bool → LibraryNames → Tables → Tables
with_stdio false n s = s
with_stdio true n s = with_library library.Putchar putchar_type n.putchar (with_library library.Printf printf_type n.printf s)

abbrev pub with_stdlib : Bool → LibraryNames → Tables → Tables
with_stdlib false n s = s
with_stdlib true n s = with_library library.Abort abort_type n.abort (with_library library.Exit exit_type n.exit s)

abbrev pub start_of : Bool → Bool → LibraryNames → List (List ℕ) → Tables
start_of stdio stdlib n literals = with_stdlib stdlib n (with_stdio stdio n (empty_tables literals n.main))

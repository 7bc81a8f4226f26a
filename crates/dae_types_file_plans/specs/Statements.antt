-- The plans of statements, blocks and local declarations (C90 6.5 and 6.6).
use Rattle.std.specs.Prelude.{ℕ, suc, List, [], ◌∷◌, ◌++◌, length, Option, Some, None, is_some, Bool, true, false, ◌||◌, nat_eq, if◌then◌else◌, slice_get}
use Rattle.dae_base.specs.declared.Place.{Place}
use Rattle.dae_tree.specs.declared.expressions.Name.{Name}
use Rattle.dae_tree.specs.Trees as tree
use Rattle.dae_tree.specs.Trees.{Expression, Expressions, Specifiers, Declarator, Initialiser, InitDeclarator, Declaration, Statement, Statements}
use Rattle.dae_tree.specs.Depth.{place_of, place_of_specifiers, place_of_statement}
use Rattle.dae_tree.specs.Names.{declared_name, has_typedef}
use Rattle.dae_program.specs.declared.statements.FormatPiece.{FormatPiece}
use Rattle.dae_program.specs.Trees as program
use Rattle.dae_types_kinds.specs.declared.tables.Context.TheVariants as context
use Rattle.dae_types_kinds.specs.declared.tables.Entity.{Entity}
use Rattle.dae_types_kinds.specs.declared.tables.Entity.TheVariants as entity
use Rattle.dae_types_kinds.specs.declared.tables.Local.{Local}
use Rattle.dae_types_kinds.specs.declared.tables.NamedType.{NamedType}
use Rattle.dae_types_kinds.specs.declared.tables.Storage.{Storage}
use Rattle.dae_types_kinds.specs.declared.tables.Storage.TheVariants as storage
use Rattle.dae_types_kinds.specs.Tables.{Tables, with_name, set_local, found_name, own_entity}
use Rattle.dae_types_kinds.specs.Types.{int_id, shape_of, is_scalar, layout_at}
use Rattle.dae_types_kinds.specs.Values.{Typed, converted, load_kind, local_type, library_of, is_printf}
use Rattle.dae_types_rules.specs.Sites.{Site, AtAssign, AtReturn, AtBreak, AtCase, AtDefault, AtCaseOutside, AtSwitchBody, AtFormat, AtPrinted, AtTypedef, AtLocal, AtScalarList}
use Rattle.dae_types_rules.specs.Plan.{CheckPlan, pure, both, node, chain}
use Rattle.dae_types_plans.specs.Steps.{at, asks, does, nothing, looks, scoped, settles_name, declared_place, base_at, constant_at, integer_at, condition_at, name_in, with_named_local, is_taken, routine_in, count_of}
use Rattle.dae_types_plans.specs.Expressions.{plan, plan_specifiers, plan_declarator, plan_value}
use Rattle.dae_types_file_plans.specs.declared.surroundings.Surrounding.{Surrounding}
use Rattle.dae_types_file_plans.specs.Initialisers.{Content, plan_content, plan_unused_initialiser, is_one, literal_bytes, literal_in}
use Rattle.dae_types_file_plans.specs.Formats.{InText, pieces_from, letters}
use Rattle.dae_types_file_plans.specs.Naming.{names_variable}

-- ---- statements that are done, and one behind them

abbrev pub behind_all : program.Statements → program.Statements → program.Statements
behind_all program.Done x = x
behind_all (program.Evaluate p e k) x = program.Evaluate p e (behind_all k x)
behind_all (program.Initialise p o size items k) x = program.Initialise p o size items (behind_all k x)
behind_all (program.Print p es pieces k) x = program.Print p es pieces (behind_all k x)
behind_all (program.If p e s t k) x = program.If p e s t (behind_all k x)
behind_all (program.Loop p e body step k) x = program.Loop p e body step (behind_all k x)
behind_all (program.Do p body e k) x = program.Do p body e (behind_all k x)
behind_all (program.Switch p e arms k) x = program.Switch p e arms (behind_all k x)
behind_all (program.Break p k) x = program.Break p (behind_all k x)
behind_all (program.Continue p k) x = program.Continue p (behind_all k x)
behind_all (program.Return p e k) x = program.Return p e (behind_all k x)

abbrev pub appended : program.Statements → CheckPlan program.Statements → CheckPlan program.Statements
appended done m = does (λ s x. (s, behind_all done x)) m

abbrev pub evaluate : Place → program.Expression → program.Statements
evaluate p e = program.Evaluate p e program.Done

-- ---- local declarations (C90 6.5, 6.7.1 and 6.5.7)

-- a typedef of a name
abbrev pub with_typedef : Option Name → ℕ → Tables → Tables
with_typedef None t s = s
with_typedef (Some n) t s = with_name n.number (entity.Type t) s

abbrev pub own_of : Tables → Option Name → Option Entity
own_of s None = None
own_of s (Some n) = own_entity s n.number

abbrev pub typedef_at : Place → Bool → Bool → Option Name → CheckPlan NamedType → CheckPlan (Unit {0})
typedef_at p block given n m = settles_name n (at (λ s x. AtTypedef p block given (own_of s n) s x.type_id) (λ s x. (with_typedef n x.type_id s, tt {0})) m)

-- the number of a local object
abbrev pub local_at : Place → Bool → Option Name → CheckPlan NamedType → CheckPlan (Option ℕ)
local_at p given n m = settles_name n (at (λ s x. AtLocal p (is_taken s n) given s x.type_id) (λ s x. (with_named_local n x.type_id s, Some (length s.locals))) m)

abbrev pub type_of_local : Tables → ℕ → ℕ
type_of_local s k = local_type (slice_get s.locals k)

abbrev pub storage_target : Option Storage → Place → program.Target
storage_target (Some (storage.Variable n)) p = program.InVariable n
storage_target (Some (storage.Frame o)) p = program.AtAddress false (program.Frame p o)
storage_target None p = program.AtAddress false (program.Frame p 0)

abbrev pub frame_offset : Option Storage → ℕ
frame_offset (Some (storage.Frame o)) = o
frame_offset _ = 0

abbrev pub offset_of_local : Tables → ℕ → ℕ
offset_of_local s k = frame_offset (slice_get s.storages k)

abbrev pub assigned_to : Place → Tables → ℕ → program.Expression → program.Expression
assigned_to p s k e = program.Assign p (load_kind (shape_of s (type_of_local s k))) (storage_target (slice_get s.storages k) p) e

-- a local scalar gets a value
abbrev pub set_to : Place → Tables → ℕ → program.Expression → program.Statements
set_to p s k e = evaluate p (assigned_to p s k e)

-- what is kept in a variable is named in an expression
abbrev pub names_stored : Option Storage → program.Expression → Bool
names_stored (Some (storage.Variable n)) e = names_variable n e
names_stored _ e = false

abbrev pub taken_or_not : Option Local → Bool
taken_or_not None = false
taken_or_not (Some x) = x.taken

-- a local scalar gets the value of its own initialiser; where that reads it, it is 0 before, each time that its declaration is
-- reached: so each variable is set before it is read
abbrev pub own_set : Bool → Place → Tables → ℕ → program.Expression → program.Statements
own_set false p s k e = set_to p s k e
own_set true p s k e = behind_all (set_to p s k (program.Number 0)) (set_to p s k e)

abbrev pub set_by_own : Place → ℕ → Tables → program.Expression → Tables × program.Statements
set_by_own p k s e = (s, own_set (names_stored (slice_get s.storages k) e) p s k e)

-- a scalar's initialiser is any expression, perhaps in braces
abbrev pub scalar_value_at : Place → Place → ℕ → CheckPlan Typed → CheckPlan program.Statements
scalar_value_at p q k m = at (λ s x. AtAssign q s x (type_of_local s k)) (λ s x. set_by_own p k s (converted q s x (type_of_local s k)).tree) m

abbrev pub scalar_list_at : Place → tree.Initialisers → CheckPlan (Unit {0})
scalar_list_at q js = node (λ s x. if is_one js then [] else AtScalarList q ∷ []) (λ s x. (s, tt {0})) nothing

abbrev mutual
  pub plan_scalar : Place → ℕ → Initialiser → CheckPlan program.Statements
  plan_scalar p k (tree.Value e) = scalar_value_at p (place_of e) k (plan_value e)
  plan_scalar p k (tree.Listed q js comma) = chain tt (scalar_list_at q js) (λ x. plan_first_scalar p k js)

  -- the rest of a list of more than one is only looked at
  pub plan_first_scalar : Place → ℕ → tree.Initialisers → CheckPlan program.Statements
  plan_first_scalar p k tree.no_initialisers = pure program.Done
  plan_first_scalar p k (tree.initialiser_then x xs) = plan_scalar p k x

abbrev pub with_type : ℕ → ℕ → Tables → Tables
with_type k t s = set_local k (record { type_id = t; taken = taken_or_not (slice_get s.locals k) }) s

-- an aggregate begins as zeros, and then its items are set
abbrev pub initialised_at : Place → ℕ → CheckPlan Content → CheckPlan program.Statements
initialised_at p k m = does (λ s x. (with_type k x.type_id s, program.Initialise p (offset_of_local s k) (layout_at s x.type_id).size x.items program.Done)) m

-- a scalar without an initialiser begins as 0, an aggregate as anything
abbrev pub begin_local : Place → ℕ → CheckPlan program.Statements
begin_local p k = looks (λ s. if is_scalar (shape_of s (type_of_local s k)) then set_to p s k (program.Number 0) else program.Done)

abbrev pub plan_given : Place → ℕ → Initialiser → Bool → CheckPlan program.Statements
plan_given p k x true = plan_scalar p k x
plan_given p k x false =
    chain int_id (looks (λ s. type_of_local s k)) (λ t. chain 0 (looks (λ s. offset_of_local s k)) (λ o. initialised_at p k (plan_content p o t x)))

abbrev pub plan_local : Place → Option (Place × Initialiser) → Option ℕ → CheckPlan program.Statements
plan_local p None None = pure program.Done
plan_local p None (Some k) = begin_local p k
plan_local p (Some x) None = does (λ s f. (s, program.Done)) (plan_unused_initialiser x.1)
plan_local p (Some x) (Some k) = chain true (looks (λ s. is_scalar (shape_of s (type_of_local s k)))) (plan_given p k x.1)

abbrev pub plan_item_at : Bool → Place → ℕ → InitDeclarator → CheckPlan program.Statements
plan_item_at true p b i = does (λ s x. (s, program.Done)) (typedef_at p true (is_some i.initialiser) (declared_name i.declarator) (plan_declarator p false b i.declarator))
plan_item_at false p b i = chain None (local_at p (is_some i.initialiser) (declared_name i.declarator) (plan_declarator p false b i.declarator)) (plan_local p i.initialiser)

abbrev pub plan_items : Place → Bool → ℕ → program.Statements → List InitDeclarator → CheckPlan program.Statements
plan_items q is_typedef b done [] = pure done
plan_items q is_typedef b done (i ∷ is) = chain done (appended done (plan_item_at is_typedef (declared_place i.declarator q) b i)) (λ done. plan_items q is_typedef b done is)

abbrev pub is_alone : List InitDeclarator → Bool
is_alone [] = true
is_alone _ = false

abbrev pub plan_declaration : program.Statements → Declaration → CheckPlan program.Statements
plan_declaration done d =
    chain int_id (base_at d.specifiers (plan_specifiers context.Block (is_alone d.items) None d.specifiers))
    (λ b. plan_items (place_of_specifiers d.specifiers d.end) (has_typedef d.specifiers) b done d.items)

abbrev pub plan_declarations : program.Statements → List Declaration → CheckPlan program.Statements
plan_declarations done [] = pure done
plan_declarations done (d ∷ ds) = chain done (plan_declaration done d) (λ done. plan_declarations done ds)

-- ---- what stands round a statement

abbrev pub in_loop : Surrounding → Surrounding
in_loop c = record { result = c.result; is_main = c.is_main; inside_loop = true; inside_switch = c.inside_switch }

abbrev pub in_switch : Surrounding → Surrounding
in_switch c = record { result = c.result; is_main = c.is_main; inside_loop = c.inside_loop; inside_switch = true }

-- ---- return (C90 6.6.6.4). In main it ends the program.

abbrev pub returned : Place → Bool → program.Expression → program.Statements
returned p true e = evaluate p (program.Exit p e)
returned p false e = program.Return p (Some e) program.Done

abbrev pub nothing_returned : Place → Bool → program.Statements
nothing_returned p true = evaluate p (program.Exit p (program.Number 0))
nothing_returned p false = program.Return p None program.Done

abbrev pub return_sites : Place → Tables → Option ℕ → Typed → List Site
return_sites p s None x = []
return_sites p s (Some t) x = AtReturn p s t x ∷ []

abbrev pub as_result : Place → Tables → Option ℕ → Typed → program.Expression
as_result p s None x = x.tree
as_result p s (Some t) x = (converted p s x t).tree

abbrev pub return_at : Place → Surrounding → CheckPlan Typed → CheckPlan program.Statements
return_at p c m = node (λ s x. return_sites p s c.result x) (λ s x. (s, returned p c.is_main (as_result p s c.result x))) m

abbrev pub plan_return : Place → Surrounding → Option Expression → CheckPlan program.Statements
plan_return p c None = pure (nothing_returned p c.is_main)
plan_return p c (Some e) = return_at p c (plan_value e)

-- ---- printf, as a statement (C90 7.9.6.3)

abbrev pub is_printf_name : Tables → Option Name → Bool
is_printf_name s None = false
is_printf_name s (Some n) = elim (routine_in (found_name s n.number)) [ None ↦ false | Some f ↦ is_printf (library_of (slice_get s.routines f)) ]

abbrev pub callee_name : Expression → Option Name
callee_name (tree.Call f p xs) = name_in f
callee_name _ = None

abbrev pub arguments_of : Expression → Expressions
arguments_of (tree.Call f p xs) = xs
arguments_of _ = tree.no_expressions

-- a format's pieces, where it is a literal, of this number
abbrev pub format_of : Tables → Option ℕ → Option (List FormatPiece)
format_of s None = None
format_of s (Some n) = pieces_from InText 0 (literal_bytes s (Some n))

abbrev pub wanted_by : Option (List FormatPiece) → Option ℕ
wanted_by None = None
wanted_by (Some ps) = Some (length (letters ps))

abbrev pub pieces_or : Option (List FormatPiece) → List FormatPiece
pieces_or None = []
pieces_or (Some ps) = ps

-- the format of a printf with so many arguments behind it
abbrev pub format_at : Place → Option ℕ → ℕ → CheckPlan (List FormatPiece)
format_at p n given = at (λ s x. AtFormat p (wanted_by (format_of s n)) given) (λ s x. (s, pieces_or (format_of s n))) nothing

abbrev pub printed_sites : Place → Tables → Option Bool → Typed → List Site
printed_sites p s None x = []
printed_sites p s (Some text) x = AtPrinted p s text x ∷ []

abbrev pub printed_at : Place → Option Bool → List program.Expression → CheckPlan Typed → CheckPlan (List program.Expression)
printed_at p text done m = node (λ s x. printed_sites p s text x) (λ s x. (s, done ++ (x.tree ∷ []))) m

abbrev pub plan_printed : List Bool → ℕ → List program.Expression → Expressions → CheckPlan (List program.Expression)
plan_printed texts i done tree.no_expressions = pure done
plan_printed texts i done (tree.expression_then e es) = chain done (printed_at (place_of e) (slice_get texts i) done (plan_value e)) (λ done. plan_printed texts (suc i) done es)

abbrev pub listed_all : List program.Expression → program.Expressions
listed_all [] = program.no_expressions
listed_all (e ∷ es) = program.expression_then e (listed_all es)

-- the place is that of the statement
abbrev pub plan_printf : Place → Expressions → CheckPlan program.Statements
plan_printf p tree.no_expressions = asks (λ s x. AtFormat p None 0) (pure program.Done)
plan_printf p (tree.expression_then e es) =
    chain [] (format_at (place_of e) (literal_in e) (count_of es)) (λ ps. does (λ s xs. (s, program.Print p (listed_all xs) ps program.Done)) (plan_printed (letters ps) 0 [] es))

abbrev pub plan_evaluation : Expression → Bool → CheckPlan program.Statements
plan_evaluation e true = plan_printf (place_of e) (arguments_of e)
plan_evaluation e false = does (λ s x. (s, evaluate (place_of e) x.tree)) (plan_value e)

abbrev pub plan_evaluate : Expression → CheckPlan program.Statements
plan_evaluate e = chain false (looks (λ s. is_printf_name s (callee_name e))) (plan_evaluation e)

-- ---- the parts of a switch (C90 6.6.4.2)

-- statements behind labels
pub record Armed : Type 0 where
  pub labels : List (Option ℕ)
  pub statements : program.Statements

abbrev pub arms_of : List Armed → program.Arms
arms_of [] = program.no_arms
arms_of (a ∷ rest) = program.arm_then a.labels a.statements (arms_of rest)

abbrev pub is_done : program.Statements → Bool
is_done program.Done = true
is_done _ = false

-- a label stands with those before it where no statement is between them
abbrev pub with_label : Option ℕ → List Armed → List Armed
with_label l [] = record { labels = l ∷ []; statements = program.Done } ∷ []
with_label l (a ∷ []) = if is_done a.statements then record a { labels = a.labels ++ (l ∷ []) } ∷ [] else a ∷ record { labels = l ∷ []; statements = program.Done } ∷ []
with_label l (a ∷ rest) = a ∷ with_label l rest

abbrev pub with_statement : program.Statements → List Armed → List Armed
with_statement x [] = record { labels = []; statements = x } ∷ []
with_statement x (a ∷ []) = record a { statements = behind_all a.statements x } ∷ []
with_statement x (a ∷ rest) = a ∷ with_statement x rest

-- what a switch has so far: the labels and the arms
pub record Arming : Type 0 where
  pub seen : List (Option ℕ)
  pub arms : List Armed

abbrev pub same_label : Option ℕ → Option ℕ → Bool
same_label None None = true
same_label (Some m) (Some n) = nat_eq m n
same_label _ _ = false

abbrev pub is_seen : Option ℕ → List (Option ℕ) → Bool
is_seen l [] = false
is_seen l (x ∷ xs) = same_label l x || is_seen l xs

abbrev pub labelled : Option ℕ → Arming → Arming
labelled l a = record { seen = a.seen ++ (l ∷ []); arms = with_label l a.arms }

abbrev pub case_at : Place → Arming → CheckPlan ℕ → CheckPlan Arming
case_at p a m = at (λ s w. AtCase p (is_seen (Some w) a.seen)) (λ s w. (s, labelled (Some w) a)) m

abbrev pub default_at : Place → Arming → CheckPlan Arming
default_at p a = at (λ s x. AtDefault p (is_seen None a.seen)) (λ s x. (s, labelled None a)) nothing

abbrev pub label_at : Expression → CheckPlan ℕ
label_at e = constant_at (place_of e) (plan_value e)

abbrev pub body_sites : List Declaration → List Site
body_sites [] = []
body_sites (d ∷ ds) = AtSwitchBody (place_of_specifiers d.specifiers d.end) ∷ []

abbrev pub switch_body_at : List Declaration → CheckPlan (Unit {0})
switch_body_at ds = node (λ s x. body_sites ds) (λ s x. (s, tt {0})) nothing

abbrev pub switch_of : Place → CheckPlan Typed → CheckPlan (List Armed) → CheckPlan program.Statements
switch_of p value arms = does (λ s x. (s, program.Switch p x.0.tree (arms_of x.1) program.Done)) (both value arms)

-- ---- statements

abbrev pub plan_optional : Option Expression → CheckPlan (Option program.Expression)
plan_optional None = pure None
plan_optional (Some e) = does (λ s x. (s, Some x.tree)) (plan_value e)

-- the tree of a value that is a condition
abbrev pub test_at : Place → CheckPlan Typed → CheckPlan program.Expression
test_at p m = does (λ s x. (s, x.tree)) (condition_at p m)

abbrev pub plan_condition : Expression → CheckPlan program.Expression
plan_condition e = test_at (place_of e) (plan e)

abbrev pub plan_test : Option Expression → CheckPlan (Option program.Expression)
plan_test None = pure None
plan_test (Some e) = does (λ s x. (s, Some x)) (plan_condition e)

abbrev pub started : Place → Option program.Expression → program.Statements → program.Statements
started p None x = x
started p (Some e) x = program.Evaluate p e x

abbrev pub starting_place : Place → Option Expression → Place
starting_place p None = p
starting_place p (Some e) = place_of e

-- break ends a loop or a switch, continue a turn of a loop (C90 6.6.6.2 and 6.6.6.3)
abbrev pub break_at : Place → Surrounding → CheckPlan program.Statements
break_at p c = asks (λ s x. AtBreak p (c.inside_loop || c.inside_switch)) (pure (program.Break p program.Done))

abbrev pub continue_at : Place → Surrounding → CheckPlan program.Statements
continue_at p c = asks (λ s x. AtBreak p c.inside_loop) (pure (program.Continue p program.Done))

abbrev mutual
  pub plan_statement : Surrounding → Statement → CheckPlan program.Statements
  plan_statement c (tree.Block p ds ss) = scoped (chain program.Done (plan_declarations program.Done ds) (λ done. plan_statements c done ss))
  plan_statement c (tree.Nothing p) = pure program.Done
  plan_statement c (tree.Evaluate e p) = plan_evaluate e
  plan_statement c (tree.If p q e t) = does (λ s x. (s, program.If p x.0 x.1 program.Done program.Done)) (both (plan_condition e) (plan_statement c t))
  plan_statement c (tree.IfElse p q e t u) = does (λ s x. (s, program.If p x.0 x.1.0 x.1.1 program.Done)) (both (plan_condition e) (both (plan_statement c t) (plan_statement c u)))
  plan_statement c (tree.While p q e t) = does (λ s x. (s, program.Loop p (Some x.0) x.1 None program.Done)) (both (plan_condition e) (plan_statement (in_loop c) t))
  plan_statement c (tree.Do p t q r e u) = does (λ s x. (s, program.Do p x.0 x.1 program.Done)) (both (plan_statement (in_loop c) t) (plan_condition e))
  plan_statement c (tree.For p q a r b u d t) =
      does (λ s x. (s, started (starting_place p a) x.0 (program.Loop p x.1.0 x.1.1.1 x.1.1.0 program.Done)))
      (both (plan_optional a) (both (plan_test b) (both (plan_optional d) (plan_statement (in_loop c) t))))
  plan_statement c (tree.Break p q) = break_at p c
  plan_statement c (tree.Continue p q) = continue_at p c
  plan_statement c (tree.Return p e q) = plan_return p c e
  plan_statement c (tree.Switch p q e t) = switch_of p (integer_at (place_of e) (plan_value e)) (plan_body (in_switch c) t (plan_statement (in_switch c) t))
  plan_statement c (tree.Case p e t) = chain 0 (chain tt (asks (λ s x. AtCaseOutside p) nothing) (λ x. label_at e)) (λ w. plan_statement c t)
  plan_statement c (tree.Default p t) = chain tt (asks (λ s x. AtCaseOutside p) nothing) (λ x. plan_statement c t)

  pub plan_statements : Surrounding → program.Statements → Statements → CheckPlan program.Statements
  plan_statements c done tree.no_statements = pure done
  plan_statements c done (tree.statement_then t ts) = chain done (appended done (plan_statement c t)) (λ done. plan_statements c done ts)

  -- the body of a switch: a block, without declarations. A body that is none has this plan.
  pub plan_body : Surrounding → Statement → CheckPlan program.Statements → CheckPlan (List Armed)
  plan_body c (tree.Block p ds ss) m =
      scoped (chain tt (switch_body_at ds) (λ x. chain program.Done (plan_declarations program.Done ds) (λ y. plan_arms c (record { seen = []; arms = [] }) ss)))
  plan_body c t m = chain tt (asks (λ s x. AtSwitchBody (place_of_statement t)) nothing) (λ x. does (λ s y. (s, [])) m)

  pub plan_arms : Surrounding → Arming → Statements → CheckPlan (List Armed)
  plan_arms c a tree.no_statements = pure a.arms
  plan_arms c a (tree.statement_then t ts) = chain a (plan_labelled c a t (plan_statement c t)) (λ a. plan_arms c a ts)

  -- the labels before a statement of a switch, and the statement, whose plan this is where it has no label
  pub plan_labelled : Surrounding → Arming → Statement → CheckPlan program.Statements → CheckPlan Arming
  plan_labelled c a (tree.Case p e t) m = chain a (case_at p a (label_at e)) (λ a. plan_labelled c a t (plan_statement c t))
  plan_labelled c a (tree.Default p t) m = chain a (default_at p a) (λ a. plan_labelled c a t (plan_statement c t))
  plan_labelled c a t m = does (λ s x. (s, record a { arms = with_statement x a.arms })) m

-- a block, whose scope is begun
abbrev pub plan_block : Surrounding → List Declaration → Statements → CheckPlan program.Statements
plan_block c ds ss = chain program.Done (plan_declarations program.Done ds) (λ done. plan_statements c done ss)

-- Plans of parts of declarations and definitions at file scope, and of a file's end.
use Rattle.std.specs.Prelude.{ℕ, List, Option, Some, None, Bool, false}
use Rattle.dae_base.specs.declared.Place.{Place}
use Rattle.dae_tree.specs.declared.words.Keyword.{Keyword}
use Rattle.dae_tree.specs.declared.expressions.Name.{Name}
use Rattle.dae_tree.specs.declared.statements.Block.{Block}
use Rattle.dae_tree.specs.Trees.{Declarator, Initialiser, Parameters, Specifiers}
use Rattle.dae_tree.specs.Depth.{place_of_specifiers}
use Rattle.dae_tree.specs.FileViews.{view_declarations, views_statements}
use Rattle.dae_tree.specs.Names.{declared_name, function_part, has_typedef}
use Rattle.dae_program.specs.Trees as program
use Rattle.dae_types_kinds.specs.declared.tables.Context.TheVariants as context
use Rattle.dae_types_kinds.specs.Types.{int_id}
use Rattle.dae_types_rules.specs.Plan.{CheckPlan, node, chain, pure}
use Rattle.dae_types_plans.specs.Steps.{base_at, changes_to, declared_place, looks, nothing, settles_name}
use Rattle.dae_types_plans.specs.Expressions.{plan_declarator, plan_specifiers}
use Rattle.dae_types_file_plans.specs.declared.surroundings.Surrounding.{Surrounding}
use Rattle.dae_types_file_plans.specs.Files.{Product, data_at, definition_at, end_sites, function_at, is_direct, plan_body_of, parameters_in, plan_defined, plan_defined_as, second_at, some_of, some_type, started, storage_of, type_of_object}
use Rattle.dae_types_file_plans.specs.Initialisers.{plan_content}
use Rattle.dae_types_file_plans.specs.Statements.{plan_block}
use Rattle.dae_types_rules.specs.Table.{is_static}

-- ---- declarations

-- the type that specifiers name
abbrev pub plan_file_base : Bool → Specifiers → CheckPlan ℕ
plan_file_base alone ws = base_at ws (plan_specifiers context.File alone None ws)

-- the type that a declarator gives to its name
abbrev pub plan_type_of : Place → ℕ → Declarator → CheckPlan (Option ℕ)
plan_type_of p b d = settles_name (declared_name d) (some_type (plan_declarator p false b d))

-- what an object with an initialiser holds
abbrev pub plan_object_data : Place → Initialiser → ℕ → CheckPlan (List Product)
plan_object_data p x o = chain int_id (looks (λ s. type_of_object s o)) (λ t. data_at o (plan_content p 0 t x))

-- ---- definitions

-- the type of a definition
abbrev pub plan_type_of_definition : Place → Specifiers → ℕ → Declarator → CheckPlan (Option ℕ)
plan_type_of_definition p ws b d = settles_name (declared_name d) (some_of (definition_at p (has_typedef ws) (is_direct d) (plan_declarator p false b d)))

-- a function is declared by its definition
abbrev pub plan_entry : Place → Option Keyword → Option Name → ℕ → CheckPlan (Option ℕ)
plan_entry p k n t = second_at p (function_at p (is_static k) false n (pure t))

-- the block of a function in memory
abbrev pub plan_statements_of : Surrounding → Block → CheckPlan program.Statements
plan_statements_of c b = plan_block c (view_declarations b.declarations.items) (views_statements b.statements.items)

-- the body of a function in memory, whose type isn't faulty
abbrev pub plan_body_in : Place → Option Name → Parameters → Block → ℕ → Option ℕ → CheckPlan (List Product)
plan_body_in p n ps b t f = plan_body_of p n ps (view_declarations b.declarations.items) (views_statements b.statements.items) (Some t) f

-- a definition in memory, whose type isn't faulty
abbrev pub plan_definition : Place → Option Keyword → Option Name → Parameters → Block → ℕ → CheckPlan (List Product)
plan_definition p k n ps b t = plan_defined_as p k n ps (view_declarations b.declarations.items) (views_statements b.statements.items) (Some t)

-- a definition in memory, by its declarator
abbrev pub plan_defining : Place → Option Keyword → Declarator → Block → ℕ → CheckPlan (List Product)
plan_defining p k d b t = plan_definition p k (declared_name d) (parameters_in (function_part d)) b t

-- a whole definition in memory
abbrev pub plan_begun : Specifiers → Declarator → Block → CheckPlan (List Product)
plan_begun ws d b =
    let p = declared_place d (place_of_specifiers ws b.place) in
    chain tt (changes_to started) (λ x. chain int_id (plan_file_base false ws)
    (λ t. chain None (plan_type_of_definition p ws t d) (plan_defined_as p (storage_of ws) (declared_name d)
    (parameters_in (function_part d)) (view_declarations b.declarations.items) (views_statements b.statements.items))))

-- what comes behind these products by a definition in memory
abbrev pub plan_added : List Product → Specifiers → Declarator → Block → CheckPlan (List Product)
plan_added done ws d b = plan_defined done ws d b.place (view_declarations b.declarations.items) (views_statements b.statements.items)

-- ---- the end of the file

abbrev pub plan_end : CheckPlan (Unit {0})
plan_end = node (λ s x. end_sites s s.objects) (λ s x. (s, tt {0})) nothing

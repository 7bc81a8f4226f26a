-- Plans of parts of statements in memory, and of statements of which some parts are done.
use Rattle.std.specs.Prelude.{Bool, List, [], Vec, Option, Some, None}
use Rattle.std.specs.declared.alloc.Global.{Global}
use Rattle.dae_base.specs.declared.Place.{Place}
use Rattle.dae_tree.specs.declared.expressions.Expression.{Expression as TreeInMemory}
use Rattle.dae_tree.specs.declared.statements.Block.{Block}
use Rattle.dae_tree.specs.Trees as tree
use Rattle.dae_tree.specs.Depth.{place_of}
use Rattle.dae_tree.specs.Views.{view as view_tree, views}
use Rattle.dae_tree.specs.FileViews.{view_declarations, views_statements}
use Rattle.dae_program.specs.Trees as program
use Rattle.dae_program.specs.declared.statements.Arm.{Arm as ArmInMemory}
use Rattle.dae_types_kinds.specs.Values.{Typed}
use Rattle.dae_types_rules.specs.Plan.{CheckPlan, pure, both, chain}
use Rattle.dae_types_rules.specs.Sites.{AtCaseOutside, AtSwitchBody}
use Rattle.dae_types_plans.specs.Steps.{asks, count_of, does, integer_at, nothing, scoped}
use Rattle.dae_types_plans.specs.Expressions.{plan_value}
use Rattle.dae_types_file_plans.specs.declared.surroundings.Surrounding.{Surrounding}
use Rattle.dae_types_file_plans.specs.Initialisers.{literal_in}
use Rattle.dae_types_file_plans.specs.Formats.{letters}
use Rattle.dae_types_file_plans.specs.Statements.{Armed, Arming, evaluate, format_at, in_loop, in_switch, listed_all, plan_arms, plan_block, plan_body, plan_condition, plan_declarations, plan_labelled, plan_printed, plan_statement, started, switch_body_at, switch_of, with_statement}
use Rattle.dae_types_bodies.specs.Arms.{armed}

-- ---- expressions

-- the value that a switch selects by
abbrev pub plan_selected : tree.Expression → CheckPlan Typed
plan_selected e = integer_at (place_of e) (plan_value e)

-- an expression whose value isn't used
abbrev pub plan_plain : TreeInMemory → CheckPlan program.Statements
plan_plain e = does (λ s x. (s, evaluate (place_of (view_tree e)) x.tree)) (plan_value (view_tree e))

-- arguments of printf whose conversions want these kinds
abbrev pub plan_arguments_printed : List Bool → List TreeInMemory → CheckPlan (List program.Expression)
plan_arguments_printed kinds es = plan_printed kinds 0 [] (views es)

-- a printf of a format with arguments behind it
abbrev pub plan_format_printed : Place → TreeInMemory → List TreeInMemory → CheckPlan program.Statements
plan_format_printed p e es =
    chain []
    (format_at (place_of (view_tree e)) (literal_in (view_tree e)) (count_of (views es)))
    (λ ps. does (λ s xs. (s, program.Print p (listed_all xs) ps program.Done)) (plan_arguments_printed (letters ps) es))

-- ---- statements behind parts that are done

abbrev pub plan_chosen : Place → program.Expression → Surrounding → tree.Statement → CheckPlan program.Statements
plan_chosen p e c t = does (λ s x. (s, program.If p x.0 x.1 program.Done program.Done)) (both (pure e) (plan_statement c t))

abbrev pub plan_otherwise : Place → program.Expression → program.Statements → Surrounding → tree.Statement → CheckPlan program.Statements
plan_otherwise p e done c t = does (λ s x. (s, program.If p x.0 x.1.0 x.1.1 program.Done)) (both (pure e) (both (pure done) (plan_statement c t)))

abbrev pub plan_while : Place → program.Expression → Surrounding → tree.Statement → CheckPlan program.Statements
plan_while p e c t = does (λ s x. (s, program.Loop p (Some x.0) x.1 None program.Done)) (both (pure e) (plan_statement (in_loop c) t))

abbrev pub plan_do : Place → program.Statements → tree.Expression → CheckPlan program.Statements
plan_do p body e = does (λ s x. (s, program.Do p x.0 x.1 program.Done)) (both (pure body) (plan_condition e))

-- the first place is that of the expression at the start of a for, if there is one
abbrev pub plan_for : Place → Option program.Expression → Place → Option program.Expression → Option program.Expression → Surrounding → tree.Statement → CheckPlan program.Statements
plan_for q start p test step c t =
    does (λ s x. (s, started q x.0 (program.Loop p x.1.0 x.1.1.1 x.1.1.0 program.Done))) (both (pure start) (both (pure test) (both (pure step) (plan_statement (in_loop c) t))))

-- ---- labels, and the bodies of switches

-- a label outside a switch
abbrev pub plan_stray : Place → CheckPlan (Unit {0})
plan_stray p = asks (λ s x. AtCaseOutside p) nothing

-- a statement that is no block as the body of a switch
abbrev pub plan_no_block : Place → CheckPlan (Unit {0})
plan_no_block p = asks (λ s x. AtSwitchBody p) nothing

-- the arms of a vector
abbrev pub view_arms : Vec ArmInMemory Global → List Armed
view_arms arms = armed arms.items

abbrev pub unarmed : Arming
unarmed = record { seen = []; arms = [] }

abbrev pub plan_switch_body : Surrounding → tree.Statement → CheckPlan (List Armed)
plan_switch_body c t = plan_body c t (plan_statement c t)

abbrev pub plan_switch : Place → CheckPlan Typed → Surrounding → tree.Statement → CheckPlan program.Statements
plan_switch p x c t = switch_of p x (plan_switch_body (in_switch c) t)

abbrev pub plan_label : Surrounding → Arming → tree.Statement → CheckPlan Arming
plan_label c a t = plan_labelled c a t (plan_statement c t)

-- a statement of a switch behind its labels
abbrev pub plan_unlabelled : Surrounding → Arming → tree.Statement → CheckPlan Arming
plan_unlabelled c a t = does (λ s x. (s, record a { arms = with_statement x a.arms })) (plan_statement c t)

-- ---- blocks, in scopes of their own

abbrev pub plan_scope : Surrounding → Block → CheckPlan program.Statements
plan_scope c b = scoped (plan_block c (view_declarations b.declarations.items) (views_statements b.statements.items))

-- what stands in the block of a switch, and the block
abbrev pub plan_switch_parts : Surrounding → Block → CheckPlan (List Armed)
plan_switch_parts c b =
    chain tt
    (switch_body_at (view_declarations b.declarations.items))
    (λ x. chain program.Done (plan_declarations program.Done (view_declarations b.declarations.items)) (λ y. plan_arms c unarmed (views_statements b.statements.items)))

abbrev pub plan_switch_block : Surrounding → Block → CheckPlan (List Armed)
plan_switch_block c b = scoped (plan_switch_parts c b)

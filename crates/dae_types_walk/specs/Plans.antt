-- Plans of parts of a tree in memory, and of parts of which some are done.
use Rattle.std.specs.Prelude.{◌≡◌, Box, Vec, ℕ, List, [], Option, Some, None, Bool, false, length}
use Rattle.std.specs.declared.alloc.Global.{Global}
use Rattle.dae_base.specs.declared.Place.{Place}
use Rattle.dae_tree.specs.declared.expressions.Name.{Name}
use Rattle.dae_tree.specs.declared.expressions.Expression.{Expression}
use Rattle.dae_tree.specs.declared.expressions.Expression.TheVariants as code
use Rattle.dae_tree.specs.declared.expressions.TypeName.{TypeName}
use Rattle.dae_tree.specs.declared.expressions.Specifier.{Specifier}
use Rattle.dae_tree.specs.declared.expressions.Member.{Member}
use Rattle.dae_tree.specs.declared.expressions.Enumerator.{Enumerator}
use Rattle.dae_tree.specs.declared.expressions.Parameter.{Parameter}
use Rattle.dae_tree.specs.declared.operators.BinaryOperator.{BinaryOperator}
use Rattle.dae_tree.specs.declared.operators.AssignmentOperator.{AssignmentOperator}
use Rattle.dae_tree.specs.declared.operators.MemberOperator.{MemberOperator}
use Rattle.dae_tree.specs.declared.operators.PostfixOperator.{PostfixOperator}
use Rattle.dae_tree.specs.Depth.{place_of}
use Rattle.dae_tree.specs.Views.{view, views, views_specifiers, views_members, views_enumerators, view_declarator, views_parameters}
use Rattle.dae_program.specs.Trees as program
use Rattle.dae_types_kinds.specs.declared.types.Layout.{Layout}
use Rattle.dae_types_kinds.specs.declared.tables.Context.{Context}
use Rattle.dae_types_kinds.specs.Tables.{Tables, found_name}
use Rattle.dae_types_kinds.specs.Values.{Typed, number}
use Rattle.dae_types_kinds.specs.Types.{int_id, layout, no_parameters_id}
use Rattle.dae_types_rules.specs.Plan.{CheckPlan, pure, both}
use Rattle.dae_types_rules.specs.Sites.{AtCalled}
use Rattle.dae_types_plans.specs.Steps.{access_at, at, assignment_at, base_at, binary_at, call_by, cast_at, conditional_at, enumeration_body, function, postfix_at, routine_in, scoped, structure_body}
use Rattle.dae_types_plans.specs.Expressions.{plan, plan_arguments, plan_enumerators, plan_members, plan_parameters, plan_specifiers, plan_type, plan_value}
use Rattle.dae_types_folding.specs.declared.value.TypedValue.{TypedValue}
use Rattle.dae_types_folding.specs.Views.{view_value}
use Rattle.dae_types_values.specs.Results.{one}

-- ---- kinds of expressions in memory

abbrev pub IsIndex : Expression → Type 0
IsIndex e = (a : Box Expression Global) × (p : Place) × (b : Box Expression Global) × (e ≡ code.Index a p b)

abbrev pub IsCall : Expression → Type 0
IsCall e = (f : Box Expression Global) × (p : Place) × (xs : Vec Expression Global) × (e ≡ code.Call f p xs)

abbrev pub IsBinary : Expression → Type 0
IsBinary e = (a : Box Expression Global) × (p : Place) × (o : BinaryOperator) × (b : Box Expression Global) × (e ≡ code.Binary a p o b)

abbrev pub IsConditional : Expression → Type 0
IsConditional e = (a : Box Expression Global) × (p : Place) × (b : Box Expression Global) × (c : Box Expression Global) × (e ≡ code.Conditional a p b c)

abbrev pub IsAssignment : Expression → Type 0
IsAssignment e = (a : Box Expression Global) × (p : Place) × (o : AssignmentOperator) × (b : Box Expression Global) × (e ≡ code.Assignment a p o b)

abbrev pub IsComma : Expression → Type 0
IsComma e = (a : Box Expression Global) × (b : Box Expression Global) × (e ≡ code.Comma a b)

-- ---- expressions with one operand

abbrev pub plan_member : Expression → MemberOperator → Name → CheckPlan Typed
plan_member a o n = access_at (place_of (view a)) o n (plan (view a))

abbrev pub plan_postfix : Expression → PostfixOperator → CheckPlan Typed
plan_postfix a o = postfix_at (place_of (view a)) o (plan (view a))

-- ---- expressions, behind values that are done

abbrev pub view_pair : TypedValue × TypedValue → Typed × Typed
view_pair x = (view_value x.0, view_value x.1)

-- a value, and then one that is read
abbrev pub plan_behind : TypedValue → Expression → CheckPlan (Typed × Typed)
plan_behind x b = both (one x) (plan_value (view b))

abbrev pub plan_binary : Place → BinaryOperator → TypedValue → Expression → CheckPlan Typed
plan_binary p o x b = binary_at p (place_of (view b)) o (plan_behind x b)

abbrev pub plan_assignment : Place → AssignmentOperator → TypedValue → Expression → CheckPlan Typed
plan_assignment p o x b = assignment_at p o (plan_behind x b)

abbrev pub plan_conditional : Place → TypedValue → TypedValue → Expression → CheckPlan Typed
plan_conditional p x y b = conditional_at p (both (one x) (plan_behind y b))

abbrev pub plan_cast : Place → ℕ → Expression → CheckPlan Typed
plan_cast p t a = cast_at p (both (pure t) (plan_value (view a)))

-- ---- calls (C90 6.3.2.2)

-- the function that a name stands for, if there is one, with the name
abbrev pub beside_name : Name → Option ℕ → Option (Name × ℕ)
beside_name n None = None
beside_name n (Some f) = Some (n, f)

abbrev pub function_named : Tables → Option Name → Option (Name × ℕ)
function_named s None = None
function_named s (Some n) = beside_name n (routine_in (found_name s n.number))

-- the arguments of a function, or of what is none
abbrev pub plan_all : Option ℕ → List Expression → CheckPlan (List program.Expression)
plan_all f es = plan_arguments f 0 [] (views es)

-- a call of a function, whose name is no value
abbrev pub plan_call : Place → Name → ℕ → List Expression → CheckPlan Typed
plan_call p n f es = call_by p p n (length es) (Some f) (pure (number 0 int_id)) (plan_all (Some f) es)

-- a call of what is no function
abbrev pub plan_no_call : Place → CheckPlan Typed → List Expression → CheckPlan Typed
plan_no_call p m es = at (λ s x. AtCalled p) (λ s x. (s, number 0 int_id)) (both m (plan_all None es))

-- ---- types (C90 6.5)

-- a type name behind a token at this place
abbrev pub plan_type_name : TypeName → Place → CheckPlan ℕ
plan_type_name t p = plan_type (views_specifiers t.specifiers.items) (view_declarator t.declarator) p

-- the type that stands alone among specifiers, and the type that specifiers name
abbrev pub plan_alone : Context → Bool → List Specifier → CheckPlan (Option ℕ)
plan_alone c alone ws = plan_specifiers c alone None (views_specifiers ws)

abbrev pub plan_base : Context → List Specifier → CheckPlan ℕ
plan_base c ws = base_at (views_specifiers ws) (plan_alone c false ws)

abbrev pub plan_layout : ℕ → List Member → CheckPlan Layout
plan_layout k ms = plan_members k (layout 0 1) (views_members ms)

abbrev pub plan_structure : Place → Option Name → List Member → CheckPlan (Option ℕ)
plan_structure p n ms = structure_body p n (λ k. plan_layout k ms)

abbrev pub plan_enumeration : Option Name → List Enumerator → CheckPlan (Option ℕ)
plan_enumeration n es = enumeration_body n (plan_enumerators 0 (views_enumerators es))

abbrev pub plan_types : Place → List Parameter → CheckPlan ℕ
plan_types q ps = plan_parameters q no_parameters_id (views_parameters ps)

abbrev pub plan_function : Place → ℕ → Place → List Parameter → CheckPlan ℕ
plan_function p t q ps = function p t (scoped (plan_types q ps))

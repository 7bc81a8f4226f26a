-- Laws for the crates above: typed expressions, statements and arms in memory, whose parts are lists, as plain data.
use Rattle.std.proofs.Common.{◌≡◌, ℕ, ◌+◌, ◌<◌, ◌≤◌, suc, List, [], ◌∷◌, length, drop, get_or, refl, ap, sym, subst, ◌∙◌, Option, arith}
use Rattle.std.proofs.lemmas.List.{drop_all}
use Rattle.std.specs.Prelude.{Box, Vec}
use Rattle.std.specs.declared.alloc.Global.{Global}
use denote.Param.Weighed.{most}
use mathlib.Core.Former.{Count}
use Rattle.dae_base.proofs.Laws.{drop_at}
use Rattle.dae_base.specs.declared.Place.{Place}
use Rattle.dae_program.proofs.statements.Statement.TheLaws.{the_size}
use Rattle.dae_program.specs.declared.expressions.Expression.TheVariants as expression
use Rattle.dae_program.specs.declared.expressions.Expression.{Expression}
use Rattle.dae_program.specs.declared.expressions.Expression.TheBlock.{Row_of-Expression, end_of-Expression, more_of-Expression, items-the_row-Expression, items_hidden-the_row-Expression-0}
use Rattle.dae_program.specs.declared.statements.Arm.{Arm}
use Rattle.dae_program.specs.declared.statements.Statement.{Statement, the_lemmas}
use Rattle.dae_program.specs.declared.statements.Statement.TheVariants as statement
use Rattle.dae_program.specs.declared.statements.Statement.TheBlock.{Row_of-Statement, end_of-Statement, more_of-Statement, items-the_row-Statement, items_hidden-the_row-Statement-0, items_shown-the_row-Statement-0, shown-the_row-Statement-0, Row_of-Arm, end_of-Arm, more_of-Arm, items-the_row-Arm, items_hidden-the_row-Arm-1}
use Rattle.dae_program.specs.Lawful.{count}
use Rattle.dae_program.specs.Switches.{count_arms}
use Rattle.dae_program.specs.Trees as tree
use Rattle.dae_program.specs.Views.{row_then, statement_then, arms_of, view, view_row, view_arms, view_expressions, view_some, view_statements}

-- ---- calls

argument_rows : (n : _) (r : Row_of-Expression n) → view_row r ≡ view_expressions (items-the_row-Expression n r)
argument_rows n end_of-Expression = refl
argument_rows n (more_of-Expression e rest) = ap (tree.expression_then (view e)) (argument_rows _ rest)

abbrev arguments_of : Expression → (n : Count) × Row_of-Expression n
arguments_of (expression.Call' p f shape row) = (_, row)
arguments_of _ = (_, end_of-Expression)

pub view_call : (p : Place) (f : ℕ) (xs : Vec Expression Global)
    → view (expression.Call p f xs) ≡ tree.Call p f (view_expressions xs.items)
view_call p f xs =
    let x = arguments_of (expression.Call p f xs) in
    ap (tree.Call p f) (argument_rows x.0 x.1 ∙ ap view_expressions (items_hidden-the_row-Expression-0 xs))

-- what is said of a call's tree is said of the call
pub by_call : (P : tree.Expression → Type 0) (e : Expression) (p : Place) (f : ℕ) (xs : Vec Expression Global)
    → e ≡ expression.Call p f xs → P (tree.Call p f (view_expressions xs.items)) → P (view e)
by_call P e p f xs is h = subst P (sym (ap view is ∙ view_call p f xs)) h

pub view_at : (xs : List Expression) (i : ℕ) (x : Expression)
    → i < length xs → x ≡ get_or xs i x → view_expressions (drop i xs) ≡ tree.expression_then (view x) (view_expressions (drop (i + 1) xs))
view_at xs i x lt is = ap view_expressions (drop_at xs i x lt is)

pub view_end : (xs : List Expression) (i : ℕ)
    → length xs ≤ i → view_expressions (drop i xs) ≡ tree.no_expressions
view_end xs i le = ap view_expressions (drop_all i xs le)

-- ---- statements

rows : (n : _) (r : Row_of-Statement n) → row_then r tree.Done ≡ view_statements (items-the_row-Statement n r)
rows n end_of-Statement = refl
rows n (more_of-Statement s rest) = ap (statement_then s) (rows _ rest)

-- the first list of a statement and the second
abbrev first : Statement → (n : Count) × Row_of-Statement n
first (statement.If' p e b s c t) = (_, s)
first (statement.Loop' p test b body step) = (_, body)
first (statement.Do' p b body test) = (_, body)
first _ = (_, end_of-Statement)

abbrev second : Statement → (n : Count) × Row_of-Statement n
second (statement.If' p e b s c t) = (_, t)
second _ = (_, end_of-Statement)

pub view_if : (p : Place) (e : Box Expression Global) (s t : Vec Statement Global) (k : tree.Statements)
    → statement_then (statement.If p e s t) k ≡ tree.If p (view e.value) (view_statements s.items) (view_statements t.items) k
view_if p e s t k =
    let x = first (statement.If p e s t) in
    let y = second (statement.If p e s t) in
    ap (λ u. tree.If p (view e.value) u (row_then y.1 tree.Done) k) (rows x.0 x.1 ∙ ap view_statements (items_hidden-the_row-Statement-0 s))
    ∙ ap (λ u. tree.If p (view e.value) (view_statements s.items) u k) (rows y.0 y.1 ∙ ap view_statements (items_hidden-the_row-Statement-0 t))

pub view_loop : (p : Place) (test : Option (Box Expression Global)) (s : Vec Statement Global) (step : Option (Box Expression Global)) (k : tree.Statements)
    → statement_then (statement.Loop p test s step) k ≡ tree.Loop p (view_some test) (view_statements s.items) (view_some step) k
view_loop p test s step k =
    let x = first (statement.Loop p test s step) in
    ap (λ u. tree.Loop p (view_some test) u (view_some step) k) (rows x.0 x.1 ∙ ap view_statements (items_hidden-the_row-Statement-0 s))

pub view_do : (p : Place) (s : Vec Statement Global) (test : Box Expression Global) (k : tree.Statements)
    → statement_then (statement.Do p s test) k ≡ tree.Do p (view_statements s.items) (view test.value) k
view_do p s test k =
    let x = first (statement.Do p s test) in
    ap (λ u. tree.Do p u (view test.value) k) (rows x.0 x.1 ∙ ap view_statements (items_hidden-the_row-Statement-0 s))

abbrev third : Statement → (n : Count) × Row_of-Arm n
third (statement.Switch' p e b arms) = (_, arms)
third _ = (_, end_of-Arm)

arm_rows : (n : _) (r : Row_of-Arm n) → view_arms r ≡ arms_of (items-the_row-Arm n r)
arm_rows n end_of-Arm = refl
arm_rows n (more_of-Arm labels b statements rest) =
    ap (λ u. tree.arm_then labels.items u (view_arms rest)) (rows _ statements ∙ ap view_statements (sym (items_shown-the_row-Statement-0 b statements)))
    ∙ ap (λ u. tree.arm_then labels.items (view_statements (shown-the_row-Statement-0 b statements).items) u) (arm_rows _ rest)

pub view_switch : (p : Place) (e : Box Expression Global) (arms : Vec Arm Global) (k : tree.Statements)
    → statement_then (statement.Switch p e arms) k ≡ tree.Switch p (view e.value) (arms_of arms.items) k
view_switch p e arms k =
    let x = third (statement.Switch p e arms) in
    ap (λ u. tree.Switch p (view e.value) u k) (arm_rows x.0 x.1 ∙ ap arms_of (items_hidden-the_row-Arm-1 arms))

-- ---- how deep a list is

-- the statements of a second branch are less deep than the statement
pub no_below : (p : Place) (e : Box Expression Global) (holds fails : Vec Statement Global) (xs : List Statement) (s : Statement) → s ≡ statement.If p e holds fails → xs ≡ fails.items → most (λ (x : Statement). the_size x) xs < the_size s
no_below p e holds fails xs s is same = grind (arith, the_lemmas)

-- ---- from a place on

pub statements_at : (xs : List Statement) (i : ℕ) (x : Statement)
    → i < length xs → x ≡ get_or xs i x → view_statements (drop i xs) ≡ statement_then x (view_statements (drop (i + 1) xs))
statements_at xs i x lt is = ap view_statements (drop_at xs i x lt is)

pub statements_end : (xs : List Statement) (i : ℕ) → length xs ≤ i → view_statements (drop i xs) ≡ tree.Done
statements_end xs i le = ap view_statements (drop_all i xs le)

pub arms_at : (xs : List Arm) (i : ℕ) (x : Arm)
    → i < length xs → x ≡ get_or xs i x → arms_of (drop i xs) ≡ tree.arm_then x.labels.items (view_statements x.statements.items) (arms_of (drop (i + 1) xs))
arms_at xs i x lt is = ap arms_of (drop_at xs i x lt is)

pub arms_end : (xs : List Arm) (i : ℕ) → length xs ≤ i → arms_of (drop i xs) ≡ tree.no_arms
arms_end xs i le = ap arms_of (drop_all i xs le)

-- ---- how many there are

pub count_expressions : (xs : List Expression) → count (view_expressions xs) ≡ length xs
count_expressions [] = refl
count_expressions (e ∷ es) = ap suc (count_expressions es)

pub arms_counted : (arms : List Arm) → count_arms (arms_of arms) ≡ length arms
arms_counted [] = refl
arms_counted (arm ∷ arms) = ap suc (arms_counted arms)

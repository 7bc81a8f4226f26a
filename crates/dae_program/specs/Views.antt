-- Expressions and statements in memory as plain data.
use Rattle.std.specs.Prelude.{Bool, true, false, List, [], ◌∷◌, Option, Some, None, Box}
use Rattle.std.specs.declared.alloc.Global.{Global}
use Rattle.dae_program.specs.declared.expressions.Expression.TheVariants as expression
use Rattle.dae_program.specs.declared.expressions.Expression.{Expression}
use Rattle.dae_program.specs.declared.expressions.Fixity.{Fixity}
use Rattle.dae_program.specs.declared.expressions.Fixity.TheVariants.{Prefix, Postfix}
use Rattle.dae_program.specs.declared.expressions.Target.TheVariants as target
use Rattle.dae_program.specs.declared.expressions.Target.{Target}
use Rattle.dae_program.specs.declared.expressions.Expression.TheBlock.{Row_of-Expression, end_of-Expression, more_of-Expression}
use Rattle.dae_program.specs.declared.statements.Arm.{Arm}
use Rattle.dae_program.specs.declared.statements.Setting.{Setting}
use Rattle.dae_program.specs.declared.statements.Statement.TheVariants as statement
use Rattle.dae_program.specs.declared.statements.Statement.{Statement}
use Rattle.dae_program.specs.declared.statements.Statement.TheBlock.{Row_of-Statement, end_of-Statement, more_of-Statement, Row_of-Arm, end_of-Arm, more_of-Arm}
use Rattle.dae_program.specs.Trees as tree

-- ---- expressions

-- whether the new value is given
abbrev pub is_prefix : Fixity → Bool
is_prefix Prefix = true
is_prefix Postfix = false

abbrev mutual
  pub view : Expression → tree.Expression
  view (expression.Number k) = tree.Number k
  view (expression.Address object offset) = tree.Address object offset
  view (expression.Frame p offset) = tree.Frame p offset
  view (expression.Variable p v) = tree.Variable p v
  view (expression.Read' p kind checked b a) = tree.Read p kind checked (view a)
  view (expression.Convert' p kind b a) = tree.Convert p kind (view a)
  view (expression.Not' p b a) = tree.Not p (view a)
  view (expression.Binary' p operator b a c d) = tree.Binary p operator (view a) (view d)
  view (expression.Compare' p comparison turned b a c d) = tree.Compare p comparison turned (view a) (view d)
  view (expression.And' p b a c d) = tree.And p (view a) (view d)
  view (expression.Or' p b a c d) = tree.Or p (view a) (view d)
  view (expression.Conditional' p b a c d e f) = tree.Conditional p (view a) (view d) (view f)
  view (expression.Comma' b a c d) = tree.Comma (view a) (view d)
  view (expression.Assign' p kind t b a) = tree.Assign p kind (view_target t) (view a)
  view (expression.Update' p kind t operator b a) = tree.Update p kind (view_target t) operator (view a)
  view (expression.Step p kind t change fixity) = tree.Step p kind (view_target t) change (is_prefix fixity)
  view (expression.Call' p f shape row) = tree.Call p f (view_row row)
  view (expression.Putchar' p b a) = tree.Putchar p (view a)
  view (expression.Exit' p b a) = tree.Exit p (view a)
  view (expression.Abort p) = tree.Abort p

  pub view_target : Target → tree.Target
  view_target (target.Variable v) = tree.InVariable v
  view_target (target.Object' checked b a) = tree.AtAddress checked (view a)

  pub view_row : {m : _} → Row_of-Expression m → tree.Expressions
  view_row end_of-Expression = tree.no_expressions
  view_row (more_of-Expression e rest) = tree.expression_then (view e) (view_row rest)

abbrev pub view_expressions : List Expression → tree.Expressions
view_expressions [] = tree.no_expressions
view_expressions (e ∷ es) = tree.expression_then (view e) (view_expressions es)

abbrev pub view_some : Option (Box Expression Global) → Option tree.Expression
view_some None = None
view_some (Some e) = Some (view e.value)

-- ---- statements

abbrev pub view_settings : List Setting → List tree.Setting
view_settings [] = []
view_settings (item ∷ items) = record { offset = item.offset; width = item.width; value = view item.value } ∷ view_settings items

-- a statement, or a row of them, and then k
abbrev mutual
  pub statement_then : Statement → tree.Statements → tree.Statements
  statement_then (statement.Evaluate p e) k = tree.Evaluate p (view e.value) k
  statement_then (statement.Initialise p offset size items) k = tree.Initialise p offset size (view_settings items.items) k
  statement_then (statement.Print p xs pieces) k = tree.Print p (view_expressions xs.items) pieces.items k
  statement_then (statement.If' p e b s c t) k = tree.If p (view e.value) (row_then s tree.Done) (row_then t tree.Done) k
  statement_then (statement.Loop' p test b body step) k = tree.Loop p (view_some test) (row_then body tree.Done) (view_some step) k
  statement_then (statement.Do' p b body test) k = tree.Do p (row_then body tree.Done) (view test.value) k
  statement_then (statement.Switch' p e b arms) k = tree.Switch p (view e.value) (view_arms arms) k
  statement_then (statement.Break p) k = tree.Break p k
  statement_then (statement.Continue p) k = tree.Continue p k
  statement_then (statement.Return p e) k = tree.Return p (view_some e) k

  pub row_then : {m : _} → Row_of-Statement m → tree.Statements → tree.Statements
  row_then end_of-Statement k = k
  row_then (more_of-Statement s rest) k = statement_then s (row_then rest k)

  pub view_arms : {m : _} → Row_of-Arm m → tree.Arms
  view_arms end_of-Arm = tree.no_arms
  view_arms (more_of-Arm labels b statements rest) = tree.arm_then labels.items (row_then statements tree.Done) (view_arms rest)

abbrev pub view_statements : List Statement → tree.Statements
view_statements [] = tree.Done
view_statements (s ∷ ss) = statement_then s (view_statements ss)

abbrev pub arms_of : List Arm → tree.Arms
arms_of [] = tree.no_arms
arms_of (arm ∷ arms) = tree.arm_then arm.labels.items (view_statements arm.statements.items) (arms_of arms)

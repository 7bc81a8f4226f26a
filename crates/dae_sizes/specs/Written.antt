-- How many nodes of an expression are surely evaluated where it is evaluated: as it is written, and as it is typed. What may be
-- left out, the right operand of `&&` and `||` and the branches of `?:` (C90 6.3.13 to 6.3.15), is an expression for itself.
use Rattle.std.specs.Prelude.{◌≡◌, ℕ, ◌+◌, ◌*◌, ◌≤◌, Ok}
use Rattle.dae_tree.specs.declared.operators.BinaryOperator.{BinaryOperator}
use Rattle.dae_tree.specs.declared.operators.BinaryOperator.TheVariants as binary
use Rattle.dae_tree.specs.Trees as tree
use Rattle.dae_program.specs.Trees as program
use Rattle.dae_types_kinds.specs.Tables.{Tables}
use Rattle.dae_types_kinds.specs.Values.{Typed}
use Rattle.dae_types_rules.specs.Plan.{check_of}
use Rattle.dae_types_plans.specs.Expressions.{plan_value}

-- ---- as it is written. Parentheses, names of functions and types, and what stands in a size count nothing

-- of the operands of `&&` and `||` the first alone
abbrev pub evaluated_of : BinaryOperator → (first second : ℕ) → ℕ
evaluated_of binary.AndAnd first second = first
evaluated_of binary.OrOr first second = first
evaluated_of o first second = first + second

abbrev mutual
  pub nodes : tree.Expression → ℕ
  nodes (tree.Identifier n) = 1
  nodes (tree.Number p c) = 1
  nodes (tree.Literal p n) = 1
  nodes (tree.Parenthesised p a) = nodes a
  nodes (tree.Index a p b) = 1 + (nodes a + nodes b)
  nodes (tree.Call f p xs) = 1 + nodes_of_all xs
  nodes (tree.Member a p o n) = 1 + nodes a
  nodes (tree.Postfix a p o) = 1 + nodes a
  nodes (tree.Prefix p o a) = 1 + nodes a
  nodes (tree.SizeofExpression p a) = 1
  nodes (tree.SizeofType p q ws d) = 1
  nodes (tree.Cast p ws d a) = 1 + nodes a
  nodes (tree.Binary a p o b) = 1 + evaluated_of o (nodes a) (nodes b)
  nodes (tree.Conditional a p b c) = 1 + nodes a
  nodes (tree.Assignment a p o b) = 1 + (nodes a + nodes b)
  nodes (tree.Comma a b) = 1 + (nodes a + nodes b)

  pub nodes_of_all : tree.Expressions → ℕ
  nodes_of_all tree.no_expressions = 0
  nodes_of_all (tree.expression_then a xs) = nodes a + nodes_of_all xs

-- ---- as it is typed: each counts one unit of work (`evaluate` of dae_program)

abbrev mutual
  pub ticks : program.Expression → ℕ
  ticks (program.Number k) = 1
  ticks (program.Address object offset) = 1
  ticks (program.Frame p offset) = 1
  ticks (program.Variable p v) = 1
  ticks (program.Read p kind checked a) = 1 + ticks a
  ticks (program.Convert p kind a) = 1 + ticks a
  ticks (program.Not p a) = 1 + ticks a
  ticks (program.Binary p operator a b) = 1 + (ticks a + ticks b)
  ticks (program.Compare p comparison turned a b) = 1 + (ticks a + ticks b)
  ticks (program.And p a b) = 1 + ticks a
  ticks (program.Or p a b) = 1 + ticks a
  ticks (program.Conditional p a b c) = 1 + ticks a
  ticks (program.Comma a b) = 1 + (ticks a + ticks b)
  ticks (program.Assign p kind t a) = 1 + (ticks_of_target t + ticks a)
  ticks (program.Update p kind t operator a) = 1 + (ticks_of_target t + ticks a)
  ticks (program.Step p kind t change new) = 1 + ticks_of_target t
  ticks (program.Call p f xs) = 1 + ticks_of_all xs
  ticks (program.Putchar p a) = 1 + ticks a
  ticks (program.Exit p a) = 1 + ticks a
  ticks (program.Abort p) = 1

  pub ticks_of_target : program.Target → ℕ
  ticks_of_target (program.InVariable v) = 0
  ticks_of_target (program.AtAddress checked a) = ticks a

  pub ticks_of_all : program.Expressions → ℕ
  ticks_of_all program.no_expressions = 0
  ticks_of_all (program.expression_then a xs) = ticks a + ticks_of_all xs

-- ---- the law: for each written node at most three typed ones, and one fewer, whatever was declared before

abbrev pub TypedAreFew : Type 0
TypedAreFew =
    (e : tree.Expression) (s t : Tables) (x : Typed) → check_of (plan_value e) s ≡ Ok (t, x) →
    1 + ticks x.tree ≤ 3 * nodes e

-- How large the form of a function is: at most so many variables are made for each node of its tree, and at most 10 items. A
-- source has at most so many tokens, and a token makes few nodes: so these bound the code of a function and its frames.
use Rattle.std.specs.Prelude.{◌≡◌, ℕ, ◌+◌, ◌*◌, ◌≤◌, List, [], ◌∷◌, length, slice_get, Option, Some, None}
use Rattle.dae_base.specs.declared.Place.{Place}
use Rattle.dae_ir.specs.Form.{form_of}
use Rattle.dae_ir.specs.Sizes.{form_size}
use Rattle.dae_ir.specs.declared.form.Function.{Function as FormFunction}
use Rattle.dae_ir.specs.declared.form.Ir.{Ir}
use Rattle.dae_program.specs.declared.program.Function.{Function}
use Rattle.dae_program.specs.declared.program.Program.{Program}
use Rattle.dae_program.specs.declared.program.FrameSlot.{FrameSlot}
use Rattle.dae_program.specs.declared.statements.FormatPiece.{FormatPiece}
use Rattle.dae_program.specs.declared.statements.FormatPiece.TheVariants as piece
use Rattle.dae_program.specs.Trees as tree
use Rattle.dae_program.specs.Trees.{Expression, Target, Expressions, Setting, Statements, Arms, Number, Address, Frame, Variable, Read, Convert, Not, Binary, Compare, And, Or, Conditional, Comma, Assign, Update, Step, Call, Putchar, Exit, Abort, InVariable, AtAddress, no_expressions, expression_then, Done, Evaluate, Initialise, Print, If, Loop, Do, Switch, Break, Continue, Return, no_arms, arm_then}
use Rattle.dae_lower_formed.specs.Code.{loads_in}
use Rattle.dae_lower_formed.specs.Formed.{form_variables, plain, IsFormOf}

-- ---- the nodes of a tree: each expression, argument, statement, item, piece, arm and label is one, but an initialised aggregate
-- is two, since several of its bytes are cleared in a turn

abbrev mutual
  pub nodes : Expression → ℕ
  nodes (Number k) = 1
  nodes (Address object offset) = 1
  nodes (Frame p offset) = 1
  nodes (Variable p v) = 1
  nodes (Read p kind checked a) = 1 + nodes a
  nodes (Convert p kind a) = 1 + nodes a
  nodes (Not p a) = 1 + nodes a
  nodes (Binary p operator a b) = 1 + (nodes a + nodes b)
  nodes (Compare p comparison turned a b) = 1 + (nodes a + nodes b)
  nodes (And p a b) = 1 + (nodes a + nodes b)
  nodes (Or p a b) = 1 + (nodes a + nodes b)
  nodes (Conditional p a b c) = 1 + (nodes a + (nodes b + nodes c))
  nodes (Comma a b) = 1 + (nodes a + nodes b)
  nodes (Assign p kind t a) = 1 + (nodes_of_target t + nodes a)
  nodes (Update p kind t operator a) = 1 + (nodes_of_target t + nodes a)
  nodes (Step p kind t change new) = 1 + nodes_of_target t
  nodes (Call p f xs) = 1 + nodes_of_all xs
  nodes (Putchar p a) = 1 + nodes a
  nodes (Exit p a) = 1 + nodes a
  nodes (Abort p) = 1

  pub nodes_of_target : Target → ℕ
  nodes_of_target (InVariable v) = 0
  nodes_of_target (AtAddress checked a) = nodes a

  pub nodes_of_all : Expressions → ℕ
  nodes_of_all no_expressions = 0
  nodes_of_all (expression_then a xs) = 1 + (nodes a + nodes_of_all xs)

abbrev pub nodes_of_some : Option Expression → ℕ
nodes_of_some None = 0
nodes_of_some (Some e) = nodes e

abbrev pub nodes_of_items : List Setting → ℕ
nodes_of_items [] = 0
nodes_of_items (item ∷ items) = 1 + (nodes item.value + nodes_of_items items)

abbrev mutual
  pub nodes_of_statements : Statements → ℕ
  nodes_of_statements Done = 0
  nodes_of_statements (Evaluate p e k) = 1 + (nodes e + nodes_of_statements k)
  nodes_of_statements (Initialise p offset size items k) = 2 + (nodes_of_items items + nodes_of_statements k)
  nodes_of_statements (Print p xs pieces k) = 1 + (nodes_of_all xs + (length pieces + nodes_of_statements k))
  nodes_of_statements (If p e t u k) = 1 + (nodes e + (nodes_of_statements t + (nodes_of_statements u + nodes_of_statements k)))
  nodes_of_statements (Loop p test body step k) =
      1 + (nodes_of_some test + (nodes_of_statements body + (nodes_of_some step + nodes_of_statements k)))
  nodes_of_statements (Do p body test k) = 1 + (nodes_of_statements body + (nodes test + nodes_of_statements k))
  nodes_of_statements (Switch p e arms k) = 1 + (nodes e + (nodes_of_arms arms + nodes_of_statements k))
  nodes_of_statements (Break p k) = 1 + nodes_of_statements k
  nodes_of_statements (Continue p k) = 1 + nodes_of_statements k
  nodes_of_statements (Return p e k) = 1 + (nodes_of_some e + nodes_of_statements k)

  pub nodes_of_arms : Arms → ℕ
  nodes_of_arms no_arms = 0
  nodes_of_arms (arm_then labels t rest) = 1 + (length labels + (nodes_of_statements t + nodes_of_arms rest))

-- the function itself, its parameters, and its statements
abbrev pub nodes_of_function : tree.Function → ℕ
nodes_of_function f = 1 + (length f.parameters + nodes_of_statements f.body)

-- ---- the variables that are made for each node, at most

abbrev mutual
  pub most_made : Expression → ℕ
  most_made (Number k) = 0
  most_made (Address object offset) = 0
  most_made (Frame p offset) = 1
  most_made (Variable p v) = 1
  most_made (Read p kind checked a) = 1 + most_made a
  most_made (Convert p kind a) = 1 + most_made a
  most_made (Not p a) = 1 + most_made a
  most_made (Binary p operator a b) = 1 + (most_made a + most_made b)
  most_made (Compare p comparison turned a b) = 1 + (most_made a + most_made b)
  most_made (And p a b) = 1 + (most_made a + most_made b)
  most_made (Or p a b) = 1 + (most_made a + most_made b)
  most_made (Conditional p a b c) = 1 + (most_made a + (most_made b + most_made c))
  most_made (Comma a b) = most_made a + most_made b
  most_made (Assign p kind t a) = most_made_for t + most_made a
  most_made (Update p kind t operator a) = 3 + (most_made_for t + most_made a)
  most_made (Step p kind t change new) = 3 + most_made_for t
  most_made (Call p f xs) = 1 + most_made_of_all xs
  most_made (Putchar p a) = 1 + most_made a
  most_made (Exit p a) = most_made a
  most_made (Abort p) = 0

  pub most_made_for : Target → ℕ
  most_made_for (InVariable v) = 0
  most_made_for (AtAddress checked a) = most_made a

  pub most_made_of_all : Expressions → ℕ
  most_made_of_all no_expressions = 0
  most_made_of_all (expression_then a xs) = most_made a + most_made_of_all xs

abbrev pub most_made_of_some : Option Expression → ℕ
most_made_of_some None = 0
most_made_of_some (Some e) = most_made e

abbrev pub most_made_of_items : List Setting → ℕ
most_made_of_items [] = 0
most_made_of_items (item ∷ items) = most_made item.value + most_made_of_items items

-- 2 for each `%s`
abbrev pub most_made_of_pieces : List FormatPiece → ℕ
most_made_of_pieces [] = 0
most_made_of_pieces (piece.Byte b ∷ ps) = most_made_of_pieces ps
most_made_of_pieces (piece.Word spelling k ∷ ps) = most_made_of_pieces ps
most_made_of_pieces (piece.String k ∷ ps) = 2 + most_made_of_pieces ps

abbrev mutual
  pub most_made_in : Statements → ℕ
  most_made_in Done = 0
  most_made_in (Evaluate p e k) = most_made e + most_made_in k
  most_made_in (Initialise p offset size items k) = 2 + (most_made_of_items items + most_made_in k)
  most_made_in (Print p xs pieces k) = most_made_of_all xs + (most_made_of_pieces pieces + most_made_in k)
  most_made_in (If p e t u k) = most_made e + (most_made_in t + (most_made_in u + most_made_in k))
  most_made_in (Loop p test body step k) =
      3 + (most_made_of_some test + (most_made_in body + (most_made_of_some step + most_made_in k)))
  most_made_in (Do p body test k) = 3 + (most_made_in body + (most_made test + most_made_in k))
  most_made_in (Switch p e arms k) = 2 + (most_made e + (most_made_in_arms arms + most_made_in k))
  most_made_in (Break p k) = most_made_in k
  most_made_in (Continue p k) = most_made_in k
  most_made_in (Return p e k) = most_made_of_some e + most_made_in k

  pub most_made_in_arms : Arms → ℕ
  most_made_in_arms no_arms = 0
  most_made_in_arms (arm_then labels t rest) = most_made_in t + most_made_in_arms rest

-- one for each parameter that is stored
abbrev pub most_made_of_slots : List (Option FrameSlot) → ℕ
most_made_of_slots [] = 0
most_made_of_slots (None ∷ slots) = most_made_of_slots slots
most_made_of_slots (Some slot ∷ slots) = 1 + most_made_of_slots slots

abbrev pub most_made_in_function : tree.Function → ℕ
most_made_in_function f = most_made_of_slots f.parameters + most_made_in f.body

-- ---- the law

-- the variables of a function are its own and those that are made; a node makes at most 3, and at most 10 items of code, where a
-- call weighs one more for each argument. Each load goes into a variable that is made
pub record IsSmall (f : tree.Function) (own : ℕ) (g : FormFunction) : Type 0 where
  pub variables : g.variables ≤ own + most_made_in_function f
  pub made : most_made_in_function f ≤ 3 * nodes_of_function f
  pub code : form_size (form_of g.body) ≤ 10 * nodes_of_function f
  pub loads : own + loads_in (form_of g.body) ≤ g.variables

-- the form of a function has its own variables and at most so many more
abbrev pub VariablesWithin : Type 0
VariablesWithin = (p : Place) (f : tree.Function) (n : ℕ) → form_variables p f n ≤ n + most_made_in_function f

abbrev pub FormsSmall : Type 0
FormsSmall =
    (p : Program) (ir : Ir) → IsFormOf p ir → (k : ℕ) (f : Function) (g : FormFunction) → slice_get p.functions k ≡ Some f →
    slice_get ir.functions k ≡ Some g → IsSmall (plain p f) f.variables g

-- How large the form of a function is, by its tree: what its code weighs at most, with each load once more.
use Rattle.std.specs.Prelude.{ℕ, ◌+◌, ◌*◌, ◌≤◌, Bool, true, false, List, [], ◌∷◌, length, Option, Some, None}
use Rattle.dae_base.specs.declared.Place.{Place}
use Rattle.dae_ir.specs.Form.{Form}
use Rattle.dae_ir.specs.Sizes.{bit, is_load_into, tally}
use Rattle.dae_ir_pair.specs.Sizes.{burden}
use Rattle.dae_program.specs.declared.program.FrameSlot.{FrameSlot}
use Rattle.dae_program.specs.declared.statements.FormatPiece.{FormatPiece}
use Rattle.dae_program.specs.declared.statements.FormatPiece.TheVariants as piece
use Rattle.dae_program.specs.Trees as tree
use Rattle.dae_program.specs.Trees.{Expression, Target, Expressions, Setting, Statements, Arms, Number, Address, Frame, Variable, Read, Convert, Not, Binary, Compare, And, Or, Conditional, Comma, Assign, Update, Step, Call, Putchar, Exit, Abort, InVariable, AtAddress, no_expressions, expression_then, Done, Evaluate, Initialise, Print, If, Loop, Do, Switch, Break, Continue, Return, no_arms, arm_then}
use Rattle.dae_lower.specs.Lowering.{function_code}

-- ---- forms

abbrev pub loads_in : Form → ℕ
loads_in code = tally (λ item. bit (is_load_into (λ v. true) item)) (λ t. 0) code

abbrev pub loaded_burden : Form → ℕ
loaded_burden code = burden code + loads_in code

-- ---- trees

-- a check beside a load
abbrev pub with_check : Bool → ℕ
with_check true = 2
with_check false = 0

abbrev mutual
  pub most_code : Expression → ℕ
  most_code (Number k) = 0
  most_code (Address object offset) = 0
  most_code (Frame p offset) = 2
  most_code (Variable p v) = 2
  most_code (Read p kind checked a) = 3 + (with_check checked + most_code a)
  most_code (Convert p kind a) = 2 + most_code a
  most_code (Not p a) = 2 + most_code a
  most_code (Binary p operator a b) = 4 + (most_code a + most_code b)
  most_code (Compare p comparison turned a b) = 2 + (most_code a + most_code b)
  most_code (And p a b) = 10 + (most_code a + most_code b)
  most_code (Or p a b) = 10 + (most_code a + most_code b)
  most_code (Conditional p a b c) = 6 + (most_code a + (most_code b + most_code c))
  most_code (Comma a b) = most_code a + most_code b
  most_code (Assign p kind t a) = 4 + (most_code_for t + most_code a)
  most_code (Update p kind t operator a) = 15 + (most_code_for t + most_code a)
  most_code (Step p kind t change new) = 13 + most_code_for t
  most_code (Call p f xs) = 7 + most_code_of_all xs
  most_code (Putchar p a) = 4 + most_code a
  most_code (Exit p a) = 2 + most_code a
  most_code (Abort p) = 2

  pub most_code_for : Target → ℕ
  most_code_for (InVariable v) = 0
  most_code_for (AtAddress checked a) = most_code a

  pub most_code_of_all : Expressions → ℕ
  most_code_of_all no_expressions = 0
  most_code_of_all (expression_then a xs) = 2 + (most_code a + most_code_of_all xs)

abbrev pub most_code_of_some : Option Expression → ℕ
most_code_of_some None = 0
most_code_of_some (Some e) = most_code e

abbrev pub most_code_of_items : List Setting → ℕ
most_code_of_items [] = 0
most_code_of_items (item ∷ items) = 4 + (most_code item.value + most_code_of_items items)

abbrev pub most_code_of_pieces : List FormatPiece → ℕ
most_code_of_pieces [] = 0
most_code_of_pieces (piece.Byte b ∷ ps) = 2 + most_code_of_pieces ps
most_code_of_pieces (piece.Word spelling k ∷ ps) = 2 + most_code_of_pieces ps
most_code_of_pieces (piece.String k ∷ ps) = 17 + most_code_of_pieces ps

abbrev mutual
  pub most_code_in : Statements → ℕ
  most_code_in Done = 0
  most_code_in (Evaluate p e k) = most_code e + most_code_in k
  most_code_in (Initialise p offset size items k) = 30 + (most_code_of_items items + most_code_in k)
  most_code_in (Print p xs pieces k) = most_code_of_all xs + (most_code_of_pieces pieces + most_code_in k)
  most_code_in (If p e t u k) = 2 + (most_code e + (most_code_in t + (most_code_in u + most_code_in k)))
  most_code_in (Loop p test body step k) =
      12 + (most_code_of_some test + (most_code_in body + (most_code_of_some step + most_code_in k)))
  most_code_in (Do p body test k) = 12 + (most_code_in body + (most_code test + most_code_in k))
  most_code_in (Switch p e arms k) = 20 + (most_code e + (most_code_in_arms arms + most_code_in k))
  most_code_in (Break p k) = 2 + most_code_in k
  most_code_in (Continue p k) = 2 + most_code_in k
  most_code_in (Return p e k) = 2 + (most_code_of_some e + most_code_in k)

  pub most_code_in_arms : Arms → ℕ
  most_code_in_arms no_arms = 0
  most_code_in_arms (arm_then labels t rest) = 2 + (6 * length labels + (most_code_in t + most_code_in_arms rest))

-- each parameter that is stored
abbrev pub most_code_of_slots : List (Option FrameSlot) → ℕ
most_code_of_slots [] = 0
most_code_of_slots (None ∷ slots) = most_code_of_slots slots
most_code_of_slots (Some slot ∷ slots) = 4 + most_code_of_slots slots

-- with a test of the frame and an end
abbrev pub most_code_in_function : tree.Function → ℕ
most_code_in_function f = 4 + (most_code_of_slots f.parameters + most_code_in f.body)

-- ---- the law

abbrev pub CodeWithin : Type 0
CodeWithin = (p : Place) (is_main : Bool) (f : tree.Function) (n : ℕ) → loaded_burden (function_code p is_main f n) ≤ most_code_in_function f

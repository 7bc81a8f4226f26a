-- What a typed tree weighs: at least the variables that lowering makes for it, and at least half as much as the items of its
-- code, where a call counts one and a half more and a load a half. A number, an address and what comes from a byte of a literal
-- counts as many as is said, and so does the load behind a check: none, which is enough for variables, or one.
use Rattle.std.specs.Prelude.{ℕ, ◌+◌, ◌*◌, Bool, true, false, List, [], ◌∷◌, length, Option, Some, None}
use Rattle.dae_program.specs.declared.statements.FormatPiece.{FormatPiece}
use Rattle.dae_program.specs.declared.statements.FormatPiece.TheVariants as piece
use Rattle.dae_program.specs.Trees.{Expression, Target, Expressions, Setting, Statements, Arms, Number, Address, Frame, Variable, Read, Convert, Not, Binary, Compare, And, Or, Conditional, Comma, Assign, Update, Step, Call, Putchar, Exit, Abort, InVariable, AtAddress, no_expressions, expression_then, Done, Evaluate, Initialise, Print, If, Loop, Do, Switch, Break, Continue, Return, no_arms, arm_then}

-- what is read behind a check counts so many more
abbrev pub if_checked : (constant : ℕ) → Bool → ℕ
if_checked c true = c
if_checked c false = 0

abbrev mutual
  pub weight : (constant : ℕ) → Expression → ℕ
  weight c (Number k) = c
  weight c (Address object offset) = c
  weight c (Frame p offset) = 1
  weight c (Variable p v) = 1
  weight c (Read p kind checked a) = 1 + (if_checked c checked + weight c a)
  weight c (Convert p kind a) = 1 + weight c a
  weight c (Not p a) = 1 + weight c a
  weight c (Binary p operator a b) = 1 + (weight c a + weight c b)
  weight c (Compare p comparison turned a b) = 1 + (weight c a + weight c b)
  weight c (And p a b) = 3 + (weight c a + weight c b)
  weight c (Or p a b) = 3 + (weight c a + weight c b)
  weight c (Conditional p a b d) = 2 + (weight c a + (weight c b + weight c d))
  weight c (Comma a b) = 1 + (weight c a + weight c b)
  weight c (Assign p kind t a) = 1 + (weight_of_target c t + weight c a)
  weight c (Update p kind t operator a) = 4 + (weight_of_target c t + weight c a)
  weight c (Step p kind t change new) = 3 + (c + weight_of_target c t)
  weight c (Call p f xs) = 2 + weight_of_all c xs
  weight c (Putchar p a) = 1 + weight c a
  weight c (Exit p a) = 1 + weight c a
  weight c (Abort p) = 1

  pub weight_of_target : (constant : ℕ) → Target → ℕ
  weight_of_target c (InVariable v) = 0
  weight_of_target c (AtAddress checked a) = weight c a

  pub weight_of_all : (constant : ℕ) → Expressions → ℕ
  weight_of_all c no_expressions = 0
  weight_of_all c (expression_then a xs) = 1 + (weight c a + weight_of_all c xs)

abbrev pub weight_of_some : (constant : ℕ) → Option Expression → ℕ
weight_of_some c None = 0
weight_of_some c (Some e) = weight c e

abbrev pub weight_of_items : (constant : ℕ) → List Setting → ℕ
weight_of_items c [] = 0
weight_of_items c (item ∷ items) = c + (weight c item.value + weight_of_items c items)

abbrev pub weight_of_pieces : (constant : ℕ) → List FormatPiece → ℕ
weight_of_pieces c [] = 0
weight_of_pieces c (piece.Byte b ∷ ps) = c + weight_of_pieces c ps
weight_of_pieces c (piece.Word spelling k ∷ ps) = 2 + weight_of_pieces c ps
weight_of_pieces c (piece.String k ∷ ps) = 4 + (c + weight_of_pieces c ps)

abbrev mutual
  pub weight_in : (constant : ℕ) → Statements → ℕ
  weight_in c Done = 0
  weight_in c (Evaluate p e k) = 1 + (weight c e + weight_in c k)
  weight_in c (Initialise p offset size items k) = 8 + (weight_of_items c items + weight_in c k)
  weight_in c (Print p xs pieces k) = 1 + (weight_of_all c xs + (weight_of_pieces c pieces + weight_in c k))
  weight_in c (If p e t u k) = 1 + (weight c e + (weight_in c t + (weight_in c u + weight_in c k)))
  weight_in c (Loop p test body step k) =
      3 + (weight_of_some c test + (weight_in c body + (weight_of_some c step + weight_in c k)))
  weight_in c (Do p body test k) = 3 + (weight_in c body + (weight c test + weight_in c k))
  weight_in c (Switch p e arms k) = 5 + (weight c e + (weight_in_arms c arms + weight_in c k))
  weight_in c (Break p k) = 1 + weight_in c k
  weight_in c (Continue p k) = 1 + weight_in c k
  weight_in c (Return p e k) = 1 + (weight_of_some c e + weight_in c k)

  pub weight_in_arms : (constant : ℕ) → Arms → ℕ
  weight_in_arms c no_arms = 0
  weight_in_arms c (arm_then labels t rest) = 1 + (2 * length labels + (weight_in c t + weight_in_arms c rest))

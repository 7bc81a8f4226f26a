-- Tests of what has no value. C has none: each operand of a test is a scalar (C90 6.3.3.3, 6.3.8, 6.3.9, 6.3.13 to 6.3.15, 6.6.4,
-- 6.6.5), and exit and abort give nothing, and don't come back either (7.10.4.1, 7.10.4.3). A tree may have them all the same.
use Rattle.std.specs.Prelude.{ℕ, suc, ◌+◌, Bool, true, false, ◌||◌, if◌then◌else◌, List, [], ◌∷◌, Option, Some, None}
use Rattle.dae_program.specs.Expressions.{bit}
use Rattle.dae_program.specs.Trees.{Expression, Target, Expressions, Statements, Arms, Program, Number, Address, Frame, Variable, Read, Convert, Not, Binary, Compare, And, Or, Conditional, Comma, Assign, Update, Step, Call, Putchar, Exit, Abort, InVariable, AtAddress, no_expressions, expression_then, Done, Evaluate, Initialise, Print, If, Loop, Do, Switch, Break, Continue, Return, no_arms, arm_then}

-- a call of exit or abort, also where it would be converted
abbrev pub is_void : Expression → Bool
is_void (Number k) = false
is_void (Address object offset) = false
is_void (Frame p offset) = false
is_void (Variable p v) = false
is_void (Read p kind checked x) = false
is_void (Convert p kind x) = is_void x
is_void (Not p x) = false
is_void (Binary p operator x y) = false
is_void (Compare p comparison turned x y) = false
is_void (And p x y) = false
is_void (Or p x y) = false
is_void (Conditional p x y z) = false
is_void (Comma x y) = false
is_void (Assign p kind t x) = false
is_void (Update p kind t operator x) = false
is_void (Step p kind t change new) = false
is_void (Call p f xs) = false
is_void (Putchar p x) = false
is_void (Exit p x) = true
is_void (Abort p) = true

-- a test with such an operand. A `!` round a test is left aside
abbrev pub is_void_test : Expression → Bool
is_void_test (Number k) = false
is_void_test (Address object offset) = false
is_void_test (Frame p offset) = false
is_void_test (Variable p v) = false
is_void_test (Read p kind checked x) = false
is_void_test (Convert p kind x) = is_void x
is_void_test (Not p x) = is_void_test x
is_void_test (Binary p operator x y) = false
is_void_test (Compare p comparison turned x y) = is_void x || is_void y
is_void_test (And p x y) = false
is_void_test (Or p x y) = false
is_void_test (Conditional p x y z) = false
is_void_test (Comma x y) = false
is_void_test (Assign p kind t x) = false
is_void_test (Update p kind t operator x) = false
is_void_test (Step p kind t change new) = false
is_void_test (Call p f xs) = false
is_void_test (Putchar p x) = false
is_void_test (Exit p x) = true
is_void_test (Abort p) = true

-- those inside an expression
abbrev mutual
  pub void_in : Expression → ℕ
  void_in (Number k) = 0
  void_in (Address object offset) = 0
  void_in (Frame p offset) = 0
  void_in (Variable p v) = 0
  void_in (Read p kind checked x) = void_in x
  void_in (Convert p kind x) = void_in x
  void_in (Not p x) = void_in x
  void_in (Binary p operator x y) = void_in x + void_in y
  void_in (Compare p comparison turned x y) = void_in x + void_in y
  void_in (And p x y) = (bit (is_void_test x) + bit (is_void_test y)) + (void_in x + void_in y)
  void_in (Or p x y) = (bit (is_void_test x) + bit (is_void_test y)) + (void_in x + void_in y)
  void_in (Conditional p x y z) = bit (is_void_test x) + (void_in x + (void_in y + void_in z))
  void_in (Comma x y) = void_in x + void_in y
  void_in (Assign p kind t x) = void_in_target t + void_in x
  void_in (Update p kind t operator x) = void_in_target t + void_in x
  void_in (Step p kind t change new) = void_in_target t
  void_in (Call p f xs) = void_in_all xs
  void_in (Putchar p x) = void_in x
  void_in (Exit p x) = void_in x
  void_in (Abort p) = 0

  pub void_in_target : Target → ℕ
  void_in_target (InVariable v) = 0
  void_in_target (AtAddress checked x) = void_in x

  pub void_in_all : Expressions → ℕ
  void_in_all no_expressions = 0
  void_in_all (expression_then x xs) = void_in x + void_in_all xs

abbrev pub void_in_some : Option Expression → ℕ
void_in_some None = 0
void_in_some (Some x) = void_in x

-- the test of a statement, and those inside it
abbrev pub void_test : Expression → ℕ
void_test x = bit (is_void_test x) + void_in x

abbrev pub void_some : Option Expression → ℕ
void_some None = 0
void_some (Some x) = void_test x

-- `default` is no test
abbrev pub count_labels : List (Option ℕ) → ℕ
count_labels [] = 0
count_labels (None ∷ labels) = count_labels labels
count_labels (Some k ∷ labels) = suc (count_labels labels)

-- each label of a switch is a test of its value
abbrev mutual
  pub void_statements : Statements → ℕ
  void_statements Done = 0
  void_statements (Evaluate p x k) = void_in x + void_statements k
  void_statements (Initialise p offset size items k) = void_statements k
  void_statements (Print p xs pieces k) = void_in_all xs + void_statements k
  void_statements (If p x t u k) = void_test x + (void_statements t + (void_statements u + void_statements k))
  void_statements (Loop p test body step k) =
      void_some test + (void_statements body + (void_in_some step + void_statements k))
  void_statements (Do p body test k) = void_statements body + (void_test test + void_statements k)
  void_statements (Switch p x arms k) = void_in x + (void_arms (is_void_test x) arms + void_statements k)
  void_statements (Break p k) = void_statements k
  void_statements (Continue p k) = void_statements k
  void_statements (Return p x k) = void_in_some x + void_statements k

  -- where the flag says that the value is none
  pub void_arms : Bool → Arms → ℕ
  void_arms flag no_arms = 0
  void_arms flag (arm_then labels t rest) = (if flag then count_labels labels else 0) + (void_statements t + void_arms flag rest)

-- the tests of a function that have no value
abbrev pub void_tests : Program → ℕ → ℕ
void_tests p f = let g = p.function f in void_statements g.body

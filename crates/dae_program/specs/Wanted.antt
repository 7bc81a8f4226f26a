-- What of a program the access side may load and decide by itself: what is wanted for addresses, and which tests are open to
-- it. Both speak of the program alone, and bound what a compiler may give the access side to do.
use Rattle.std.specs.Prelude.{◌≡◌, ℕ, suc, ◌+◌, Bool, true, false, ◌&&◌, ◌||◌, nat_eq, if◌then◌else◌, List, ◌∷◌, Option, Some, None, []}
use Rattle.dae_program.specs.declared.statements.FormatPiece.{FormatPiece}
use Rattle.dae_program.specs.declared.statements.FormatPiece.TheVariants as piece
use Rattle.dae_program.specs.Expressions.{bit}
use Rattle.dae_program.specs.Trees.{Expression, Target, Expressions, Setting, Statements, Arms, Program, Number, Address, Frame, Variable, Read, Convert, Not, Binary, Compare, And, Or, Conditional, Comma, Assign, Update, Step, Call, Putchar, Exit, Abort, InVariable, AtAddress, no_expressions, expression_then, Done, Evaluate, Initialise, Print, If, Loop, Do, Switch, Break, Continue, Return, no_arms, arm_then}

-- which variables of each function are wanted; variable 0 stands for what it returns
abbrev pub Wants : Type 0
Wants = ℕ → ℕ → Bool

abbrev pub IfSo : Bool → Type 0 → Type 0
IfSo true X = X
IfSo false X = Unit {0}

-- whether an argument of printf is one for `%s`
abbrev pub is_text : ℕ → List FormatPiece → Bool
is_text k [] = false
is_text k (piece.Byte b ∷ ps) = is_text k ps
is_text k (piece.Word spelling j ∷ ps) = is_text k ps
is_text k (piece.String j ∷ ps) = nat_eq k j || is_text k ps

-- ---- what is wanted

-- of the functions of a file, in a function of a number
module _ (wants : Wants) (callee : ℕ → ℕ) (f : ℕ) where
  -- Where the value of an expression is wanted, which the flag says, so is each part that the value is made of: a variable's
  -- value is that variable's; an address of what is read or assigned by `*`, `[]` or `->` is wanted in any case; control is
  -- no part, so neither a test of `?:` nor the operands of `&&` and `||` are; what is assigned to a wanted variable is wanted,
  -- and so is an argument for a wanted parameter, and what a function returns whose call is wanted.
  abbrev mutual
    pub KeepsWants : Bool → Expression → Type 0
    KeepsWants flag (Number k) = Unit {0}
    KeepsWants flag (Address object offset) = Unit {0}
    KeepsWants flag (Frame p offset) = Unit {0}
    KeepsWants flag (Variable p v) = IfSo flag (wants f v ≡ true)
    KeepsWants flag (Read p kind checked x) = KeepsWants true x
    KeepsWants flag (Convert p kind x) = KeepsWants flag x
    KeepsWants flag (Not p x) = KeepsWants flag x
    KeepsWants flag (Binary p operator x y) = KeepsWants flag x × KeepsWants flag y
    KeepsWants flag (Compare p comparison turned x y) = KeepsWants flag x × KeepsWants flag y
    KeepsWants flag (And p x y) = KeepsWants false x × KeepsWants false y
    KeepsWants flag (Or p x y) = KeepsWants false x × KeepsWants false y
    KeepsWants flag (Conditional p x y z) = KeepsWants false x × KeepsWants flag y × KeepsWants flag z
    KeepsWants flag (Comma x y) = KeepsWants false x × KeepsWants flag y
    KeepsWants flag (Assign p kind (InVariable v) x) = KeepsWants (flag || wants f v) x
    KeepsWants flag (Assign p kind (AtAddress checked a) x) = KeepsWants true a × KeepsWants flag x
    KeepsWants flag (Update p kind (InVariable v) operator x) = IfSo flag (wants f v ≡ true) × KeepsWants (flag || wants f v) x
    KeepsWants flag (Update p kind (AtAddress checked a) operator x) = KeepsWants true a × KeepsWants flag x
    KeepsWants flag (Step p kind (InVariable v) change new) = IfSo flag (wants f v ≡ true)
    KeepsWants flag (Step p kind (AtAddress checked a) change new) = KeepsWants true a
    KeepsWants flag (Call p g xs) = IfSo flag (wants (callee g) 0 ≡ true) × KeepArguments (callee g) 1 xs
    KeepsWants flag (Putchar p x) = KeepsWants flag x
    KeepsWants flag (Exit p x) = KeepsWants false x
    KeepsWants flag (Abort p) = Unit {0}

    -- arguments for the parameters of function g from number k on
    pub KeepArguments : (g k : ℕ) → Expressions → Type 0
    KeepArguments g k no_expressions = Unit {0}
    KeepArguments g k (expression_then x xs) = KeepsWants (wants g k) x × KeepArguments g (suc k) xs

  abbrev pub KeepPrinted : List FormatPiece → (k : ℕ) → Expressions → Type 0
  KeepPrinted pieces k no_expressions = Unit {0}
  KeepPrinted pieces k (expression_then x xs) = KeepsWants (is_text k pieces) x × KeepPrinted pieces (suc k) xs

  abbrev pub KeepSome : Bool → Option Expression → Type 0
  KeepSome flag None = Unit {0}
  KeepSome flag (Some x) = KeepsWants flag x

  abbrev pub KeepItems : List Setting → Type 0
  KeepItems [] = Unit {0}
  KeepItems (item ∷ items) = KeepsWants false item.value × KeepItems items

  abbrev mutual
    pub KeepStatements : Statements → Type 0
    KeepStatements Done = Unit {0}
    KeepStatements (Evaluate p x k) = KeepsWants false x × KeepStatements k
    KeepStatements (Initialise p offset size items k) = KeepItems items × KeepStatements k
    KeepStatements (Print p xs pieces k) = KeepPrinted pieces 0 xs × KeepStatements k
    KeepStatements (If p x t u k) = KeepsWants false x × KeepStatements t × KeepStatements u × KeepStatements k
    KeepStatements (Loop p test body step k) = KeepSome false test × KeepStatements body × KeepSome false step × KeepStatements k
    KeepStatements (Do p body test k) = KeepStatements body × KeepsWants false test × KeepStatements k
    KeepStatements (Switch p x arms k) = KeepsWants false x × KeepArms arms × KeepStatements k
    KeepStatements (Break p k) = KeepStatements k
    KeepStatements (Continue p k) = KeepStatements k
    KeepStatements (Return p x k) = KeepSome (wants f 0) x × KeepStatements k

    pub KeepArms : Arms → Type 0
    KeepArms no_arms = Unit {0}
    KeepArms (arm_then labels t rest) = KeepStatements t × KeepArms rest

abbrev pub AreKept : Program → Wants → Type 0
AreKept p wants = (f : ℕ) → (let g = p.function f in KeepStatements wants g.callee f g.body)

-- ---- how many objects are read where they are wanted

module _ (wants : Wants) (callee : ℕ → ℕ) (f : ℕ) where
  abbrev mutual
    pub wanted : Bool → Expression → ℕ
    wanted flag (Number k) = 0
    wanted flag (Address object offset) = 0
    wanted flag (Frame p offset) = 0
    wanted flag (Variable p v) = 0
    wanted flag (Read p kind checked x) = bit flag + wanted true x
    wanted flag (Convert p kind x) = wanted flag x
    wanted flag (Not p x) = wanted flag x
    wanted flag (Binary p operator x y) = wanted flag x + wanted flag y
    wanted flag (Compare p comparison turned x y) = wanted flag x + wanted flag y
    wanted flag (And p x y) = wanted false x + wanted false y
    wanted flag (Or p x y) = wanted false x + wanted false y
    wanted flag (Conditional p x y z) = wanted false x + (wanted flag y + wanted flag z)
    wanted flag (Comma x y) = wanted false x + wanted flag y
    wanted flag (Assign p kind (InVariable v) x) = wanted (flag || wants f v) x
    wanted flag (Assign p kind (AtAddress checked a) x) = wanted true a + wanted flag x
    wanted flag (Update p kind (InVariable v) operator x) = wanted (flag || wants f v) x
    wanted flag (Update p kind (AtAddress checked a) operator x) = bit flag + (wanted true a + wanted flag x)
    wanted flag (Step p kind (InVariable v) change new) = 0
    wanted flag (Step p kind (AtAddress checked a) change new) = bit flag + wanted true a
    wanted flag (Call p g xs) = wanted_arguments (callee g) 1 xs
    wanted flag (Putchar p x) = wanted flag x
    wanted flag (Exit p x) = wanted false x
    wanted flag (Abort p) = 0

    pub wanted_arguments : (g k : ℕ) → Expressions → ℕ
    wanted_arguments g k no_expressions = 0
    wanted_arguments g k (expression_then x xs) = wanted (wants g k) x + wanted_arguments g (suc k) xs

  abbrev pub wanted_printed : List FormatPiece → (k : ℕ) → Expressions → ℕ
  wanted_printed pieces k no_expressions = 0
  wanted_printed pieces k (expression_then x xs) = wanted (is_text k pieces) x + wanted_printed pieces (suc k) xs

  abbrev pub wanted_some : Bool → Option Expression → ℕ
  wanted_some flag None = 0
  wanted_some flag (Some x) = wanted flag x

  abbrev mutual
    pub wanted_in : Statements → ℕ
    wanted_in Done = 0
    wanted_in (Evaluate p x k) = wanted false x + wanted_in k
    wanted_in (Initialise p offset size items k) = wanted_in k
    wanted_in (Print p xs pieces k) = wanted_printed pieces 0 xs + wanted_in k
    wanted_in (If p x t u k) = wanted false x + (wanted_in t + (wanted_in u + wanted_in k))
    wanted_in (Loop p test body step k) = wanted_some false test + (wanted_in body + (wanted_some false step + wanted_in k))
    wanted_in (Do p body test k) = wanted_in body + (wanted false test + wanted_in k)
    wanted_in (Switch p x arms k) = wanted false x + (wanted_in_arms arms + wanted_in k)
    wanted_in (Break p k) = wanted_in k
    wanted_in (Continue p k) = wanted_in k
    wanted_in (Return p x k) = wanted_some (wants f 0) x + wanted_in k

    pub wanted_in_arms : Arms → ℕ
    wanted_in_arms no_arms = 0
    wanted_in_arms (arm_then labels t rest) = wanted_in t + wanted_in_arms rest

-- the wanted reads of a function
abbrev pub wanted_reads : Program → Wants → ℕ → ℕ
wanted_reads p wants f = let g = p.function f in wanted_in wants g.callee f g.body

-- ---- tests

module _ (wants : ℕ → Bool) where
  -- it holds the name of a wanted variable, a comma or an assignment
  abbrev mutual
    pub holds_wanted : Expression → Bool
    holds_wanted (Number k) = false
    holds_wanted (Address object offset) = false
    holds_wanted (Frame p offset) = false
    holds_wanted (Variable p v) = wants v
    holds_wanted (Read p kind checked x) = holds_wanted x
    holds_wanted (Convert p kind x) = holds_wanted x
    holds_wanted (Not p x) = holds_wanted x
    holds_wanted (Binary p operator x y) = holds_wanted x || holds_wanted y
    holds_wanted (Compare p comparison turned x y) = holds_wanted x || holds_wanted y
    holds_wanted (And p x y) = holds_wanted x || holds_wanted y
    holds_wanted (Or p x y) = holds_wanted x || holds_wanted y
    holds_wanted (Conditional p x y z) = holds_wanted x || (holds_wanted y || holds_wanted z)
    holds_wanted (Comma x y) = true
    holds_wanted (Assign p kind t x) = true
    holds_wanted (Update p kind t operator x) = true
    holds_wanted (Step p kind (InVariable v) change new) = wants v
    holds_wanted (Step p kind (AtAddress checked a) change new) = holds_wanted a
    holds_wanted (Call p f xs) = one_holds_wanted xs
    holds_wanted (Putchar p x) = holds_wanted x
    holds_wanted (Exit p x) = holds_wanted x
    holds_wanted (Abort p) = false

    pub one_holds_wanted : Expressions → Bool
    one_holds_wanted no_expressions = false
    one_holds_wanted (expression_then x xs) = holds_wanted x || one_holds_wanted xs

-- it reads no object and calls no function
abbrev pub is_quiet : Expression → Bool
is_quiet (Number k) = true
is_quiet (Address object offset) = true
is_quiet (Frame p offset) = true
is_quiet (Variable p v) = false
is_quiet (Read p kind checked x) = false
is_quiet (Convert p kind x) = is_quiet x
is_quiet (Not p x) = is_quiet x
is_quiet (Binary p operator x y) = is_quiet x && is_quiet y
is_quiet (Compare p comparison turned x y) = is_quiet x && is_quiet y
is_quiet (And p x y) = is_quiet x && is_quiet y
is_quiet (Or p x y) = is_quiet x && is_quiet y
is_quiet (Conditional p x y z) = is_quiet x && (is_quiet y && is_quiet z)
is_quiet (Comma x y) = is_quiet x && is_quiet y
is_quiet (Assign p kind (InVariable v) x) = is_quiet x
is_quiet (Assign p kind (AtAddress checked a) x) = is_quiet a && is_quiet x
is_quiet (Update p kind t operator x) = false
is_quiet (Step p kind t change new) = false
is_quiet (Call p f xs) = false
is_quiet (Putchar p x) = false
is_quiet (Exit p x) = false
is_quiet (Abort p) = false

module _ (wants : ℕ → Bool) where
  abbrev pub is_open_operand : Expression → Bool
  is_open_operand x = holds_wanted wants x || is_quiet x

  -- A test is open to the access side where each of its operands is: those of a comparison, else the test itself. A `!` round
  -- a test is left aside.
  abbrev pub is_open : Expression → Bool
  is_open (Not p x) = is_open x
  is_open (Compare p comparison turned x y) = is_open_operand x && is_open_operand y
  is_open (Number k) = true
  is_open (Address object offset) = true
  is_open (Frame p offset) = true
  is_open (Variable p v) = is_open_operand (Variable p v)
  is_open (Read p kind checked x) = is_open_operand (Read p kind checked x)
  is_open (Convert p kind x) = is_open_operand (Convert p kind x)
  is_open (Binary p operator x y) = is_open_operand (Binary p operator x y)
  is_open (And p x y) = is_open_operand (And p x y)
  is_open (Or p x y) = is_open_operand (Or p x y)
  is_open (Conditional p x y z) = is_open_operand (Conditional p x y z)
  is_open (Comma x y) = true
  is_open (Assign p kind t x) = true
  is_open (Update p kind t operator x) = true
  is_open (Step p kind t change new) = is_open_operand (Step p kind t change new)
  is_open (Call p f xs) = is_open_operand (Call p f xs)
  is_open (Putchar p x) = is_open_operand (Putchar p x)
  is_open (Exit p x) = is_open_operand (Exit p x)
  is_open (Abort p) = false

  -- the tests in an expression that are open: the operands of `&&` and `||`, and the tests of `?:`
  abbrev mutual
    pub open_in : Expression → ℕ
    open_in (Number k) = 0
    open_in (Address object offset) = 0
    open_in (Frame p offset) = 0
    open_in (Variable p v) = 0
    open_in (Read p kind checked x) = open_in x
    open_in (Convert p kind x) = open_in x
    open_in (Not p x) = open_in x
    open_in (Binary p operator x y) = open_in x + open_in y
    open_in (Compare p comparison turned x y) = open_in x + open_in y
    open_in (And p x y) = (bit (is_open x) + bit (is_open y)) + (open_in x + open_in y)
    open_in (Or p x y) = (bit (is_open x) + bit (is_open y)) + (open_in x + open_in y)
    open_in (Conditional p x y z) = bit (is_open x) + (open_in x + (open_in y + open_in z))
    open_in (Comma x y) = open_in x + open_in y
    open_in (Assign p kind t x) = open_in_target t + open_in x
    open_in (Update p kind t operator x) = open_in_target t + open_in x
    open_in (Step p kind t change new) = open_in_target t
    open_in (Call p f xs) = open_in_all xs
    open_in (Putchar p x) = open_in x
    open_in (Exit p x) = open_in x
    open_in (Abort p) = 0

    pub open_in_target : Target → ℕ
    open_in_target (InVariable v) = 0
    open_in_target (AtAddress checked x) = open_in x

    pub open_in_all : Expressions → ℕ
    open_in_all no_expressions = 0
    open_in_all (expression_then x xs) = open_in x + open_in_all xs

  abbrev pub open_in_some : Option Expression → ℕ
  open_in_some None = 0
  open_in_some (Some x) = open_in x

  -- the test of a statement, and those inside it
  abbrev pub open_test : Expression → ℕ
  open_test x = bit (is_open x) + open_in x

  abbrev pub open_some : Option Expression → ℕ
  open_some None = 0
  open_some (Some x) = open_test x

  -- `default` is no test
  abbrev pub count_tests : List (Option ℕ) → ℕ
  count_tests [] = 0
  count_tests (None ∷ labels) = count_tests labels
  count_tests (Some k ∷ labels) = suc (count_tests labels)

  -- each label of a switch is a test of its value
  abbrev mutual
    pub open_statements : Statements → ℕ
    open_statements Done = 0
    open_statements (Evaluate p x k) = open_in x + open_statements k
    open_statements (Initialise p offset size items k) = suc (open_statements k)
    open_statements (Print p xs pieces k) = open_in_all xs + open_statements k
    open_statements (If p x t u k) = open_test x + (open_statements t + (open_statements u + open_statements k))
    open_statements (Loop p test body step k) = open_some test + (open_statements body + (open_in_some step + open_statements k))
    open_statements (Do p body test k) = open_statements body + (open_test test + open_statements k)
    open_statements (Switch p x arms k) = open_in x + (open_arms (is_open x) arms + open_statements k)
    open_statements (Break p k) = open_statements k
    open_statements (Continue p k) = open_statements k
    open_statements (Return p x k) = open_in_some x + open_statements k

    -- where the flag says that the value is open as a test
    pub open_arms : Bool → Arms → ℕ
    open_arms flag no_arms = 0
    open_arms flag (arm_then labels t rest) = (if flag then count_tests labels else 0) + (open_statements t + open_arms flag rest)

-- the initialised aggregates of a function and its tests that are open to the access side
abbrev pub open_tests : Program → Wants → ℕ → ℕ
open_tests p wants f = let g = p.function f in open_statements (wants f) g.body

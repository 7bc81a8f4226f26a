-- Typed programs as plain data, each list in the constructors of what it holds.
use Rattle.std.specs.Prelude.{ℕ, Bool, List, Option}
use Rattle.dae_base.specs.declared.Place.{Place}
use Rattle.dae_base.specs.declared.Width.{Width}
use Rattle.dae_base.specs.declared.LoadKind.{LoadKind}
use Rattle.dae_meaning.specs.declared.Operator.{Operator}
use Rattle.dae_meaning.specs.declared.Comparison.{Comparison}
use Rattle.dae_program.specs.declared.statements.FormatPiece.{FormatPiece}
use Rattle.dae_program.specs.declared.program.FrameSlot.{FrameSlot}

mutual
  pub data Expression : Type 0 where
    Number : ℕ → Expression
    Address : (object offset : ℕ) → Expression
    Frame : Place → (offset : ℕ) → Expression
    Variable : Place → ℕ → Expression
    Read : Place → LoadKind → (checked : Bool) → (address : Expression) → Expression
    Convert : Place → LoadKind → Expression → Expression
    Not : Place → Expression → Expression
    Binary : Place → Operator → Expression → Expression → Expression
    Compare : Place → Comparison → (turned : Bool) → Expression → Expression → Expression
    And : Place → Expression → Expression → Expression
    Or : Place → Expression → Expression → Expression
    Conditional : Place → Expression → Expression → Expression → Expression
    Comma : Expression → Expression → Expression
    Assign : Place → LoadKind → Target → Expression → Expression
    Update : Place → LoadKind → Target → Operator → Expression → Expression
    Step : Place → LoadKind → Target → (change : ℕ) → (new : Bool) → Expression
    Call : Place → (function : ℕ) → Expressions → Expression
    Putchar : Place → Expression → Expression
    Exit : Place → Expression → Expression
    Abort : Place → Expression

  pub data Target : Type 0 where
    InVariable : ℕ → Target
    AtAddress : (checked : Bool) → (address : Expression) → Target

  pub data Expressions : Type 0 where
    no_expressions : Expressions
    expression_then : Expression → Expressions → Expressions

-- an item of an initialised aggregate
pub record Setting : Type 0 where
  pub offset : ℕ
  pub width : Width
  pub value : Expression

-- statements, each with those behind it
mutual
  pub data Statements : Type 0 where
    Done : Statements
    Evaluate : Place → Expression → (k : Statements) → Statements
    Initialise : Place → (offset size : ℕ) → List Setting → (k : Statements) → Statements
    Print : Place → Expressions → List FormatPiece → (k : Statements) → Statements
    If : Place → Expression → (s t k : Statements) → Statements
    Loop : Place → (test : Option Expression) → (body : Statements) → (step : Option Expression) → (k : Statements) → Statements
    Do : Place → (body : Statements) → (test : Expression) → (k : Statements) → Statements
    Switch : Place → Expression → Arms → (k : Statements) → Statements
    Break : Place → (k : Statements) → Statements
    Continue : Place → (k : Statements) → Statements
    Return : Place → Option Expression → (k : Statements) → Statements

  -- the statements of a switch, parted where labels stand
  pub data Arms : Type 0 where
    no_arms : Arms
    arm_then : List (Option ℕ) → Statements → Arms → Arms

-- a function: what the numbers of its file mean, its parameters, the size of its frame, and its statements
pub record Function : Type 0 where
  pub address : ℕ → ℕ
  pub callee : ℕ → ℕ
  pub parameters : List (Option FrameSlot)
  pub frame : ℕ
  pub body : Statements

-- a program: its functions, and the most calls inside one another
pub record Program : Type 0 where
  pub function : ℕ → Function
  pub limit : ℕ

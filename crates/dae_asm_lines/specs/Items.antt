-- What a line of assembly text says, and the tokens that say it.
use Rattle.std.specs.Prelude.{◌≡◌, ℕ, ◌≤◌, ℤ, pos, true, List, [], ◌∷◌, map, length, codes, Some}
use Rattle.std.specs.Option.{option_map}
use Rattle.dae_base.specs.declared.Side.{Side}
use Rattle.dae_base.specs.declared.Side.TheVariants.{A, E}
use Rattle.dae_encode.specs.declared.Inst.{Inst}
use Rattle.dae_asm_lines.specs.declared.Operands.{Operands}
use Rattle.dae_asm_lines.specs.declared.Operands.TheVariants.{Registers, Immediate, Based, Branch, Upper, Jump, Alone}
use Rattle.dae_asm_lines.specs.Targets.{JumpTarget, Given, Named}
use Rattle.dae_asm_lines.specs.Names.{name_of, operands_of, named, AreAlike}
use Rattle.dae_asm_lines.specs.Tokens.{LineToken, Word, Number, Sign, is_label, size_of}

-- numbers may be out of any range; an instruction is one of its name, whose own operands count for
-- nothing
pub data LineItem : Type 0 where
  Budget : List ℤ → LineItem
  Memory : ℤ → LineItem
  Calls : ℤ → LineItem
  Private : ℤ → ℤ → LineItem
  Entry : JumpTarget → JumpTarget → LineItem
  Code : Side → LineItem
  Data : LineItem
  Label : List ℕ → LineItem
  Instruction : Inst → Operands JumpTarget → LineItem
  Plain : ℤ → LineItem
  Bytes : List ℤ → LineItem
  Mark : Side → ℤ → ℤ → ℤ → LineItem
  Name : List ℤ → LineItem

abbrev pub beginning : Side → List ℕ
beginning A = codes ".a"
beginning E = codes ".e"

abbrev pub letter : Side → List ℕ
letter A = codes "a"
letter E = codes "e"

-- `x` and a number
pub record IsRegister (t : LineToken) (r : ℤ) : Type 0 where
  pub digits : List ℕ
  pub whole : t ≡ Word (120 ∷ digits)
  pub number : option_map (λ n. pos n) (size_of digits) ≡ Some r

-- a number or a label
abbrev pub IsTarget : LineToken → JumpTarget → Type 0
IsTarget t (Given z) = t ≡ Number z
IsTarget t (Named name) = (t ≡ Word name) × (is_label name ≡ true)

abbrev pub comma : LineToken
comma = Sign 44

-- `x1,x2,x3`
pub record AreRegisters (ts : List LineToken) (a b c : ℤ) : Type 0 where
  pub x : LineToken
  pub y : LineToken
  pub z : LineToken
  pub whole : ts ≡ x ∷ comma ∷ y ∷ comma ∷ z ∷ []
  pub one : IsRegister x a
  pub two : IsRegister y b
  pub three : IsRegister z c

-- `x1,x2,-5`
pub record AreImmediate (ts : List LineToken) (a b n : ℤ) : Type 0 where
  pub x : LineToken
  pub y : LineToken
  pub whole : ts ≡ x ∷ comma ∷ y ∷ comma ∷ Number n ∷ []
  pub one : IsRegister x a
  pub two : IsRegister y b

-- `x1,4(x2)`
pub record AreBased (ts : List LineToken) (a n b : ℤ) : Type 0 where
  pub x : LineToken
  pub y : LineToken
  pub whole : ts ≡ x ∷ comma ∷ Number n ∷ Sign 40 ∷ y ∷ Sign 41 ∷ []
  pub one : IsRegister x a
  pub two : IsRegister y b

-- `x1,x2,T`
pub record AreBranch (ts : List LineToken) (a b : ℤ) (t : JumpTarget) : Type 0 where
  pub x : LineToken
  pub y : LineToken
  pub z : LineToken
  pub whole : ts ≡ x ∷ comma ∷ y ∷ comma ∷ z ∷ []
  pub one : IsRegister x a
  pub two : IsRegister y b
  pub goes : IsTarget z t

-- `x1,74565`
pub record AreUpper (ts : List LineToken) (a n : ℤ) : Type 0 where
  pub x : LineToken
  pub whole : ts ≡ x ∷ comma ∷ Number n ∷ []
  pub one : IsRegister x a

-- `x1,T`
pub record AreJump (ts : List LineToken) (a : ℤ) (t : JumpTarget) : Type 0 where
  pub x : LineToken
  pub z : LineToken
  pub whole : ts ≡ x ∷ comma ∷ z ∷ []
  pub one : IsRegister x a
  pub goes : IsTarget z t

-- the tokens of operands
abbrev pub SayOperands : List LineToken → Operands JumpTarget → Type 0
SayOperands ts (Registers a b c) = AreRegisters ts a b c
SayOperands ts (Immediate a b n) = AreImmediate ts a b n
SayOperands ts (Based a n b) = AreBased ts a n b
SayOperands ts (Branch a b t) = AreBranch ts a b t
SayOperands ts (Upper a n) = AreUpper ts a n
SayOperands ts (Jump a t) = AreJump ts a t
SayOperands ts Alone = ts ≡ []

pub record SayEntry (ts : List LineToken) (a e : JumpTarget) : Type 0 where
  pub x : LineToken
  pub y : LineToken
  pub whole : ts ≡ Word (codes ".entry") ∷ x ∷ y ∷ []
  pub one : IsTarget x a
  pub two : IsTarget y e

-- a name of the table, and operands of the form of its own
pub record SayInstruction (ts : List LineToken) (i : Inst) (operands : Operands JumpTarget) : Type 0 where
  pub rest : List LineToken
  pub whole : ts ≡ Word (name_of i) ∷ rest
  pub known : named (name_of i) ≡ Some i
  pub alike : AreAlike (operands_of i) operands
  pub say : SayOperands rest operands

abbrev pub Says : List LineToken → LineItem → Type 0
Says ts (Budget ns) = (ts ≡ Word (codes ".budget") ∷ map Number ns) × (length ns ≡ 7)
Says ts (Memory n) = ts ≡ Word (codes ".memory") ∷ Number n ∷ []
Says ts (Calls n) = ts ≡ Word (codes ".calls") ∷ Number n ∷ []
Says ts (Private a e) = ts ≡ Word (codes ".private") ∷ Number a ∷ Number e ∷ []
Says ts (Entry a e) = SayEntry ts a e
Says ts (Code side) = ts ≡ Word (beginning side) ∷ []
Says ts Data = ts ≡ Word (codes ".data") ∷ []
Says ts (Label name) = (ts ≡ Word name ∷ Sign 58 ∷ []) × (is_label name ≡ true)
Says ts (Instruction i operands) = SayInstruction ts i operands
Says ts (Plain n) = ts ≡ Word (codes ".word") ∷ Number n ∷ []
Says ts (Bytes ns) =
    (ts ≡ Word (codes ".byte") ∷ map Number ns) × (1 ≤ length ns) × (length ns ≤ 16)
Says ts (Mark side word file line) =
    ts ≡ Word (codes ".line") ∷ Word (letter side) ∷ Number word ∷ Number file ∷ Number line ∷ []
Says ts (Name ns) = ts ≡ Word (codes ".name") ∷ map Number ns

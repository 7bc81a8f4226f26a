-- Which processor needs a variable. v leads to w where v stands in an assignment to w or in the address of a load into w,
-- is the argument for a parameter w, or is the result returned into w. A needs the least set that holds each variable in
-- an address and all that leads to it. E needs the least set that holds each variable that is stored, printed, given as a
-- status or in a condition or check that E decides, and all that leads to it, but for the address of a load and but for
-- an assignment to a variable that A needs, whose value A sends.
use Rattle.std.specs.Prelude.{◌≡◌, ℕ, ◌+◌, Bool, true, false, ◌&&◌, List, [], ◌∷◌, slice_get, Option, Some, None}
use Rattle.dae_ir.specs.Code.{Each}
use Rattle.dae_ir.specs.Form.{Program}
use Rattle.dae_ir.specs.declared.form.Operand.{Operand}
use Rattle.dae_ir.specs.declared.form.Operand.TheVariants.{Variable, Number}
use Rattle.dae_ir.specs.declared.form.Value.{Value}
use Rattle.dae_ir.specs.declared.form.Value.TheVariants.{Same, Extended, Binary, Holds, FrameAddress}
use Rattle.dae_ir.specs.declared.form.Test.{Test}
use Rattle.dae_ir.specs.declared.form.Check.{Check}
use Rattle.dae_ir.specs.declared.form.Check.TheVariants.{Place, InBounds, Zero, Room, Frame, Abort}
use Rattle.dae_ir.specs.declared.form.Item.{Item}
use Rattle.dae_ir.specs.declared.form.Item.TheVariants.{Assign, Load, Store, Print, Expect, Break, Continue, Call, Return, Halt}
use Rattle.dae_ir.specs.declared.stream.Class.{Class}
pub use Rattle.dae_meaning.specs.Variables.{VariableSet}

-- of one function: s is what A needs, and needs what E does
pub record Classes : Type 0 where
  pub s : VariableSet
  pub needs : VariableSet

-- all variables of an operand, a value, a condition or a check are in the set
abbrev pub has : VariableSet → Operand → Bool
has c (Variable v) = c v
has c (Number k) = true

abbrev pub has_test : VariableSet → Test → Bool
has_test c t = has c t.left && has c t.right

abbrev pub has_value : VariableSet → Value → Bool
has_value c (Same x) = has c x
has_value c (Extended kind x) = has c x
has_value c (Binary operator x y) = has c x && has c y
has_value c (Holds t) = has_test c t
has_value c (FrameAddress offset) = true

abbrev pub has_check : VariableSet → Check → Bool
has_check c (Place width x) = has c x
has_check c (InBounds x offset) = has c x
has_check c (Zero x) = has c x
has_check c (Room f) = true
has_check c Frame = true
has_check c Abort = true

-- A decides what it has all variables of. It has those of each address, so only a condition or a check for 0 can be E's
abbrev pub is_by_a : VariableSet → Test → Bool
is_by_a s t = has_test s t

-- the arguments for the parameters from k on, at a call of a function with the set callee
abbrev pub ArgumentsKept : VariableSet → VariableSet → ℕ → List Operand → Type 0
ArgumentsKept callee c k [] = Unit {0}
ArgumentsKept callee c k (x ∷ xs) = (callee k ≡ true → has c x ≡ true) × ArgumentsKept callee c (k + 1) xs

-- what a set that is closed under leads-to keeps at a call
pub record CallKept (callee c : VariableSet) (v : ℕ) (xs : List Operand) : Type 0 where
  pub arguments : ArgumentsKept callee c 1 xs
  pub result : c v ≡ true → callee 0 ≡ true

-- what A's sets keep at an item of a function with the set s
abbrev pub AddressesKept : (ℕ → VariableSet) → VariableSet → Item → Type 0
AddressesKept of s (Assign v x) = s v ≡ true → has_value s x ≡ true
AddressesKept of s (Load v kind x) = has s x ≡ true
AddressesKept of s (Store width x y) = has s x ≡ true
AddressesKept of s (Print spelling x) = Unit {0}
AddressesKept of s (Expect (Place width x)) = has s x ≡ true
AddressesKept of s (Expect (InBounds x offset)) = has s x ≡ true
AddressesKept of s (Expect (Zero x)) = Unit {0}
AddressesKept of s (Expect (Room f)) = Unit {0}
AddressesKept of s (Expect Frame) = Unit {0}
AddressesKept of s (Expect Abort) = Unit {0}
AddressesKept of s Break = Unit {0}
AddressesKept of s Continue = Unit {0}
AddressesKept of s (Call v f xs) = CallKept (of f) s v xs
AddressesKept of s (Return x) = s 0 ≡ true → has s x ≡ true
AddressesKept of s (Halt x) = Unit {0}

-- what E's sets keep at an item, where A's set is s and E's is needs
abbrev pub NeedsKept : (ℕ → VariableSet) → VariableSet → VariableSet → Item → Type 0
NeedsKept of s needs (Assign v x) = s v ≡ false → needs v ≡ true → has_value needs x ≡ true
NeedsKept of s needs (Load v kind x) = Unit {0}
NeedsKept of s needs (Store width x y) = has needs y ≡ true
NeedsKept of s needs (Print spelling x) = has needs x ≡ true
NeedsKept of s needs (Expect (Place width x)) = Unit {0}
NeedsKept of s needs (Expect (InBounds x offset)) = Unit {0}
NeedsKept of s needs (Expect (Zero x)) = has s x ≡ false → has needs x ≡ true
NeedsKept of s needs (Expect (Room f)) = Unit {0}
NeedsKept of s needs (Expect Frame) = Unit {0}
NeedsKept of s needs (Expect Abort) = Unit {0}
NeedsKept of s needs Break = Unit {0}
NeedsKept of s needs Continue = Unit {0}
NeedsKept of s needs (Call v f xs) = CallKept (of f) needs v xs
NeedsKept of s needs (Return x) = needs 0 ≡ true → has needs x ≡ true
NeedsKept of s needs (Halt x) = has needs x ≡ true

-- and at a condition
abbrev pub TestKept : VariableSet → VariableSet → Test → Type 0
TestKept s needs t = has_test s t ≡ false → has_test needs t ≡ true

-- A's sets of a whole program are closed
abbrev pub AreAddressesClosed : Program → (ℕ → VariableSet) → Type 0
AreAddressesClosed p s = (f : ℕ) → Each (AddressesKept s (s f)) (λ t. Unit {0}) (p.body f)

-- E's sets are, where A's are s
abbrev pub AreNeedsClosed : Program → (ℕ → VariableSet) → (ℕ → VariableSet) → Type 0
AreNeedsClosed p s needs = (f : ℕ) → Each (NeedsKept needs (s f) (needs f)) (TestKept (s f) (needs f)) (p.body f)

abbrev pub IsWithin : VariableSet → VariableSet → Type 0
IsWithin c d = (v : ℕ) → c v ≡ true → d v ≡ true

-- the classes of a whole program: closed
pub record AreClosed (p : Program) (of : ℕ → Classes) : Type 0 where
  pub addresses : AreAddressesClosed p (λ f. (of f).s)
  pub needs : AreNeedsClosed p (λ f. (of f).s) (λ f. (of f).needs)

-- closed, and each set within every other that is
pub record AreLeast (p : Program) (of : ℕ → Classes) : Type 0 where
  pub closed : AreClosed p of
  pub addresses : (others : ℕ → VariableSet) → AreAddressesClosed p others → (f : ℕ) → IsWithin (of f).s (others f)
  pub needs : (others : ℕ → VariableSet) → AreNeedsClosed p (λ f. (of f).s) others → (f : ℕ) → IsWithin (of f).needs (others f)

-- ---- classes as tables, per function and variable

abbrev pub in_a : Option Class → Bool
in_a None = false
in_a (Some class) = class.a

abbrev pub in_e : Option Class → Bool
in_e None = false
in_e (Some class) = class.e

abbrev pub classes_in : List Class → Classes
classes_in table = record { s = λ v. in_a (slice_get table v); needs = λ v. in_e (slice_get table v) }

abbrev pub row_of : Option (List Class) → List Class
row_of None = []
row_of (Some table) = table

-- the rows of the functions behind the first
abbrev pub rows_behind : List (List Class) → List (List Class)
rows_behind [] = []
rows_behind (row ∷ tables) = tables

abbrev pub classes_of : List (List Class) → ℕ → Classes
classes_of tables f = classes_in (row_of (slice_get tables f))

-- What an instruction is for the walk, in the words of its definitions.
use Rattle.std.specs.Prelude.{◌≡◌, ℕ, Bool, not, nat_lt, nat_eq, int_lt, if◌then◌else◌, Option, Some, None}
use Rattle.dae_base.specs.Words.{signed, plus}
use Rattle.dae_encode.specs.declared.Inst.{Inst}
use Rattle.dae_encode.specs.Instructions.{flag}
use Rattle.dae_ranges.specs.declared.Range.{Range}
use Rattle.dae_ranges.specs.Ranges.{single, decided}
use Rattle.dae_guard.specs.Moves.{Order, shape, test, order, against, goes_to, tells}
use Rattle.dae_guard_walk.specs.declared.kinds.TestKind.{TestKind}
use Rattle.dae_guard_walk.specs.declared.kinds.TestKind.TheVariants.{Equal, Unequal, Below, NotBelow, SignedBelow, NotSignedBelow}
use Rattle.dae_guard_walk.specs.declared.kinds.TestInstruction.{TestInstruction}
use Rattle.dae_guard_walk.specs.declared.kinds.InstructionKind.{InstructionKind}
use Rattle.dae_guard_walk.specs.declared.kinds.InstructionKind.TheVariants.{Tests, Jumps, Plain}
use Rattle.dae_guard.specs.Moves as moves

abbrev pub compares : TestKind → ℕ → ℕ → Bool
compares Equal v w = nat_eq v w
compares Unequal v w = not (nat_eq v w)
compares Below v w = nat_lt v w
compares NotBelow v w = not (nat_lt v w)
compares SignedBelow v w = int_lt (signed v) (signed w)
compares NotSignedBelow v w = not (int_lt (signed v) (signed w))

-- what it tells of a register where it is not decided
abbrev pub order_of : TestKind → Order
order_of Equal = moves.Equal
order_of Unequal = moves.Unequal
order_of Below = moves.Below
order_of NotBelow = moves.NotBelow
order_of SignedBelow = moves.Free
order_of NotSignedBelow = moves.Free

-- the second range of a test
abbrev pub second_word : Option ℕ → Range → Range
second_word None y = y
second_word (Some w) y = single w

-- how far the counter goes, and the result
abbrev pub goes_by : Option ℕ → Bool → ℕ
goes_by None b = 4
goes_by (Some offset) b = if b then offset else 4

abbrev pub told_by : Option ℕ → Bool → ℕ
told_by None b = flag b
told_by (Some offset) b = 0

pub record IsComparison (i : Inst) (k : TestInstruction) : Type 0 where
  pub tests : shape i ≡ moves.Tests
  pub by_order : order i ≡ order_of k.test
  pub by_second : (y : Range) → against i y ≡ second_word k.immediate y
  pub by_test : (x y : Range) → decided (test i) x (against i y) ≡ decided (compares k.test) x (against i y)
  pub goes : (c : ℕ) (b : Bool) → goes_to i c b ≡ plus c (goes_by k.offset b)
  pub told : (b : Bool) → tells i b ≡ told_by k.offset b

abbrev pub IsKind : Inst → InstructionKind → Type 0
IsKind i (Tests k) = IsComparison i k
IsKind i Jumps = shape i ≡ moves.Jumps
IsKind i Plain = shape i ≡ moves.Plain

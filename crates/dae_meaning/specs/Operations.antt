-- The operations of C on words of 32 bits (C90 6.3.5 to 6.3.12), comparisons, what is printed, and what a check of an
-- address or of a limit finds.
use Rattle.std.specs.Prelude.{ℕ, ◌+◌, ◌-◌, ◌*◌, ◌/◌, ◌%◌, ◌^◌, Bool, not, ◌||◌, nat_eq, nat_lt, if◌then◌else◌, List, Option, Some, None, bit_and, bit_or, bit_xor, int_lt, int_div, int_rem}
use Rattle.std.specs.Int.{int_shr}
use Rattle.dae_base.specs.Words.{word, signed, plus, minus, times, size}
use Rattle.dae_base.specs.Texts.{byte_text, decimal_text, hex_text}
use Rattle.dae_base.specs.declared.Signedness.TheVariants as signedness
use Rattle.dae_base.specs.declared.Width.{Width}
use Rattle.dae_meaning.specs.declared.Operator.{Operator}
use Rattle.dae_meaning.specs.declared.Operator.TheVariants.{Add, Subtract, Multiply, DivideSigned, DivideUnsigned, RemainderSigned, RemainderUnsigned, And, Or, Xor, ShiftLeft, ShiftRightSigned, ShiftRightUnsigned}
use Rattle.dae_meaning.specs.declared.Comparison.{Comparison}
use Rattle.dae_meaning.specs.declared.Comparison.TheVariants.{Equal, NotEqual, LessSigned, AtLeastSigned, LessUnsigned, AtLeastUnsigned}
use Rattle.dae_meaning.specs.declared.Spelling.{Spelling}
use Rattle.dae_meaning.specs.declared.Spelling.TheVariants.{Byte, Signed, Unsigned, Hexadecimal}

-- the word of all ones, which a division by 0 gives
abbrev pub ones : ℕ
ones = 2 ^ 32 - 1

-- division truncates towards zero, and a shift counts by the low five bits of its amount. C says nothing of a division by 0;
-- what stands here for it is what the processors compute (RISC-V unprivileged manual, "M")
unfoldable pub combined : Operator → ℕ → ℕ → ℕ
combined Add x y = plus x y
combined Subtract x y = minus x y
combined Multiply x y = times x y
combined DivideSigned x y = if nat_eq y 0 then ones else word (int_div (signed x) (signed y))
combined DivideUnsigned x y = if nat_eq y 0 then ones else x / y
combined RemainderSigned x y = if nat_eq y 0 then x else word (int_rem (signed x) (signed y))
combined RemainderUnsigned x y = if nat_eq y 0 then x else x % y
combined And x y = bit_and x y
combined Or x y = bit_or x y
combined Xor x y = bit_xor x y
combined ShiftLeft x y = (x * 2 ^ (y % 32)) % 2 ^ 32
combined ShiftRightSigned x y = word (int_shr (signed x) (y % 32))
combined ShiftRightUnsigned x y = x / 2 ^ (y % 32)

unfoldable pub compared : Comparison → ℕ → ℕ → Bool
compared Equal x y = nat_eq x y
compared NotEqual x y = not (nat_eq x y)
compared LessSigned x y = int_lt (signed x) (signed y)
compared AtLeastSigned x y = not (int_lt (signed x) (signed y))
compared LessUnsigned x y = nat_lt x y
compared AtLeastUnsigned x y = not (nat_lt x y)

unfoldable pub spelled : Spelling → ℕ → List ℕ
spelled Byte x = byte_text x
spelled Signed x = decimal_text x signedness.Signed
spelled Unsigned x = decimal_text x signedness.Unsigned
spelled Hexadecimal x = hex_text x

-- the trap of an access in a memory of this size: 3 at an address that isn't a multiple of the width, else 2 below
-- address 16 or past the end
unfoldable pub misplaced : Width → ℕ → ℕ → Option ℕ
misplaced width address length =
    if not (nat_eq (address % size width) 0) then Some 3
    else (if nat_lt address 16 || nat_lt length (address + size width) then Some 2 else None)

-- the trap of what must not pass a limit
abbrev pub passed : Bool → Option ℕ
passed beyond = if beyond then Some 4 else None

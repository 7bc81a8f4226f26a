-- The instructions of RV32I and its extension M: their words, and what each does with the values of its registers
-- (RISC-V unprivileged manual, "RV32I Base Integer Instruction Set", ""M" Extension" and "RV32/64G Instruction Set Listings").
use Rattle.std.specs.Prelude.{ℕ, ◌+◌, ◌-◌, ◌*◌, ◌/◌, ◌%◌, ◌^◌, ℤ, pos, negsuc, ◌*ℤ◌, Bool, not, nat_lt, ◌==◌, if◌then◌else◌, List, [], ◌∷◌, Option, Some, None, option_and_then, slice_get, bit_and, bit_or, bit_xor, int_lt, int_div, int_rem}
use Rattle.std.specs.Int.{int_shr}
use Rattle.dae_base.specs.Words.{word, signed, plus, minus, times}
use Rattle.dae_base.specs.declared.Width.{Width}
use Rattle.dae_base.specs.declared.Width.TheVariants.{B1, B2, B4}
use Rattle.dae_base.specs.declared.LoadKind.{LoadKind}
use Rattle.dae_base.specs.declared.LoadKind.TheVariants.{I8, U8, I16, U16, I32}
use Rattle.dae_encode.specs.declared.InstructionForm.{InstructionForm}
use Rattle.dae_encode.specs.declared.InstructionForm.TheVariants.{Computes, Loads, Stores, Calls}
use Rattle.dae_encode.specs.declared.Inst.{Inst}
use Rattle.dae_encode.specs.declared.Inst.TheVariants.{Lui, Auipc, Jal, Jalr, Beq, Bne, Blt, Bge, Bltu, Bgeu, Lb, Lh, Lw, Lbu, Lhu, Sb, Sh, Sw, Addi, Slti, Sltiu, Xori, Ori, Andi, Slli, Srli, Srai, Add, Sub, Sll, Slt, Sltu, Xor, Srl, Sra, Or, And, Mul, Mulh, Mulhsu, Mulhu, Div, Divu, Rem, Remu, Ecall}

-- ---- arithmetic on words

-- the signed number of so many bits (two's complement)
abbrev pub signed_in : ℕ → ℕ → ℤ
signed_in bits n = if nat_lt n (2 ^ (bits - 1)) then pos n else negsuc (2 ^ bits - 1 - n)

abbrev pub flag : Bool → ℕ
flag b = if b then 1 else 0

abbrev pub shift_left : ℕ → ℕ → ℕ
shift_left x y = (x * 2 ^ (y % 32)) % 2 ^ 32

abbrev pub shift_right : ℕ → ℕ → ℕ
shift_right x y = x / 2 ^ (y % 32)

abbrev pub shift_signed : ℕ → ℕ → ℕ
shift_signed x y = word (int_shr (signed x) (y % 32))

abbrev pub quotient : ℕ → ℕ → ℕ
quotient x y = if y == 0 then 2 ^ 32 - 1 else word (int_div (signed x) (signed y))

abbrev pub remainder : ℕ → ℕ → ℕ
remainder x y = if y == 0 then x else word (int_rem (signed x) (signed y))

-- ---- what an instruction does

-- DoesCompute: rd becomes value(counter, first, second), and the counter next(counter, first, second)
pub data Effect : Type 0 where
  DoesCompute : (rd first second : ℕ) (value next : ℕ → ℕ → ℕ → ℕ) → Effect
  DoesLoad : (kind : LoadKind) (rd base offset : ℕ) → Effect
  DoesStore : (width : Width) (base source offset : ℕ) → Effect
  DoesCall : Effect

abbrev pub on_two : ℕ → ℕ → ℕ → (ℕ → ℕ → ℕ) → Effect
on_two rd first second f = DoesCompute rd first second (λ pc x y. f x y) (λ pc x y. plus pc 4)

abbrev pub on_one : ℕ → ℕ → (ℕ → ℕ) → Effect
on_one rd first f = DoesCompute rd first 0 (λ pc x y. f x) (λ pc x y. plus pc 4)

abbrev pub branch : ℕ → ℕ → ℤ → (ℕ → ℕ → Bool) → Effect
branch first second imm test = DoesCompute 0 first second (λ pc x y. 0) (λ pc x y. plus pc (if test x y then word imm else 4))

abbrev pub effect : Inst → Effect
effect (Lui rd imm) = DoesCompute rd 0 0 (λ pc x y. word imm) (λ pc x y. plus pc 4)
effect (Auipc rd imm) = DoesCompute rd 0 0 (λ pc x y. plus pc (word imm)) (λ pc x y. plus pc 4)
effect (Jal rd imm) = DoesCompute rd 0 0 (λ pc x y. plus pc 4) (λ pc x y. plus pc (word imm))
effect (Jalr rd base imm) = DoesCompute rd base 0 (λ pc x y. plus pc 4) (λ pc x y. plus x (word imm) / 2 * 2)
effect (Beq first second imm) = branch first second imm (λ x y. x == y)
effect (Bne first second imm) = branch first second imm (λ x y. not (x == y))
effect (Blt first second imm) = branch first second imm (λ x y. int_lt (signed x) (signed y))
effect (Bge first second imm) = branch first second imm (λ x y. not (int_lt (signed x) (signed y)))
effect (Bltu first second imm) = branch first second imm (λ x y. nat_lt x y)
effect (Bgeu first second imm) = branch first second imm (λ x y. not (nat_lt x y))
effect (Lb rd base imm) = DoesLoad I8 rd base (word imm)
effect (Lh rd base imm) = DoesLoad I16 rd base (word imm)
effect (Lw rd base imm) = DoesLoad I32 rd base (word imm)
effect (Lbu rd base imm) = DoesLoad U8 rd base (word imm)
effect (Lhu rd base imm) = DoesLoad U16 rd base (word imm)
effect (Sb base source imm) = DoesStore B1 base source (word imm)
effect (Sh base source imm) = DoesStore B2 base source (word imm)
effect (Sw base source imm) = DoesStore B4 base source (word imm)
effect (Addi rd first imm) = on_one rd first (λ x. plus x (word imm))
effect (Slti rd first imm) = on_one rd first (λ x. flag (int_lt (signed x) imm))
effect (Sltiu rd first imm) = on_one rd first (λ x. flag (nat_lt x (word imm)))
effect (Xori rd first imm) = on_one rd first (λ x. bit_xor x (word imm))
effect (Ori rd first imm) = on_one rd first (λ x. bit_or x (word imm))
effect (Andi rd first imm) = on_one rd first (λ x. bit_and x (word imm))
effect (Slli rd first imm) = on_one rd first (λ x. shift_left x (word imm))
effect (Srli rd first imm) = on_one rd first (λ x. shift_right x (word imm))
effect (Srai rd first imm) = on_one rd first (λ x. shift_signed x (word imm))
effect (Add rd first second) = on_two rd first second plus
effect (Sub rd first second) = on_two rd first second minus
effect (Sll rd first second) = on_two rd first second shift_left
effect (Slt rd first second) = on_two rd first second (λ x y. flag (int_lt (signed x) (signed y)))
effect (Sltu rd first second) = on_two rd first second (λ x y. flag (nat_lt x y))
effect (Xor rd first second) = on_two rd first second (λ x y. bit_xor x y)
effect (Srl rd first second) = on_two rd first second shift_right
effect (Sra rd first second) = on_two rd first second shift_signed
effect (Or rd first second) = on_two rd first second (λ x y. bit_or x y)
effect (And rd first second) = on_two rd first second (λ x y. bit_and x y)
effect (Mul rd first second) = on_two rd first second times
effect (Mulh rd first second) = on_two rd first second (λ x y. word (int_shr (signed x *ℤ signed y) 32))
effect (Mulhsu rd first second) = on_two rd first second (λ x y. word (int_shr (signed x *ℤ pos y) 32))
effect (Mulhu rd first second) = on_two rd first second (λ x y. x * y / 2 ^ 32)
effect (Div rd first second) = on_two rd first second quotient
effect (Divu rd first second) = on_two rd first second (λ x y. if y == 0 then 2 ^ 32 - 1 else x / y)
effect (Rem rd first second) = on_two rd first second remainder
effect (Remu rd first second) = on_two rd first second (λ x y. if y == 0 then x else x % y)
effect Ecall = DoesCall

-- the part of an effect that holds no function
abbrev pub form_of : Effect → InstructionForm
form_of (DoesCompute rd first second value next) = Computes rd first second
form_of (DoesLoad kind rd base offset) = Loads kind rd base offset
form_of (DoesStore width base source offset) = Stores width base source offset
form_of DoesCall = Calls

abbrev pub value_of : Effect → ℕ → ℕ → ℕ → ℕ
value_of (DoesCompute rd first second value next) pc x y = value pc x y
value_of (DoesLoad kind rd base offset) pc x y = 0
value_of (DoesStore width base source offset) pc x y = 0
value_of DoesCall pc x y = 0

abbrev pub next_of : Effect → ℕ → ℕ → ℕ → ℕ
next_of (DoesCompute rd first second value next) pc x y = next pc x y
next_of (DoesLoad kind rd base offset) pc x y = plus pc 4
next_of (DoesStore width base source offset) pc x y = plus pc 4
next_of DoesCall pc x y = plus pc 4

unfoldable pub form : Inst → InstructionForm
form i = form_of (effect i)

-- the result, from the counter and the sources
unfoldable pub value : Inst → ℕ → ℕ → ℕ → ℕ
value i pc x y = value_of (effect i) pc x y

-- the counter after it
unfoldable pub next : Inst → ℕ → ℕ → ℕ → ℕ
next i pc x y = next_of (effect i) pc x y

-- ---- words

-- the bits from low on, count of them
abbrev pub field : ℕ → ℕ → ℕ → ℕ
field low count w = w / 2 ^ low % 2 ^ count

unfoldable pub imm_i : ℕ → ℤ
imm_i w = signed_in 12 (field 20 12 w)

unfoldable pub imm_s : ℕ → ℤ
imm_s w = signed_in 12 (field 25 7 w * 32 + field 7 5 w)

unfoldable pub imm_b : ℕ → ℤ
imm_b w = signed_in 13 (field 31 1 w * 2 ^ 12 + field 7 1 w * 2 ^ 11 + field 25 6 w * 32 + field 8 4 w * 2)

unfoldable pub imm_u : ℕ → ℤ
imm_u w = signed_in 32 (field 12 20 w * 2 ^ 12)

unfoldable pub imm_j : ℕ → ℤ
imm_j w = signed_in 21 (field 31 1 w * 2 ^ 20 + field 12 8 w * 2 ^ 12 + field 20 1 w * 2 ^ 11 + field 21 10 w * 2)

abbrev pub row : {X : Type 0} → List (Option X) → ℕ → Option X
row rows i = option_and_then (λ o. o) (slice_get rows i)

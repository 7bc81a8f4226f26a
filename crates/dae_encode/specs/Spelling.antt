-- The 32-bit words of the instructions, field by field (RISC-V unprivileged manual, "Base Instruction Formats" and
-- "Immediate Encoding Variants"), and what each instruction has in these fields ("RV32/64G Instruction Set Listings").
use Rattle.std.specs.Prelude.{◌≡◌, ℕ, ◌+◌, ◌-◌, ◌*◌, ◌%◌, ◌^◌, ◌<◌, ℤ, pos, neg_ℤ, ◌≤ℤ◌, ◌<ℤ◌, ◌==◌, List, [], ◌∷◌, Option}
use Rattle.std.specs.List.{find}
use Rattle.dae_base.specs.Words.{word}
use Rattle.dae_encode.specs.Instructions.{field, imm_i, imm_s, imm_b, imm_u, imm_j}
use Rattle.dae_encode.specs.declared.Inst.{Inst}
use Rattle.dae_encode.specs.declared.Inst.TheVariants.{Lui, Auipc, Jal, Jalr, Beq, Bne, Blt, Bge, Bltu, Bgeu, Lb, Lh, Lw, Lbu, Lhu, Sb, Sh, Sw, Addi, Slti, Sltiu, Xori, Ori, Andi, Slli, Srli, Srai, Add, Sub, Sll, Slt, Sltu, Xor, Srl, Sra, Or, And, Mul, Mulh, Mulhsu, Mulhu, Div, Divu, Rem, Remu, Ecall}

-- a format with what stands in its fields; Shift is the format I of a shift by a constant
pub data InstructionLayout : Type 0 where
  R : (opcode rd funct3 rs1 rs2 funct7 : ℕ) → InstructionLayout
  I : (opcode rd funct3 rs1 : ℕ) (imm : ℤ) → InstructionLayout
  Shift : (opcode rd funct3 rs1 : ℕ) (amount : ℤ) (funct7 : ℕ) → InstructionLayout
  S : (opcode funct3 rs1 rs2 : ℕ) (imm : ℤ) → InstructionLayout
  B : (opcode funct3 rs1 rs2 : ℕ) (imm : ℤ) → InstructionLayout
  U : (opcode rd : ℕ) (imm : ℤ) → InstructionLayout
  J : (opcode rd : ℕ) (imm : ℤ) → InstructionLayout

-- the bits of an immediate from low on, count of them
abbrev pub bits : ℕ → ℕ → ℤ → ℕ
bits low count imm = field low count (word imm)

-- the fields in their places, each at its lowest bit
abbrev pub in_places : InstructionLayout → ℕ
in_places (R opcode rd funct3 rs1 rs2 funct7) =
    opcode + rd * 2 ^ 7 + funct3 * 2 ^ 12 + rs1 * 2 ^ 15 + rs2 * 2 ^ 20 + funct7 * 2 ^ 25
in_places (I opcode rd funct3 rs1 imm) =
    opcode + rd * 2 ^ 7 + funct3 * 2 ^ 12 + rs1 * 2 ^ 15 + bits 0 12 imm * 2 ^ 20
in_places (Shift opcode rd funct3 rs1 amount funct7) =
    opcode + rd * 2 ^ 7 + funct3 * 2 ^ 12 + rs1 * 2 ^ 15 + bits 0 5 amount * 2 ^ 20 + funct7 * 2 ^ 25
in_places (S opcode funct3 rs1 rs2 imm) =
    opcode + bits 0 5 imm * 2 ^ 7 + funct3 * 2 ^ 12 + rs1 * 2 ^ 15 + rs2 * 2 ^ 20 + bits 5 7 imm * 2 ^ 25
in_places (B opcode funct3 rs1 rs2 imm) =
    opcode + bits 11 1 imm * 2 ^ 7 + bits 1 4 imm * 2 ^ 8 + funct3 * 2 ^ 12 + rs1 * 2 ^ 15 + rs2 * 2 ^ 20 + bits 5 6 imm * 2 ^ 25 + bits 12 1 imm * 2 ^ 31
in_places (U opcode rd imm) =
    opcode + rd * 2 ^ 7 + bits 12 20 imm * 2 ^ 12
in_places (J opcode rd imm) =
    opcode + rd * 2 ^ 7 + bits 12 8 imm * 2 ^ 12 + bits 11 1 imm * 2 ^ 20 + bits 1 10 imm * 2 ^ 21 + bits 20 1 imm * 2 ^ 31

-- a signed number of so many bits
abbrev pub IsSigned : ℕ → ℤ → Type 0
IsSigned count z = (neg_ℤ (pos (2 ^ (count - 1))) ≤ℤ z) × (z <ℤ pos (2 ^ (count - 1)))

-- registers are those from 0 to 31, and an immediate is one that its bits spell
abbrev pub Fits : InstructionLayout → Type 0
Fits (R opcode rd funct3 rs1 rs2 funct7) = (rd < 32) × (rs1 < 32) × (rs2 < 32)
Fits (I opcode rd funct3 rs1 imm) = (rd < 32) × (rs1 < 32) × IsSigned 12 imm
Fits (Shift opcode rd funct3 rs1 amount funct7) = (rd < 32) × (rs1 < 32) × ((pos 0 ≤ℤ amount) × (amount <ℤ pos 32))
Fits (S opcode funct3 rs1 rs2 imm) = (rs1 < 32) × (rs2 < 32) × IsSigned 12 imm
Fits (B opcode funct3 rs1 rs2 imm) = (rs1 < 32) × (rs2 < 32) × (IsSigned 13 imm × (word imm % 2 ≡ 0))
Fits (U opcode rd imm) = (rd < 32) × (IsSigned 32 imm × (word imm % 2 ^ 12 ≡ 0))
Fits (J opcode rd imm) = (rd < 32) × (IsSigned 21 imm × (word imm % 2 ≡ 0))

-- the listings
unfoldable pub layout : Inst → InstructionLayout
layout (Lui rd imm) = U 0b0110111 rd imm
layout (Auipc rd imm) = U 0b0010111 rd imm
layout (Jal rd imm) = J 0b1101111 rd imm
layout (Jalr rd rs1 imm) = I 0b1100111 rd 0b000 rs1 imm
layout (Beq rs1 rs2 imm) = B 0b1100011 0b000 rs1 rs2 imm
layout (Bne rs1 rs2 imm) = B 0b1100011 0b001 rs1 rs2 imm
layout (Blt rs1 rs2 imm) = B 0b1100011 0b100 rs1 rs2 imm
layout (Bge rs1 rs2 imm) = B 0b1100011 0b101 rs1 rs2 imm
layout (Bltu rs1 rs2 imm) = B 0b1100011 0b110 rs1 rs2 imm
layout (Bgeu rs1 rs2 imm) = B 0b1100011 0b111 rs1 rs2 imm
layout (Lb rd rs1 imm) = I 0b0000011 rd 0b000 rs1 imm
layout (Lh rd rs1 imm) = I 0b0000011 rd 0b001 rs1 imm
layout (Lw rd rs1 imm) = I 0b0000011 rd 0b010 rs1 imm
layout (Lbu rd rs1 imm) = I 0b0000011 rd 0b100 rs1 imm
layout (Lhu rd rs1 imm) = I 0b0000011 rd 0b101 rs1 imm
layout (Sb rs1 rs2 imm) = S 0b0100011 0b000 rs1 rs2 imm
layout (Sh rs1 rs2 imm) = S 0b0100011 0b001 rs1 rs2 imm
layout (Sw rs1 rs2 imm) = S 0b0100011 0b010 rs1 rs2 imm
layout (Addi rd rs1 imm) = I 0b0010011 rd 0b000 rs1 imm
layout (Slti rd rs1 imm) = I 0b0010011 rd 0b010 rs1 imm
layout (Sltiu rd rs1 imm) = I 0b0010011 rd 0b011 rs1 imm
layout (Xori rd rs1 imm) = I 0b0010011 rd 0b100 rs1 imm
layout (Ori rd rs1 imm) = I 0b0010011 rd 0b110 rs1 imm
layout (Andi rd rs1 imm) = I 0b0010011 rd 0b111 rs1 imm
layout (Slli rd rs1 amount) = Shift 0b0010011 rd 0b001 rs1 amount 0b0000000
layout (Srli rd rs1 amount) = Shift 0b0010011 rd 0b101 rs1 amount 0b0000000
layout (Srai rd rs1 amount) = Shift 0b0010011 rd 0b101 rs1 amount 0b0100000
layout (Add rd rs1 rs2) = R 0b0110011 rd 0b000 rs1 rs2 0b0000000
layout (Sub rd rs1 rs2) = R 0b0110011 rd 0b000 rs1 rs2 0b0100000
layout (Sll rd rs1 rs2) = R 0b0110011 rd 0b001 rs1 rs2 0b0000000
layout (Slt rd rs1 rs2) = R 0b0110011 rd 0b010 rs1 rs2 0b0000000
layout (Sltu rd rs1 rs2) = R 0b0110011 rd 0b011 rs1 rs2 0b0000000
layout (Xor rd rs1 rs2) = R 0b0110011 rd 0b100 rs1 rs2 0b0000000
layout (Srl rd rs1 rs2) = R 0b0110011 rd 0b101 rs1 rs2 0b0000000
layout (Sra rd rs1 rs2) = R 0b0110011 rd 0b101 rs1 rs2 0b0100000
layout (Or rd rs1 rs2) = R 0b0110011 rd 0b110 rs1 rs2 0b0000000
layout (And rd rs1 rs2) = R 0b0110011 rd 0b111 rs1 rs2 0b0000000
layout (Mul rd rs1 rs2) = R 0b0110011 rd 0b000 rs1 rs2 0b0000001
layout (Mulh rd rs1 rs2) = R 0b0110011 rd 0b001 rs1 rs2 0b0000001
layout (Mulhsu rd rs1 rs2) = R 0b0110011 rd 0b010 rs1 rs2 0b0000001
layout (Mulhu rd rs1 rs2) = R 0b0110011 rd 0b011 rs1 rs2 0b0000001
layout (Div rd rs1 rs2) = R 0b0110011 rd 0b100 rs1 rs2 0b0000001
layout (Divu rd rs1 rs2) = R 0b0110011 rd 0b101 rs1 rs2 0b0000001
layout (Rem rd rs1 rs2) = R 0b0110011 rd 0b110 rs1 rs2 0b0000001
layout (Remu rd rs1 rs2) = R 0b0110011 rd 0b111 rs1 rs2 0b0000001
layout Ecall = I 0b1110011 0 0b000 0 (pos 0)

-- the word of an instruction
unfoldable pub encoded : Inst → ℕ
encoded i = in_places (layout i)

-- each field of the instruction is one that its word can hold
unfoldable pub InRange : Inst → Type 0
InRange i = Fits (layout i)

-- the listings once more: every instruction, with these registers and immediates in its fields
abbrev pub listed : (rd rs1 rs2 : ℕ) (i s b u j : ℤ) → List Inst
listed rd rs1 rs2 i s b u j =
    Lui rd u ∷ (Auipc rd u ∷ (Jal rd j ∷ (Jalr rd rs1 i ∷
    (Beq rs1 rs2 b ∷ (Bne rs1 rs2 b ∷ (Blt rs1 rs2 b ∷ (Bge rs1 rs2 b ∷ (Bltu rs1 rs2 b ∷ (Bgeu rs1 rs2 b ∷
    (Lb rd rs1 i ∷ (Lh rd rs1 i ∷ (Lw rd rs1 i ∷ (Lbu rd rs1 i ∷ (Lhu rd rs1 i ∷
    (Sb rs1 rs2 s ∷ (Sh rs1 rs2 s ∷ (Sw rs1 rs2 s ∷
    (Addi rd rs1 i ∷ (Slti rd rs1 i ∷ (Sltiu rd rs1 i ∷ (Xori rd rs1 i ∷ (Ori rd rs1 i ∷ (Andi rd rs1 i ∷
    (Slli rd rs1 (pos rs2) ∷ (Srli rd rs1 (pos rs2) ∷ (Srai rd rs1 (pos rs2) ∷
    (Add rd rs1 rs2 ∷ (Sub rd rs1 rs2 ∷ (Sll rd rs1 rs2 ∷ (Slt rd rs1 rs2 ∷ (Sltu rd rs1 rs2 ∷ (Xor rd rs1 rs2 ∷ (Srl rd rs1 rs2 ∷ (Sra rd rs1 rs2 ∷ (Or rd rs1 rs2 ∷ (And rd rs1 rs2 ∷
    (Mul rd rs1 rs2 ∷ (Mulh rd rs1 rs2 ∷ (Mulhsu rd rs1 rs2 ∷ (Mulhu rd rs1 rs2 ∷ (Div rd rs1 rs2 ∷ (Divu rd rs1 rs2 ∷ (Rem rd rs1 rs2 ∷ (Remu rd rs1 rs2 ∷
    (Ecall ∷ [])))))))))))))))))))))))))))))))))))))))))))))

-- with what stands in the fields of this word
abbrev pub listed_for : ℕ → List Inst
listed_for w = listed (field 7 5 w) (field 15 5 w) (field 20 5 w) (imm_i w) (imm_s w) (imm_b w) (imm_u w) (imm_j w)

-- the instruction that a word spells: of those with what stands in its fields the one whose word it is
unfoldable pub decode : ℕ → Option Inst
decode w = find (λ i. encoded i == w) (listed_for w)

-- The names of the instructions, and the operands of each in the order in which a line has them
-- (RISC-V unprivileged manual, "RISC-V Assembly Programmer's Handbook").
use Rattle.std.specs.Prelude.{◌≡◌, ℕ, ◌/◌, ◌^◌, ℤ, pos, List, [], ◌∷◌, Option, Some, None, if◌then◌else◌, map, codes}
use Rattle.std.specs.Str.{bytes_eq}
use Rattle.dae_base.specs.Words.{word}
use Rattle.dae_encode.specs.Spelling.{InRange}
use Rattle.dae_encode.specs.declared.Inst.{Inst}
use Rattle.dae_encode.specs.declared.Inst.TheVariants.{Lui, Auipc, Jal, Jalr, Beq, Bne, Blt, Bge, Bltu, Bgeu, Lb, Lh, Lw, Lbu, Lhu, Sb, Sh, Sw, Addi, Slti, Sltiu, Xori, Ori, Andi, Slli, Srli, Srai, Add, Sub, Sll, Slt, Sltu, Xor, Srl, Sra, Or, And, Mul, Mulh, Mulhsu, Mulhu, Div, Divu, Rem, Remu, Ecall}
use Rattle.dae_asm_lines.specs.declared.instructions.TheConstants.{NAMED}
use Rattle.dae_asm_lines.specs.declared.Operands.{Operands}
use Rattle.dae_asm_lines.specs.declared.Operands.TheVariants.{Registers, Immediate, Based, Branch, Upper, Jump, Alone}

unfoldable pub name_of : Inst → List ℕ
name_of (Lui rd imm) = codes "lui"
name_of (Auipc rd imm) = codes "auipc"
name_of (Jal rd imm) = codes "jal"
name_of (Jalr rd rs1 imm) = codes "jalr"
name_of (Beq rs1 rs2 imm) = codes "beq"
name_of (Bne rs1 rs2 imm) = codes "bne"
name_of (Blt rs1 rs2 imm) = codes "blt"
name_of (Bge rs1 rs2 imm) = codes "bge"
name_of (Bltu rs1 rs2 imm) = codes "bltu"
name_of (Bgeu rs1 rs2 imm) = codes "bgeu"
name_of (Lb rd rs1 imm) = codes "lb"
name_of (Lh rd rs1 imm) = codes "lh"
name_of (Lw rd rs1 imm) = codes "lw"
name_of (Lbu rd rs1 imm) = codes "lbu"
name_of (Lhu rd rs1 imm) = codes "lhu"
name_of (Sb rs1 rs2 imm) = codes "sb"
name_of (Sh rs1 rs2 imm) = codes "sh"
name_of (Sw rs1 rs2 imm) = codes "sw"
name_of (Addi rd rs1 imm) = codes "addi"
name_of (Slti rd rs1 imm) = codes "slti"
name_of (Sltiu rd rs1 imm) = codes "sltiu"
name_of (Xori rd rs1 imm) = codes "xori"
name_of (Ori rd rs1 imm) = codes "ori"
name_of (Andi rd rs1 imm) = codes "andi"
name_of (Slli rd rs1 imm) = codes "slli"
name_of (Srli rd rs1 imm) = codes "srli"
name_of (Srai rd rs1 imm) = codes "srai"
name_of (Add rd rs1 rs2) = codes "add"
name_of (Sub rd rs1 rs2) = codes "sub"
name_of (Sll rd rs1 rs2) = codes "sll"
name_of (Slt rd rs1 rs2) = codes "slt"
name_of (Sltu rd rs1 rs2) = codes "sltu"
name_of (Xor rd rs1 rs2) = codes "xor"
name_of (Srl rd rs1 rs2) = codes "srl"
name_of (Sra rd rs1 rs2) = codes "sra"
name_of (Or rd rs1 rs2) = codes "or"
name_of (And rd rs1 rs2) = codes "and"
name_of (Mul rd rs1 rs2) = codes "mul"
name_of (Mulh rd rs1 rs2) = codes "mulh"
name_of (Mulhsu rd rs1 rs2) = codes "mulhsu"
name_of (Mulhu rd rs1 rs2) = codes "mulhu"
name_of (Div rd rs1 rs2) = codes "div"
name_of (Divu rd rs1 rs2) = codes "divu"
name_of (Rem rd rs1 rs2) = codes "rem"
name_of (Remu rd rs1 rs2) = codes "remu"
name_of Ecall = codes "ecall"

-- LUI and AUIPC have the bits from 12 on
unfoldable pub operands_of : Inst → Operands ℤ
operands_of (Lui rd imm) = Upper (pos rd) (pos (word imm / 2 ^ 12))
operands_of (Auipc rd imm) = Upper (pos rd) (pos (word imm / 2 ^ 12))
operands_of (Jal rd imm) = Jump (pos rd) imm
operands_of (Jalr rd rs1 imm) = Based (pos rd) imm (pos rs1)
operands_of (Beq rs1 rs2 imm) = Branch (pos rs1) (pos rs2) imm
operands_of (Bne rs1 rs2 imm) = Branch (pos rs1) (pos rs2) imm
operands_of (Blt rs1 rs2 imm) = Branch (pos rs1) (pos rs2) imm
operands_of (Bge rs1 rs2 imm) = Branch (pos rs1) (pos rs2) imm
operands_of (Bltu rs1 rs2 imm) = Branch (pos rs1) (pos rs2) imm
operands_of (Bgeu rs1 rs2 imm) = Branch (pos rs1) (pos rs2) imm
operands_of (Lb rd rs1 imm) = Based (pos rd) imm (pos rs1)
operands_of (Lh rd rs1 imm) = Based (pos rd) imm (pos rs1)
operands_of (Lw rd rs1 imm) = Based (pos rd) imm (pos rs1)
operands_of (Lbu rd rs1 imm) = Based (pos rd) imm (pos rs1)
operands_of (Lhu rd rs1 imm) = Based (pos rd) imm (pos rs1)
operands_of (Sb rs1 rs2 imm) = Based (pos rs2) imm (pos rs1)
operands_of (Sh rs1 rs2 imm) = Based (pos rs2) imm (pos rs1)
operands_of (Sw rs1 rs2 imm) = Based (pos rs2) imm (pos rs1)
operands_of (Addi rd rs1 imm) = Immediate (pos rd) (pos rs1) imm
operands_of (Slti rd rs1 imm) = Immediate (pos rd) (pos rs1) imm
operands_of (Sltiu rd rs1 imm) = Immediate (pos rd) (pos rs1) imm
operands_of (Xori rd rs1 imm) = Immediate (pos rd) (pos rs1) imm
operands_of (Ori rd rs1 imm) = Immediate (pos rd) (pos rs1) imm
operands_of (Andi rd rs1 imm) = Immediate (pos rd) (pos rs1) imm
operands_of (Slli rd rs1 imm) = Immediate (pos rd) (pos rs1) imm
operands_of (Srli rd rs1 imm) = Immediate (pos rd) (pos rs1) imm
operands_of (Srai rd rs1 imm) = Immediate (pos rd) (pos rs1) imm
operands_of (Add rd rs1 rs2) = Registers (pos rd) (pos rs1) (pos rs2)
operands_of (Sub rd rs1 rs2) = Registers (pos rd) (pos rs1) (pos rs2)
operands_of (Sll rd rs1 rs2) = Registers (pos rd) (pos rs1) (pos rs2)
operands_of (Slt rd rs1 rs2) = Registers (pos rd) (pos rs1) (pos rs2)
operands_of (Sltu rd rs1 rs2) = Registers (pos rd) (pos rs1) (pos rs2)
operands_of (Xor rd rs1 rs2) = Registers (pos rd) (pos rs1) (pos rs2)
operands_of (Srl rd rs1 rs2) = Registers (pos rd) (pos rs1) (pos rs2)
operands_of (Sra rd rs1 rs2) = Registers (pos rd) (pos rs1) (pos rs2)
operands_of (Or rd rs1 rs2) = Registers (pos rd) (pos rs1) (pos rs2)
operands_of (And rd rs1 rs2) = Registers (pos rd) (pos rs1) (pos rs2)
operands_of (Mul rd rs1 rs2) = Registers (pos rd) (pos rs1) (pos rs2)
operands_of (Mulh rd rs1 rs2) = Registers (pos rd) (pos rs1) (pos rs2)
operands_of (Mulhsu rd rs1 rs2) = Registers (pos rd) (pos rs1) (pos rs2)
operands_of (Mulhu rd rs1 rs2) = Registers (pos rd) (pos rs1) (pos rs2)
operands_of (Div rd rs1 rs2) = Registers (pos rd) (pos rs1) (pos rs2)
operands_of (Divu rd rs1 rs2) = Registers (pos rd) (pos rs1) (pos rs2)
operands_of (Rem rd rs1 rs2) = Registers (pos rd) (pos rs1) (pos rs2)
operands_of (Remu rd rs1 rs2) = Registers (pos rd) (pos rs1) (pos rs2)
operands_of Ecall = Alone

-- what the row with this name says
abbrev pub row_of : List (List ℕ × Inst) → List ℕ → Option Inst
row_of [] name = None
row_of (r ∷ rs) name = if bytes_eq name r.0 then Some r.1 else row_of rs name

-- one instruction of each name
unfoldable pub named : List ℕ → Option Inst
named name = row_of (map (λ r. (r.0.now, r.1)) NAMED) name

-- operands of one form
abbrev pub AreAlike : {S T : Type 0} → Operands S → Operands T → Type 0
AreAlike (Registers _ _ _) (Registers _ _ _) = Unit {0}
AreAlike (Immediate _ _ _) (Immediate _ _ _) = Unit {0}
AreAlike (Based _ _ _) (Based _ _ _) = Unit {0}
AreAlike (Branch _ _ _) (Branch _ _ _) = Unit {0}
AreAlike (Upper _ _) (Upper _ _) = Unit {0}
AreAlike (Jump _ _) (Jump _ _) = Unit {0}
AreAlike Alone Alone = Unit {0}
AreAlike _ _ = ⊥

-- the instruction of the same name with these operands, which its word can hold
pub record IsFilled (like : Inst) (operands : Operands ℤ) (i : Inst) : Type 0 where
  pub name : name_of i ≡ name_of like
  pub same : operands_of i ≡ operands
  pub range : InRange i

-- The instruction of a word, found by cases: by its opcode first, then by funct3 and funct7. It is the one that the listings give
-- (`decode` of Spelling), and only the functions that find it so speak of it.
use Rattle.std.specs.Prelude.{ℕ, ◌%◌, ℤ, pos, ◌==◌, if◌then◌else◌, List, [], ◌∷◌, Option, Some, None}
use Rattle.dae_encode.specs.Instructions.{field, row, imm_i, imm_s, imm_b, imm_u, imm_j}
use Rattle.dae_encode.specs.declared.Inst.{Inst}
use Rattle.dae_encode.specs.declared.Inst.TheVariants.{Lui, Auipc, Jal, Jalr, Beq, Bne, Blt, Bge, Bltu, Bgeu, Lb, Lh, Lw, Lbu, Lhu, Sb, Sh, Sw, Addi, Slti, Sltiu, Xori, Ori, Andi, Slli, Srli, Srai, Add, Sub, Sll, Slt, Sltu, Xor, Srl, Sra, Or, And, Mul, Mulh, Mulhsu, Mulhu, Div, Divu, Rem, Remu, Ecall}

unfoldable pub branches : ℕ → ℕ → ℕ → ℤ → Option Inst
branches f3 x y imm = row (Some (Beq x y imm) ∷ (Some (Bne x y imm) ∷ (None ∷ (None ∷ (Some (Blt x y imm) ∷ (Some (Bge x y imm) ∷ (Some (Bltu x y imm) ∷ (Some (Bgeu x y imm) ∷ [])))))))) f3

unfoldable pub loads : ℕ → ℕ → ℕ → ℤ → Option Inst
loads f3 rd x imm = row (Some (Lb rd x imm) ∷ (Some (Lh rd x imm) ∷ (Some (Lw rd x imm) ∷ (None ∷ (Some (Lbu rd x imm) ∷ (Some (Lhu rd x imm) ∷ [])))))) f3

unfoldable pub stores : ℕ → ℕ → ℕ → ℤ → Option Inst
stores f3 x y imm = row (Some (Sb x y imm) ∷ (Some (Sh x y imm) ∷ (Some (Sw x y imm) ∷ []))) f3

unfoldable pub immediates : ℕ → ℕ → ℕ → ℤ → Option Inst
immediates f3 rd x imm = row (Some (Addi rd x imm) ∷ (None ∷
    (Some (Slti rd x imm) ∷ (Some (Sltiu rd x imm) ∷ (Some (Xori rd x imm) ∷ (None ∷ (Some (Ori rd x imm) ∷ (Some (Andi rd x imm) ∷ [])))))))) f3

abbrev pub operations : ℕ → ℕ → ℕ → ℕ → Option Inst
operations f3 rd x y = row (Some (Add rd x y) ∷ (Some (Sll rd x y) ∷
    (Some (Slt rd x y) ∷ (Some (Sltu rd x y) ∷ (Some (Xor rd x y) ∷ (Some (Srl rd x y) ∷ (Some (Or rd x y) ∷ (Some (And rd x y) ∷ [])))))))) f3

abbrev pub multiplications : ℕ → ℕ → ℕ → ℕ → Option Inst
multiplications f3 rd x y = row (Some (Mul rd x y) ∷ (Some (Mulh rd x y) ∷
    (Some (Mulhsu rd x y) ∷ (Some (Mulhu rd x y) ∷ (Some (Div rd x y) ∷ (Some (Divu rd x y) ∷ (Some (Rem rd x y) ∷ (Some (Remu rd x y) ∷ [])))))))) f3

unfoldable pub shifts : ℕ → ℕ → ℕ → ℕ → ℕ → Option Inst
shifts f3 f7 rd x amount =
    if f3 == 1 then (if f7 == 0 then Some (Slli rd x (pos amount)) else None)
    else (if f7 == 0 then Some (Srli rd x (pos amount)) else (if f7 == 32 then Some (Srai rd x (pos amount)) else None))

unfoldable pub registers_only : ℕ → ℕ → ℕ → ℕ → ℕ → Option Inst
registers_only f3 f7 rd x y =
    if f7 == 0 then operations f3 rd x y
    else (if f7 == 1 then multiplications f3 rd x y
    else (if f7 == 32 then (if f3 == 0 then Some (Sub rd x y) else (if f3 == 5 then Some (Sra rd x y) else None)) else None))

abbrev pub by_opcode : ℕ → ℕ → ℕ → ℕ → ℕ → ℕ → ℕ → ℤ → ℤ → ℤ → ℤ → ℤ → Option Inst
by_opcode w op rd f3 rs1 rs2 f7 i s b u j =
    if op == 0b0110111 then Some (Lui rd u)
    else (if op == 0b0010111 then Some (Auipc rd u)
    else (if op == 0b1101111 then Some (Jal rd j)
    else (if op == 0b1100111 then (if f3 == 0 then Some (Jalr rd rs1 i) else None)
    else (if op == 0b1100011 then branches f3 rs1 rs2 b
    else (if op == 0b0000011 then loads f3 rd rs1 i
    else (if op == 0b0100011 then stores f3 rs1 rs2 s
    else (if op == 0b0010011 then (
    if f3 % 4 == 1 then shifts f3 f7 rd rs1 rs2
    else immediates f3 rd rs1 i)
    else (if op == 0b0110011 then registers_only f3 f7 rd rs1 rs2
    else (if w == 0x73 then Some Ecall else None)))))))))

-- by its opcode, rd, funct3, rs1, rs2 and funct7, and by its five immediates
unfoldable pub by_fields : ℕ → Option Inst
by_fields w =
    by_opcode w (field 0 7 w) (field 7 5 w) (field 12 3 w) (field 15 5 w) (field 20 5 w) (field 25 7 w) (imm_i w) (imm_s w) (imm_b w) (imm_u w) (imm_j w)

-- How the fields of an instruction are found from its operands. What its operands are is defined by
-- `operands_of`; only the functions that find them so speak of this.
use Rattle.std.specs.Prelude.{ℕ, ◌*◌, ◌^◌, nat_lt, ℤ, pos, negsuc, Option, Some, None, if◌then◌else◌}
use Rattle.dae_base.specs.Words.{signed}
use Rattle.dae_encode.specs.declared.Inst.{Inst}
use Rattle.dae_encode.specs.declared.Inst.TheVariants.{Lui, Auipc, Jal, Jalr, Beq, Bne, Blt, Bge, Bltu, Bgeu, Lb, Lh, Lw, Lbu, Lhu, Sb, Sh, Sw, Addi, Slti, Sltiu, Xori, Ori, Andi, Slli, Srli, Srai, Add, Sub, Sll, Slt, Sltu, Xor, Srl, Sra, Or, And, Mul, Mulh, Mulhsu, Mulhu, Div, Divu, Rem, Remu, Ecall}
use Rattle.dae_asm_lines.specs.declared.Operands.{Operands}
use Rattle.dae_asm_lines.specs.declared.Operands.TheVariants.{Registers, Immediate, Based, Branch, Upper, Jump, Alone}
use Rattle.dae_asm_lines.specs.declared.instructions.Fields.{Fields}
use Rattle.dae_asm_lines.specs.Reading.{◌>>=◌}

abbrev pub register_in : ℤ → Option ℕ
register_in (pos n) = if nat_lt n 32 then Some n else None
register_in (negsuc n) = None

abbrev pub immediate_in : ℤ → Option ℤ
immediate_in (pos n) = if nat_lt n (2 ^ 21) then Some (pos n) else None
immediate_in (negsuc n) = if nat_lt n (2 ^ 21) then Some (negsuc n) else None

abbrev pub upper_in : ℤ → Option ℤ
upper_in (pos n) = if nat_lt n (2 ^ 20) then Some (signed (n * 2 ^ 12)) else None
upper_in (negsuc n) = None

unfoldable pub fields_in : ℤ → ℤ → ℤ → Option ℤ → Option Fields
fields_in a b c n = do
  first ← register_in a
  second ← register_in b
  third ← register_in c
  number ← n
  Some (record { first = first; second = second; third = third; number = number })

unfoldable pub fields_of : Operands ℤ → Option Fields
fields_of (Registers a b c) = fields_in a b c (Some (pos 0))
fields_of (Immediate a b n) = fields_in a b (pos 0) (immediate_in n)
fields_of (Based a n b) = fields_in a b (pos 0) (immediate_in n)
fields_of (Branch a b n) = fields_in a b (pos 0) (immediate_in n)
fields_of (Upper a n) = fields_in a (pos 0) (pos 0) (upper_in n)
fields_of (Jump a n) = fields_in a (pos 0) (pos 0) (immediate_in n)
fields_of Alone = fields_in (pos 0) (pos 0) (pos 0) (Some (pos 0))

unfoldable pub with_fields : Inst → Fields → Inst
with_fields (Lui x y) f = Lui f.first f.number
with_fields (Auipc x y) f = Auipc f.first f.number
with_fields (Jal x y) f = Jal f.first f.number
with_fields (Jalr x y z) f = Jalr f.first f.second f.number
with_fields (Beq x y z) f = Beq f.first f.second f.number
with_fields (Bne x y z) f = Bne f.first f.second f.number
with_fields (Blt x y z) f = Blt f.first f.second f.number
with_fields (Bge x y z) f = Bge f.first f.second f.number
with_fields (Bltu x y z) f = Bltu f.first f.second f.number
with_fields (Bgeu x y z) f = Bgeu f.first f.second f.number
with_fields (Lb x y z) f = Lb f.first f.second f.number
with_fields (Lh x y z) f = Lh f.first f.second f.number
with_fields (Lw x y z) f = Lw f.first f.second f.number
with_fields (Lbu x y z) f = Lbu f.first f.second f.number
with_fields (Lhu x y z) f = Lhu f.first f.second f.number
with_fields (Sb x y z) f = Sb f.second f.first f.number
with_fields (Sh x y z) f = Sh f.second f.first f.number
with_fields (Sw x y z) f = Sw f.second f.first f.number
with_fields (Addi x y z) f = Addi f.first f.second f.number
with_fields (Slti x y z) f = Slti f.first f.second f.number
with_fields (Sltiu x y z) f = Sltiu f.first f.second f.number
with_fields (Xori x y z) f = Xori f.first f.second f.number
with_fields (Ori x y z) f = Ori f.first f.second f.number
with_fields (Andi x y z) f = Andi f.first f.second f.number
with_fields (Slli x y z) f = Slli f.first f.second f.number
with_fields (Srli x y z) f = Srli f.first f.second f.number
with_fields (Srai x y z) f = Srai f.first f.second f.number
with_fields (Add x y z) f = Add f.first f.second f.third
with_fields (Sub x y z) f = Sub f.first f.second f.third
with_fields (Sll x y z) f = Sll f.first f.second f.third
with_fields (Slt x y z) f = Slt f.first f.second f.third
with_fields (Sltu x y z) f = Sltu f.first f.second f.third
with_fields (Xor x y z) f = Xor f.first f.second f.third
with_fields (Srl x y z) f = Srl f.first f.second f.third
with_fields (Sra x y z) f = Sra f.first f.second f.third
with_fields (Or x y z) f = Or f.first f.second f.third
with_fields (And x y z) f = And f.first f.second f.third
with_fields (Mul x y z) f = Mul f.first f.second f.third
with_fields (Mulh x y z) f = Mulh f.first f.second f.third
with_fields (Mulhsu x y z) f = Mulhsu f.first f.second f.third
with_fields (Mulhu x y z) f = Mulhu f.first f.second f.third
with_fields (Div x y z) f = Div f.first f.second f.third
with_fields (Divu x y z) f = Divu f.first f.second f.third
with_fields (Rem x y z) f = Rem f.first f.second f.third
with_fields (Remu x y z) f = Remu f.first f.second f.third
with_fields Ecall f = Ecall

-- The operands of an instruction that a word spells are small.
use Rattle.std.proofs.Common.{◌≡◌, ℕ, suc, ◌<◌, ◌^◌, ◌/◌, ℤ, pos, negsuc, neg_ℤ, ◌≤ℤ◌, ◌<ℤ◌, refl, arith}
use Rattle.std.proofs.lemmas.Int.{ints}
use Rattle.dae_base.specs.Words.{word}
use Rattle.dae_encode.specs.Spelling.{InRange, IsSigned, layout}
use Rattle.dae_encode.specs.declared.Inst.{Inst}
use Rattle.dae_encode.specs.declared.Inst.TheVariants.{Lui, Auipc, Jal, Jalr, Beq, Bne, Blt, Bge, Bltu, Bgeu, Lb, Lh, Lw, Lbu, Lhu, Sb, Sh, Sw, Addi, Slti, Sltiu, Xori, Ori, Andi, Slli, Srli, Srai, Add, Sub, Sll, Slt, Sltu, Xor, Srl, Sra, Or, And, Mul, Mulh, Mulhsu, Mulhu, Div, Divu, Rem, Remu, Ecall}
use Rattle.dae_asm_lines.specs.declared.Operands.{Operands}
use Rattle.dae_asm_lines.specs.declared.Operands.TheVariants.{Registers, Immediate, Based, Branch, Upper, Jump, Alone}
use Rattle.dae_asm_lines.specs.Names.{operands_of}

-- the number of a register
abbrev pub IsSmallRegister : ℤ → Type 0
IsSmallRegister z = (r : ℕ) × ((z ≡ pos r) × (r < 32))

-- a number of at most seven digits
abbrev pub IsSmallNumber : ℤ → Type 0
IsSmallNumber (pos n) = n < 2 ^ 21
IsSmallNumber (negsuc n) = suc n < 2 ^ 21

abbrev pub AreSmall : Operands ℤ → Type 0
AreSmall (Registers a b c) = IsSmallRegister a × IsSmallRegister b × IsSmallRegister c
AreSmall (Immediate a b n) = IsSmallRegister a × IsSmallRegister b × IsSmallNumber n
AreSmall (Based a n b) = IsSmallRegister a × IsSmallNumber n × IsSmallRegister b
AreSmall (Branch a b n) = IsSmallRegister a × IsSmallRegister b × IsSmallNumber n
AreSmall (Upper a n) = IsSmallRegister a × IsSmallNumber n
AreSmall (Jump a n) = IsSmallRegister a × IsSmallNumber n
AreSmall Alone = Unit {0}

by_bounds : (z : ℤ) → neg_ℤ (pos (2 ^ 20)) ≤ℤ z → z <ℤ pos (2 ^ 20) → IsSmallNumber z
by_bounds (pos n) low high = omega (arith, ints)
by_bounds (negsuc n) low high = omega (arith, ints)

twelve : (z : ℤ) → IsSigned 12 z → IsSmallNumber z
twelve z h = by_bounds z (omega (arith, ints, h.0)) (omega (arith, ints, h.1))

thirteen : (z : ℤ) → IsSigned 13 z → IsSmallNumber z
thirteen z h = by_bounds z (omega (arith, ints, h.0)) (omega (arith, ints, h.1))

twenty_one : (z : ℤ) → IsSigned 21 z → IsSmallNumber z
twenty_one z h = by_bounds z h.0 h.1

shift : (z : ℤ) → pos 0 ≤ℤ z → z <ℤ pos 32 → IsSmallNumber z
shift z low high = by_bounds z (omega (arith, ints)) (omega (arith, ints))

pub word_is_small : (z : ℤ) → IsSigned 32 z → word z < 2 ^ 32
word_is_small z h = grind (arith, ints)

upper : (z : ℤ) → IsSigned 32 z → IsSmallNumber (pos (word z / 2 ^ 12))
upper z h = let small = word_is_small z h in omega arith

register : (r : ℕ) → r < 32 → IsSmallRegister (pos r)
register r h = (r, (refl, h))

pub are_small : (i : Inst) → InRange i → AreSmall (operands_of i)
unfolding InRange layout operands_of
are_small (Lui x y) h = (register x h.0, upper y h.1.0)
are_small (Auipc x y) h = (register x h.0, upper y h.1.0)
are_small (Jal x y) h = (register x h.0, twenty_one y h.1.0)
are_small (Jalr x y z) h = (register x h.0, twelve z h.2, register y h.1)
are_small (Beq x y z) h = (register x h.0, register y h.1, thirteen z h.2.0)
are_small (Bne x y z) h = (register x h.0, register y h.1, thirteen z h.2.0)
are_small (Blt x y z) h = (register x h.0, register y h.1, thirteen z h.2.0)
are_small (Bge x y z) h = (register x h.0, register y h.1, thirteen z h.2.0)
are_small (Bltu x y z) h = (register x h.0, register y h.1, thirteen z h.2.0)
are_small (Bgeu x y z) h = (register x h.0, register y h.1, thirteen z h.2.0)
are_small (Lb x y z) h = (register x h.0, twelve z h.2, register y h.1)
are_small (Lh x y z) h = (register x h.0, twelve z h.2, register y h.1)
are_small (Lw x y z) h = (register x h.0, twelve z h.2, register y h.1)
are_small (Lbu x y z) h = (register x h.0, twelve z h.2, register y h.1)
are_small (Lhu x y z) h = (register x h.0, twelve z h.2, register y h.1)
are_small (Sb x y z) h = (register y h.1, twelve z h.2, register x h.0)
are_small (Sh x y z) h = (register y h.1, twelve z h.2, register x h.0)
are_small (Sw x y z) h = (register y h.1, twelve z h.2, register x h.0)
are_small (Addi x y z) h = (register x h.0, register y h.1, twelve z h.2)
are_small (Slti x y z) h = (register x h.0, register y h.1, twelve z h.2)
are_small (Sltiu x y z) h = (register x h.0, register y h.1, twelve z h.2)
are_small (Xori x y z) h = (register x h.0, register y h.1, twelve z h.2)
are_small (Ori x y z) h = (register x h.0, register y h.1, twelve z h.2)
are_small (Andi x y z) h = (register x h.0, register y h.1, twelve z h.2)
are_small (Slli x y z) h = (register x h.0, register y h.1, shift z h.2.0 h.2.1)
are_small (Srli x y z) h = (register x h.0, register y h.1, shift z h.2.0 h.2.1)
are_small (Srai x y z) h = (register x h.0, register y h.1, shift z h.2.0 h.2.1)
are_small (Add x y z) h = (register x h.0, register y h.1, register z h.2)
are_small (Sub x y z) h = (register x h.0, register y h.1, register z h.2)
are_small (Sll x y z) h = (register x h.0, register y h.1, register z h.2)
are_small (Slt x y z) h = (register x h.0, register y h.1, register z h.2)
are_small (Sltu x y z) h = (register x h.0, register y h.1, register z h.2)
are_small (Xor x y z) h = (register x h.0, register y h.1, register z h.2)
are_small (Srl x y z) h = (register x h.0, register y h.1, register z h.2)
are_small (Sra x y z) h = (register x h.0, register y h.1, register z h.2)
are_small (Or x y z) h = (register x h.0, register y h.1, register z h.2)
are_small (And x y z) h = (register x h.0, register y h.1, register z h.2)
are_small (Mul x y z) h = (register x h.0, register y h.1, register z h.2)
are_small (Mulh x y z) h = (register x h.0, register y h.1, register z h.2)
are_small (Mulhsu x y z) h = (register x h.0, register y h.1, register z h.2)
are_small (Mulhu x y z) h = (register x h.0, register y h.1, register z h.2)
are_small (Div x y z) h = (register x h.0, register y h.1, register z h.2)
are_small (Divu x y z) h = (register x h.0, register y h.1, register z h.2)
are_small (Rem x y z) h = (register x h.0, register y h.1, register z h.2)
are_small (Remu x y z) h = (register x h.0, register y h.1, register z h.2)
are_small Ecall h = tt

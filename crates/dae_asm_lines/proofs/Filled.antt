-- The instruction with given operands.
use Rattle.std.proofs.Common.{◌≡◌, ℕ, ◌-◌, ◌*◌, ◌/◌, ◌%◌, ◌^◌, ◌<◌, ◌≤◌, nat_lt, ℤ, pos, negsuc, neg_ℤ, ◌≤ℤ◌, ◌<ℤ◌, Bool, true, false, if◌then◌else◌, Option, Some, None, refl, sym, ap, ◌∙◌, subst, arith}
use Rattle.std.proofs.Common.{lit<}
use Rattle.std.specs.Int.{w32}
use Rattle.std.proofs.lemmas.Int.{ints, of_z-to_z}
use Rattle.std.proofs.lemmas.Bool.Decides.{nat_tests}
use Rattle.dae_base.specs.Words.{word, signed}
use Rattle.dae_encode.specs.Spelling.{InRange, IsSigned, layout}
use Rattle.dae_encode.specs.declared.Inst.{Inst}
use Rattle.dae_encode.specs.declared.Inst.TheVariants.{Lui, Auipc, Jal, Jalr, Beq, Bne, Blt, Bge, Bltu, Bgeu, Lb, Lh, Lw, Lbu, Lhu, Sb, Sh, Sw, Addi, Slti, Sltiu, Xori, Ori, Andi, Slli, Srli, Srai, Add, Sub, Sll, Slt, Sltu, Xor, Srl, Sra, Or, And, Mul, Mulh, Mulhsu, Mulhu, Div, Divu, Rem, Remu, Ecall}
use Rattle.dae_asm_lines.specs.declared.Operands.{Operands}
use Rattle.dae_asm_lines.specs.declared.Operands.TheVariants.{Registers, Immediate, Based, Branch, Upper, Jump, Alone}
use Rattle.dae_asm_lines.specs.declared.instructions.Fields.{Fields}
use Rattle.dae_asm_lines.specs.Names.{name_of, operands_of, named, AreAlike, IsFilled}
use Rattle.dae_asm_lines.specs.Filling.{register_in, immediate_in, upper_in, fields_in, fields_of, with_fields}
use Rattle.dae_asm_lines.proofs.Steps.{came}

-- ---- one name, one instruction but for its operands

blank : Inst → Inst
blank i = with_fields i (record { first = 0; second = 0; third = 0; number = pos 0 })

named_of : (i : Inst) → named (name_of i) ≡ Some (blank i)
unfolding named name_of with_fields blank
named_of (Lui x y) = refl
named_of (Auipc x y) = refl
named_of (Jal x y) = refl
named_of (Jalr x y z) = refl
named_of (Beq x y z) = refl
named_of (Bne x y z) = refl
named_of (Blt x y z) = refl
named_of (Bge x y z) = refl
named_of (Bltu x y z) = refl
named_of (Bgeu x y z) = refl
named_of (Lb x y z) = refl
named_of (Lh x y z) = refl
named_of (Lw x y z) = refl
named_of (Lbu x y z) = refl
named_of (Lhu x y z) = refl
named_of (Sb x y z) = refl
named_of (Sh x y z) = refl
named_of (Sw x y z) = refl
named_of (Addi x y z) = refl
named_of (Slti x y z) = refl
named_of (Sltiu x y z) = refl
named_of (Xori x y z) = refl
named_of (Ori x y z) = refl
named_of (Andi x y z) = refl
named_of (Slli x y z) = refl
named_of (Srli x y z) = refl
named_of (Srai x y z) = refl
named_of (Add x y z) = refl
named_of (Sub x y z) = refl
named_of (Sll x y z) = refl
named_of (Slt x y z) = refl
named_of (Sltu x y z) = refl
named_of (Xor x y z) = refl
named_of (Srl x y z) = refl
named_of (Sra x y z) = refl
named_of (Or x y z) = refl
named_of (And x y z) = refl
named_of (Mul x y z) = refl
named_of (Mulh x y z) = refl
named_of (Mulhsu x y z) = refl
named_of (Mulhu x y z) = refl
named_of (Div x y z) = refl
named_of (Divu x y z) = refl
named_of (Rem x y z) = refl
named_of (Remu x y z) = refl
named_of Ecall = refl

with_blank : (i : Inst) (f : Fields) → with_fields (blank i) f ≡ with_fields i f
unfolding with_fields blank
with_blank (Lui x y) f = refl
with_blank (Auipc x y) f = refl
with_blank (Jal x y) f = refl
with_blank (Jalr x y z) f = refl
with_blank (Beq x y z) f = refl
with_blank (Bne x y z) f = refl
with_blank (Blt x y z) f = refl
with_blank (Bge x y z) f = refl
with_blank (Bltu x y z) f = refl
with_blank (Bgeu x y z) f = refl
with_blank (Lb x y z) f = refl
with_blank (Lh x y z) f = refl
with_blank (Lw x y z) f = refl
with_blank (Lbu x y z) f = refl
with_blank (Lhu x y z) f = refl
with_blank (Sb x y z) f = refl
with_blank (Sh x y z) f = refl
with_blank (Sw x y z) f = refl
with_blank (Addi x y z) f = refl
with_blank (Slti x y z) f = refl
with_blank (Sltiu x y z) f = refl
with_blank (Xori x y z) f = refl
with_blank (Ori x y z) f = refl
with_blank (Andi x y z) f = refl
with_blank (Slli x y z) f = refl
with_blank (Srli x y z) f = refl
with_blank (Srai x y z) f = refl
with_blank (Add x y z) f = refl
with_blank (Sub x y z) f = refl
with_blank (Sll x y z) f = refl
with_blank (Slt x y z) f = refl
with_blank (Sltu x y z) f = refl
with_blank (Xor x y z) f = refl
with_blank (Srl x y z) f = refl
with_blank (Sra x y z) f = refl
with_blank (Or x y z) f = refl
with_blank (And x y z) f = refl
with_blank (Mul x y z) f = refl
with_blank (Mulh x y z) f = refl
with_blank (Mulhsu x y z) f = refl
with_blank (Mulhu x y z) f = refl
with_blank (Div x y z) f = refl
with_blank (Divu x y z) f = refl
with_blank (Rem x y z) f = refl
with_blank (Remu x y z) f = refl
with_blank Ecall f = refl

pub name_kept : (i : Inst) (f : Fields) → name_of (with_fields i f) ≡ name_of i
unfolding with_fields name_of
name_kept (Lui x y) f = refl
name_kept (Auipc x y) f = refl
name_kept (Jal x y) f = refl
name_kept (Jalr x y z) f = refl
name_kept (Beq x y z) f = refl
name_kept (Bne x y z) f = refl
name_kept (Blt x y z) f = refl
name_kept (Bge x y z) f = refl
name_kept (Bltu x y z) f = refl
name_kept (Bgeu x y z) f = refl
name_kept (Lb x y z) f = refl
name_kept (Lh x y z) f = refl
name_kept (Lw x y z) f = refl
name_kept (Lbu x y z) f = refl
name_kept (Lhu x y z) f = refl
name_kept (Sb x y z) f = refl
name_kept (Sh x y z) f = refl
name_kept (Sw x y z) f = refl
name_kept (Addi x y z) f = refl
name_kept (Slti x y z) f = refl
name_kept (Sltiu x y z) f = refl
name_kept (Xori x y z) f = refl
name_kept (Ori x y z) f = refl
name_kept (Andi x y z) f = refl
name_kept (Slli x y z) f = refl
name_kept (Srli x y z) f = refl
name_kept (Srai x y z) f = refl
name_kept (Add x y z) f = refl
name_kept (Sub x y z) f = refl
name_kept (Sll x y z) f = refl
name_kept (Slt x y z) f = refl
name_kept (Sltu x y z) f = refl
name_kept (Xor x y z) f = refl
name_kept (Srl x y z) f = refl
name_kept (Sra x y z) f = refl
name_kept (Or x y z) f = refl
name_kept (And x y z) f = refl
name_kept (Mul x y z) f = refl
name_kept (Mulh x y z) f = refl
name_kept (Mulhsu x y z) f = refl
name_kept (Mulhu x y z) f = refl
name_kept (Div x y z) f = refl
name_kept (Divu x y z) f = refl
name_kept (Rem x y z) f = refl
name_kept (Remu x y z) f = refl
name_kept Ecall f = refl

-- instructions of one name with the same fields are the same
pub with_same : (i j : Inst) (f : Fields) → name_of i ≡ name_of j → with_fields i f ≡ with_fields j f
with_same i j f e =
    let a = named_of i in
    let b = named_of j in
    let same : blank i ≡ blank j = cc in
    sym (with_blank i f) ∙ ap (λ (k : Inst). with_fields k f) same ∙ with_blank j f

-- ---- fields of operands

register_was : (z : ℤ) (n : ℕ) → register_in z ≡ Some n → z ≡ pos n
register_was (pos m) n e = by_test (nat_lt m 32) refl e
  where
    by_test : (t : Bool) → nat_lt m 32 ≡ t → (if t then Some m else None) ≡ Some n → pos m ≡ pos n
    by_test true h e = let same : m ≡ n = cc in ap pos same
    by_test false h e = absurd cc
register_was (negsuc m) n e = absurd cc

immediate_was : (z y : ℤ) → immediate_in z ≡ Some y → z ≡ y
immediate_was (pos m) y e = by_test (nat_lt m (2 ^ 21)) refl e
  where
    by_test : (t : Bool) → nat_lt m (2 ^ 21) ≡ t → (if t then Some (pos m) else None) ≡ Some y → pos m ≡ y
    by_test true h e = cc
    by_test false h e = absurd cc
immediate_was (negsuc m) y e = by_test (nat_lt m (2 ^ 21)) refl e
  where
    by_test : (t : Bool) → nat_lt m (2 ^ 21) ≡ t → (if t then Some (negsuc m) else None) ≡ Some y → negsuc m ≡ y
    by_test true h e = cc
    by_test false h e = absurd cc

pub record Were (a b c : ℤ) (n : Option ℤ) (f : Fields) : Type 0 where
  pub first : a ≡ pos f.first
  pub second : b ≡ pos f.second
  pub third : c ≡ pos f.third
  pub number : n ≡ Some f.number

fields_were : (a b c : ℤ) (n : Option ℤ) (f : Fields) → fields_in a b c n ≡ Some f → Were a b c n f
unfolding fields_in
fields_were a b c n f e =
    let x = came (register_in a) _ f e in
    let y = came (register_in b) _ f x.gave in
    let z = came (register_in c) _ f y.gave in
    let w = came n _ f z.gave in
    let same : record { first = x.from; second = y.from; third = z.from; number = w.from } ≡ f = cc in
    let P : Fields → Type 0 = λ g. Were a b c n g in
    subst P same (record { first = register_was a x.from x.was; second = register_was b y.from y.was; third = register_was c z.from z.was; number = w.was })

registers_filled : (os : Operands ℤ) (f : Fields) (a b c : ℤ) → AreAlike {S = ℤ} (Registers a b c) os → fields_of os ≡ Some f → Registers (pos f.first) (pos f.second) (pos f.third) ≡ os
unfolding fields_of
registers_filled (Registers x y z) f a b c alike e = let w = fields_were x y z (Some (pos 0)) f e in let p = w.first in let q = w.second in let r = w.third in cc
registers_filled _ f a b c alike e = absurd alike

immediate_filled : (os : Operands ℤ) (f : Fields) (a b c : ℤ) → AreAlike {S = ℤ} (Immediate a b c) os → fields_of os ≡ Some f → Immediate (pos f.first) (pos f.second) f.number ≡ os
unfolding fields_of
immediate_filled (Immediate x y n) f a b c alike e = let w = fields_were x y (pos 0) (immediate_in n) f e in let p = w.first in let q = w.second in let r = immediate_was n f.number w.number in cc
immediate_filled _ f a b c alike e = absurd alike

based_filled : (os : Operands ℤ) (f : Fields) (a b c : ℤ) → AreAlike {S = ℤ} (Based a b c) os → fields_of os ≡ Some f → Based (pos f.first) f.number (pos f.second) ≡ os
unfolding fields_of
based_filled (Based x n y) f a b c alike e = let w = fields_were x y (pos 0) (immediate_in n) f e in let p = w.first in let q = w.second in let r = immediate_was n f.number w.number in cc
based_filled _ f a b c alike e = absurd alike

branch_filled : (os : Operands ℤ) (f : Fields) (a b c : ℤ) → AreAlike {S = ℤ} (Branch a b c) os → fields_of os ≡ Some f → Branch (pos f.first) (pos f.second) f.number ≡ os
unfolding fields_of
branch_filled (Branch x y n) f a b c alike e = let w = fields_were x y (pos 0) (immediate_in n) f e in let p = w.first in let q = w.second in let r = immediate_was n f.number w.number in cc
branch_filled _ f a b c alike e = absurd alike

-- the number of a word and back
word_there : (n : ℕ) → n < 2 ^ 32 → word (signed n) ≡ n
word_there n h = of_z-to_z w32 n h

word_back : (z : ℤ) → IsSigned 32 z → (word z < 2 ^ 32) × (signed (word z) ≡ z)
word_back z h = (grind (arith, ints), grind (arith, ints))

upper_of : (m : ℕ) (y : ℤ) → m < 2 ^ 20 → signed (m * 2 ^ 12) ≡ y → word y / 2 ^ 12 ≡ m
upper_of m y h e =
    let there : word (signed (m * 2 ^ 12)) ≡ m * 2 ^ 12 = word_there (m * 2 ^ 12) (omega arith) in
    let same : word y ≡ m * 2 ^ 12 = ap (λ (x : ℤ). word x) (sym e) ∙ there in
    let whole : m * 2 ^ 12 / 2 ^ 12 ≡ m = omega arith in
    ap (λ (x : ℕ). x / 2 ^ 12) same ∙ whole

upper_was : (z y : ℤ) → upper_in z ≡ Some y → z ≡ pos (word y / 2 ^ 12)
upper_was (pos m) y e = by_test (nat_lt m (2 ^ 20)) refl e
  where
    by_test : (t : Bool) → nat_lt m (2 ^ 20) ≡ t → (if t then Some (signed (m * 2 ^ 12)) else None) ≡ Some y → pos m ≡ pos (word y / 2 ^ 12)
    by_test true h e =
        let small : m < 2 ^ 20 = grind (arith, nat_tests) in
        let same : signed (m * 2 ^ 12) ≡ y = cc in
        sym (ap pos (upper_of m y small same))
    by_test false h e = absurd cc
upper_was (negsuc m) y e = absurd cc

upper_filled : (os : Operands ℤ) (f : Fields) (a b : ℤ) → AreAlike {S = ℤ} (Upper a b) os → fields_of os ≡ Some f → Upper (pos f.first) (pos (word f.number / 2 ^ 12)) ≡ os
unfolding fields_of
upper_filled (Upper x n) f a b alike e = let w = fields_were x (pos 0) (pos 0) (upper_in n) f e in let p = w.first in let r = upper_was n f.number w.number in cc
upper_filled _ f a b alike e = absurd alike

jump_filled : (os : Operands ℤ) (f : Fields) (a b : ℤ) → AreAlike {S = ℤ} (Jump a b) os → fields_of os ≡ Some f → Jump (pos f.first) f.number ≡ os
unfolding fields_of
jump_filled (Jump x n) f a b alike e = let w = fields_were x (pos 0) (pos 0) (immediate_in n) f e in let p = w.first in let r = immediate_was n f.number w.number in cc
jump_filled _ f a b alike e = absurd alike

alone_filled : (os : Operands ℤ) → AreAlike {S = ℤ} Alone os → Alone ≡ os
alone_filled Alone alike = refl
alone_filled _ alike = absurd alike

pub operands_filled : (like : Inst) (os : Operands ℤ) (f : Fields) → AreAlike (operands_of like) os → fields_of os ≡ Some f → operands_of (with_fields like f) ≡ os
unfolding operands_of with_fields
operands_filled (Lui x y) os f alike e = upper_filled os f (pos x) (pos (word y / 2 ^ 12)) alike e
operands_filled (Auipc x y) os f alike e = upper_filled os f (pos x) (pos (word y / 2 ^ 12)) alike e
operands_filled (Jal x y) os f alike e = jump_filled os f (pos x) y alike e
operands_filled (Jalr x y z) os f alike e = based_filled os f (pos x) z (pos y) alike e
operands_filled (Beq x y z) os f alike e = branch_filled os f (pos x) (pos y) z alike e
operands_filled (Bne x y z) os f alike e = branch_filled os f (pos x) (pos y) z alike e
operands_filled (Blt x y z) os f alike e = branch_filled os f (pos x) (pos y) z alike e
operands_filled (Bge x y z) os f alike e = branch_filled os f (pos x) (pos y) z alike e
operands_filled (Bltu x y z) os f alike e = branch_filled os f (pos x) (pos y) z alike e
operands_filled (Bgeu x y z) os f alike e = branch_filled os f (pos x) (pos y) z alike e
operands_filled (Lb x y z) os f alike e = based_filled os f (pos x) z (pos y) alike e
operands_filled (Lh x y z) os f alike e = based_filled os f (pos x) z (pos y) alike e
operands_filled (Lw x y z) os f alike e = based_filled os f (pos x) z (pos y) alike e
operands_filled (Lbu x y z) os f alike e = based_filled os f (pos x) z (pos y) alike e
operands_filled (Lhu x y z) os f alike e = based_filled os f (pos x) z (pos y) alike e
operands_filled (Sb x y z) os f alike e = based_filled os f (pos y) z (pos x) alike e
operands_filled (Sh x y z) os f alike e = based_filled os f (pos y) z (pos x) alike e
operands_filled (Sw x y z) os f alike e = based_filled os f (pos y) z (pos x) alike e
operands_filled (Addi x y z) os f alike e = immediate_filled os f (pos x) (pos y) z alike e
operands_filled (Slti x y z) os f alike e = immediate_filled os f (pos x) (pos y) z alike e
operands_filled (Sltiu x y z) os f alike e = immediate_filled os f (pos x) (pos y) z alike e
operands_filled (Xori x y z) os f alike e = immediate_filled os f (pos x) (pos y) z alike e
operands_filled (Ori x y z) os f alike e = immediate_filled os f (pos x) (pos y) z alike e
operands_filled (Andi x y z) os f alike e = immediate_filled os f (pos x) (pos y) z alike e
operands_filled (Slli x y z) os f alike e = immediate_filled os f (pos x) (pos y) z alike e
operands_filled (Srli x y z) os f alike e = immediate_filled os f (pos x) (pos y) z alike e
operands_filled (Srai x y z) os f alike e = immediate_filled os f (pos x) (pos y) z alike e
operands_filled (Add x y z) os f alike e = registers_filled os f (pos x) (pos y) (pos z) alike e
operands_filled (Sub x y z) os f alike e = registers_filled os f (pos x) (pos y) (pos z) alike e
operands_filled (Sll x y z) os f alike e = registers_filled os f (pos x) (pos y) (pos z) alike e
operands_filled (Slt x y z) os f alike e = registers_filled os f (pos x) (pos y) (pos z) alike e
operands_filled (Sltu x y z) os f alike e = registers_filled os f (pos x) (pos y) (pos z) alike e
operands_filled (Xor x y z) os f alike e = registers_filled os f (pos x) (pos y) (pos z) alike e
operands_filled (Srl x y z) os f alike e = registers_filled os f (pos x) (pos y) (pos z) alike e
operands_filled (Sra x y z) os f alike e = registers_filled os f (pos x) (pos y) (pos z) alike e
operands_filled (Or x y z) os f alike e = registers_filled os f (pos x) (pos y) (pos z) alike e
operands_filled (And x y z) os f alike e = registers_filled os f (pos x) (pos y) (pos z) alike e
operands_filled (Mul x y z) os f alike e = registers_filled os f (pos x) (pos y) (pos z) alike e
operands_filled (Mulh x y z) os f alike e = registers_filled os f (pos x) (pos y) (pos z) alike e
operands_filled (Mulhsu x y z) os f alike e = registers_filled os f (pos x) (pos y) (pos z) alike e
operands_filled (Mulhu x y z) os f alike e = registers_filled os f (pos x) (pos y) (pos z) alike e
operands_filled (Div x y z) os f alike e = registers_filled os f (pos x) (pos y) (pos z) alike e
operands_filled (Divu x y z) os f alike e = registers_filled os f (pos x) (pos y) (pos z) alike e
operands_filled (Rem x y z) os f alike e = registers_filled os f (pos x) (pos y) (pos z) alike e
operands_filled (Remu x y z) os f alike e = registers_filled os f (pos x) (pos y) (pos z) alike e
operands_filled Ecall os f alike e = alone_filled os alike

-- ---- and back: each instruction in range is made of its fields

small_register : (n : ℕ) → n < 32 → register_in (pos n) ≡ Some n
small_register n h = let t : nat_lt n 32 ≡ true = grind (arith, nat_tests) in rw t refl

small_immediate : (z : ℤ) → neg_ℤ (pos (2 ^ 21)) ≤ℤ z → z <ℤ pos (2 ^ 21) → immediate_in z ≡ Some z
small_immediate (pos n) low high = let t : nat_lt n (2 ^ 21) ≡ true = grind (arith, nat_tests, ints) in rw t refl
small_immediate (negsuc n) low high = let t : nat_lt n (2 ^ 21) ≡ true = grind (arith, nat_tests, ints) in rw t refl

-- the fields of operands that fit
pub record Made (i : Inst) : Type 0 where
  pub f : Fields
  pub found : fields_of (operands_of i) ≡ Some f
  pub again : with_fields i f ≡ i

three_fields : (a b c : ℕ) → a < 32 → b < 32 → c < 32 → fields_in (pos a) (pos b) (pos c) (Some (pos 0)) ≡ Some (record { first = a; second = b; third = c; number = pos 0 })
unfolding fields_in
three_fields a b c ha hb hc = let x = small_register a ha in let y = small_register b hb in let z = small_register c hc in rw (x, y, z) refl

two_fields : (a b : ℕ) (n : ℤ) → a < 32 → b < 32 → immediate_in n ≡ Some n → fields_in (pos a) (pos b) (pos 0) (immediate_in n) ≡ Some (record { first = a; second = b; third = 0; number = n })
unfolding fields_in
two_fields a b n ha hb h = let x = small_register a ha in let y = small_register b hb in rw (x, y, h) refl

one_field : (a : ℕ) (o : Option ℤ) (n : ℤ) → a < 32 → o ≡ Some n → fields_in (pos a) (pos 0) (pos 0) o ≡ Some (record { first = a; second = 0; third = 0; number = n })
unfolding fields_in
one_field a o n ha h = let x = small_register a ha in rw (x, h) refl

by_twelve : (z : ℤ) → IsSigned 12 z → immediate_in z ≡ Some z
by_twelve z h = small_immediate z (omega (arith, ints, h.0)) (omega (arith, ints, h.1))

by_thirteen : (z : ℤ) → IsSigned 13 z → immediate_in z ≡ Some z
by_thirteen z h = small_immediate z (omega (arith, ints, h.0)) (omega (arith, ints, h.1))

by_twenty_one : (z : ℤ) → IsSigned 21 z → immediate_in z ≡ Some z
by_twenty_one z h = small_immediate z (omega (arith, ints, h.0)) (omega (arith, ints, h.1))

by_shift : (z : ℤ) → pos 0 ≤ℤ z → z <ℤ pos 32 → immediate_in z ≡ Some z
by_shift z low high = small_immediate z (omega (arith, ints)) (omega (arith, ints))

upper_from : (n : ℕ) (z : ℤ) → n < 2 ^ 32 → n % 2 ^ 12 ≡ 0 → signed n ≡ z → upper_in (pos (n / 2 ^ 12)) ≡ Some z
upper_from n z fits whole back =
    let small : nat_lt (n / 2 ^ 12) (2 ^ 20) ≡ true = grind (arith, nat_tests) in
    let full : n / 2 ^ 12 * 2 ^ 12 ≡ n = omega arith in
    let same : signed (n / 2 ^ 12 * 2 ^ 12) ≡ z = ap (λ (x : ℕ). signed x) full ∙ back in
    rw small (ap (λ (x : ℤ). Some x) same)

upper_again : (z : ℤ) → IsSigned 32 z → word z % 2 ^ 12 ≡ 0 → upper_in (pos (word z / 2 ^ 12)) ≡ Some z
upper_again z h whole = upper_from (word z) z (word_back z h).0 whole (word_back z h).1

pub made : (i : Inst) → InRange i → Made i
unfolding InRange layout operands_of fields_of with_fields
made (Lui x y) h = record { f = record { first = x; second = 0; third = 0; number = y }; found = one_field x _ y h.0 (upper_again y h.1.0 h.1.1); again = refl }
made (Auipc x y) h = record { f = record { first = x; second = 0; third = 0; number = y }; found = one_field x _ y h.0 (upper_again y h.1.0 h.1.1); again = refl }
made (Jal x y) h = record { f = record { first = x; second = 0; third = 0; number = y }; found = one_field x _ y h.0 (by_twenty_one y h.1.0); again = refl }
made (Jalr x y z) h = record { f = record { first = x; second = y; third = 0; number = z }; found = two_fields x y z h.0 h.1 (by_twelve z h.2); again = refl }
made (Beq x y z) h = record { f = record { first = x; second = y; third = 0; number = z }; found = two_fields x y z h.0 h.1 (by_thirteen z h.2.0); again = refl }
made (Bne x y z) h = record { f = record { first = x; second = y; third = 0; number = z }; found = two_fields x y z h.0 h.1 (by_thirteen z h.2.0); again = refl }
made (Blt x y z) h = record { f = record { first = x; second = y; third = 0; number = z }; found = two_fields x y z h.0 h.1 (by_thirteen z h.2.0); again = refl }
made (Bge x y z) h = record { f = record { first = x; second = y; third = 0; number = z }; found = two_fields x y z h.0 h.1 (by_thirteen z h.2.0); again = refl }
made (Bltu x y z) h = record { f = record { first = x; second = y; third = 0; number = z }; found = two_fields x y z h.0 h.1 (by_thirteen z h.2.0); again = refl }
made (Bgeu x y z) h = record { f = record { first = x; second = y; third = 0; number = z }; found = two_fields x y z h.0 h.1 (by_thirteen z h.2.0); again = refl }
made (Lb x y z) h = record { f = record { first = x; second = y; third = 0; number = z }; found = two_fields x y z h.0 h.1 (by_twelve z h.2); again = refl }
made (Lh x y z) h = record { f = record { first = x; second = y; third = 0; number = z }; found = two_fields x y z h.0 h.1 (by_twelve z h.2); again = refl }
made (Lw x y z) h = record { f = record { first = x; second = y; third = 0; number = z }; found = two_fields x y z h.0 h.1 (by_twelve z h.2); again = refl }
made (Lbu x y z) h = record { f = record { first = x; second = y; third = 0; number = z }; found = two_fields x y z h.0 h.1 (by_twelve z h.2); again = refl }
made (Lhu x y z) h = record { f = record { first = x; second = y; third = 0; number = z }; found = two_fields x y z h.0 h.1 (by_twelve z h.2); again = refl }
made (Sb x y z) h = record { f = record { first = y; second = x; third = 0; number = z }; found = two_fields y x z h.1 h.0 (by_twelve z h.2); again = refl }
made (Sh x y z) h = record { f = record { first = y; second = x; third = 0; number = z }; found = two_fields y x z h.1 h.0 (by_twelve z h.2); again = refl }
made (Sw x y z) h = record { f = record { first = y; second = x; third = 0; number = z }; found = two_fields y x z h.1 h.0 (by_twelve z h.2); again = refl }
made (Addi x y z) h = record { f = record { first = x; second = y; third = 0; number = z }; found = two_fields x y z h.0 h.1 (by_twelve z h.2); again = refl }
made (Slti x y z) h = record { f = record { first = x; second = y; third = 0; number = z }; found = two_fields x y z h.0 h.1 (by_twelve z h.2); again = refl }
made (Sltiu x y z) h = record { f = record { first = x; second = y; third = 0; number = z }; found = two_fields x y z h.0 h.1 (by_twelve z h.2); again = refl }
made (Xori x y z) h = record { f = record { first = x; second = y; third = 0; number = z }; found = two_fields x y z h.0 h.1 (by_twelve z h.2); again = refl }
made (Ori x y z) h = record { f = record { first = x; second = y; third = 0; number = z }; found = two_fields x y z h.0 h.1 (by_twelve z h.2); again = refl }
made (Andi x y z) h = record { f = record { first = x; second = y; third = 0; number = z }; found = two_fields x y z h.0 h.1 (by_twelve z h.2); again = refl }
made (Slli x y z) h = record { f = record { first = x; second = y; third = 0; number = z }; found = two_fields x y z h.0 h.1 (by_shift z h.2.0 h.2.1); again = refl }
made (Srli x y z) h = record { f = record { first = x; second = y; third = 0; number = z }; found = two_fields x y z h.0 h.1 (by_shift z h.2.0 h.2.1); again = refl }
made (Srai x y z) h = record { f = record { first = x; second = y; third = 0; number = z }; found = two_fields x y z h.0 h.1 (by_shift z h.2.0 h.2.1); again = refl }
made (Add x y z) h = record { f = record { first = x; second = y; third = z; number = pos 0 }; found = three_fields x y z h.0 h.1 h.2; again = refl }
made (Sub x y z) h = record { f = record { first = x; second = y; third = z; number = pos 0 }; found = three_fields x y z h.0 h.1 h.2; again = refl }
made (Sll x y z) h = record { f = record { first = x; second = y; third = z; number = pos 0 }; found = three_fields x y z h.0 h.1 h.2; again = refl }
made (Slt x y z) h = record { f = record { first = x; second = y; third = z; number = pos 0 }; found = three_fields x y z h.0 h.1 h.2; again = refl }
made (Sltu x y z) h = record { f = record { first = x; second = y; third = z; number = pos 0 }; found = three_fields x y z h.0 h.1 h.2; again = refl }
made (Xor x y z) h = record { f = record { first = x; second = y; third = z; number = pos 0 }; found = three_fields x y z h.0 h.1 h.2; again = refl }
made (Srl x y z) h = record { f = record { first = x; second = y; third = z; number = pos 0 }; found = three_fields x y z h.0 h.1 h.2; again = refl }
made (Sra x y z) h = record { f = record { first = x; second = y; third = z; number = pos 0 }; found = three_fields x y z h.0 h.1 h.2; again = refl }
made (Or x y z) h = record { f = record { first = x; second = y; third = z; number = pos 0 }; found = three_fields x y z h.0 h.1 h.2; again = refl }
made (And x y z) h = record { f = record { first = x; second = y; third = z; number = pos 0 }; found = three_fields x y z h.0 h.1 h.2; again = refl }
made (Mul x y z) h = record { f = record { first = x; second = y; third = z; number = pos 0 }; found = three_fields x y z h.0 h.1 h.2; again = refl }
made (Mulh x y z) h = record { f = record { first = x; second = y; third = z; number = pos 0 }; found = three_fields x y z h.0 h.1 h.2; again = refl }
made (Mulhsu x y z) h = record { f = record { first = x; second = y; third = z; number = pos 0 }; found = three_fields x y z h.0 h.1 h.2; again = refl }
made (Mulhu x y z) h = record { f = record { first = x; second = y; third = z; number = pos 0 }; found = three_fields x y z h.0 h.1 h.2; again = refl }
made (Div x y z) h = record { f = record { first = x; second = y; third = z; number = pos 0 }; found = three_fields x y z h.0 h.1 h.2; again = refl }
made (Divu x y z) h = record { f = record { first = x; second = y; third = z; number = pos 0 }; found = three_fields x y z h.0 h.1 h.2; again = refl }
made (Rem x y z) h = record { f = record { first = x; second = y; third = z; number = pos 0 }; found = three_fields x y z h.0 h.1 h.2; again = refl }
made (Remu x y z) h = record { f = record { first = x; second = y; third = z; number = pos 0 }; found = three_fields x y z h.0 h.1 h.2; again = refl }
made Ecall h = record { f = record { first = 0; second = 0; third = 0; number = pos 0 }; found = three_fields 0 0 0 (lit< tt) (lit< tt) (lit< tt); again = refl }

-- an instruction of this name with these operands is the one that is made of their fields
pub one_filled : (like i : Inst) (os : Operands ℤ) (f : Fields) → fields_of os ≡ Some f → IsFilled like os i → with_fields like f ≡ i
one_filled like i os f e h =
    let m = made i h.range in
    let same : m.f ≡ f = let a = m.found in let b = h.same in let c : fields_of (operands_of i) ≡ fields_of os = ap fields_of b in cc in
    sym (with_same i like f h.name) ∙ ap (with_fields i) (sym same) ∙ m.again

pub has_fields : (like i : Inst) (os : Operands ℤ) → fields_of os ≡ None → IsFilled like os i → ⊥
has_fields like i os e h = let m = made i h.range in let a = m.found in let c : fields_of (operands_of i) ≡ fields_of os = ap fields_of h.same in cc

-- at most one instruction of a name has these operands
pub one_instruction : (like i j : Inst) (os : Operands ℤ) → IsFilled like os i → IsFilled like os j → i ≡ j
one_instruction like i j os h k =
    let m = made i h.range in
    let found : fields_of os ≡ Some m.f = ap fields_of (sym h.same) ∙ m.found in
    sym (one_filled like i os m.f found h) ∙ one_filled like j os m.f found k

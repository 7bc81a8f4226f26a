-- The kind of each instruction.
use Rattle.std.proofs.Common.{◌≡◌, ℕ, zero, suc, ◌+◌, ◌*◌, ◌<◌, ◌≤◌, ◌^◌, ℤ, pos, negsuc, Bool, true, false, not, refl, ap, sym, ◌∙◌, subst, arith}
use Rattle.std.specs.Prelude.{Option, Some, None, nat_lt, nat_eq, int_lt}
use Rattle.std.proofs.lemmas.Int.{ints}
use Rattle.dae_base.specs.Words.{word, signed}
use Rattle.dae_encode.specs.declared.Inst.{Inst}
use Rattle.dae_encode.specs.declared.Inst.TheVariants.{Lui, Auipc, Jal, Jalr, Beq, Bne, Blt, Bge, Bltu, Bgeu, Lb, Lh, Lw, Lbu, Lhu, Sb, Sh, Sw, Addi, Slti, Sltiu, Xori, Ori, Andi, Slli, Srli, Srai, Add, Sub, Sll, Slt, Sltu, Xor, Srl, Sra, Or, And, Mul, Mulh, Mulhsu, Mulhu, Div, Divu, Rem, Remu, Ecall}
use Rattle.dae_ranges.specs.declared.Range.{Range}
use Rattle.dae_ranges.specs.Ranges.{single, decided}
use Rattle.dae_ranges.proofs.Laws.{same_decided}
use Rattle.dae_guard.specs.Moves as moves
use Rattle.dae_guard.specs.Moves.{shape, test, order, against, goes_to, tells}
use Rattle.dae_guard_walk.specs.declared.kinds.TestKind.TheVariants.{Equal, Unequal, Below, NotBelow, SignedBelow, NotSignedBelow}
use Rattle.dae_guard_walk.specs.declared.kinds.InstructionKind.{InstructionKind}
use Rattle.dae_guard_walk.specs.declared.kinds.InstructionKind.TheVariants.{Tests, Jumps, Plain}
use Rattle.dae_guard_walk.specs.Kinds.{IsComparison, IsKind, compares}

pub beq_is : (x y : ℕ) (imm : ℤ) → IsComparison (Beq x y imm) (record { test = Equal; immediate = None; offset = Some (word imm) })
unfolding shape test order against goes_to tells
beq_is x y imm = record { tests = refl; by_order = refl; by_second = λ z. refl; by_test = λ v w. refl; goes = λ c b. refl; told = λ b. refl }

pub bne_is : (x y : ℕ) (imm : ℤ) → IsComparison (Bne x y imm) (record { test = Unequal; immediate = None; offset = Some (word imm) })
unfolding shape test order against goes_to tells
bne_is x y imm = record { tests = refl; by_order = refl; by_second = λ z. refl; by_test = λ v w. refl; goes = λ c b. refl; told = λ b. refl }

pub blt_is : (x y : ℕ) (imm : ℤ) → IsComparison (Blt x y imm) (record { test = SignedBelow; immediate = None; offset = Some (word imm) })
unfolding shape test order against goes_to tells
blt_is x y imm = record { tests = refl; by_order = refl; by_second = λ z. refl; by_test = λ v w. refl; goes = λ c b. refl; told = λ b. refl }

pub bge_is : (x y : ℕ) (imm : ℤ) → IsComparison (Bge x y imm) (record { test = NotSignedBelow; immediate = None; offset = Some (word imm) })
unfolding shape test order against goes_to tells
bge_is x y imm = record { tests = refl; by_order = refl; by_second = λ z. refl; by_test = λ v w. refl; goes = λ c b. refl; told = λ b. refl }

pub bltu_is : (x y : ℕ) (imm : ℤ) → IsComparison (Bltu x y imm) (record { test = Below; immediate = None; offset = Some (word imm) })
unfolding shape test order against goes_to tells
bltu_is x y imm = record { tests = refl; by_order = refl; by_second = λ z. refl; by_test = λ v w. refl; goes = λ c b. refl; told = λ b. refl }

pub bgeu_is : (x y : ℕ) (imm : ℤ) → IsComparison (Bgeu x y imm) (record { test = NotBelow; immediate = None; offset = Some (word imm) })
unfolding shape test order against goes_to tells
bgeu_is x y imm = record { tests = refl; by_order = refl; by_second = λ z. refl; by_test = λ v w. refl; goes = λ c b. refl; told = λ b. refl }

pub slt_is : (rd x y : ℕ) → IsComparison (Slt rd x y) (record { test = SignedBelow; immediate = None; offset = None })
unfolding shape test order against goes_to tells
slt_is rd x y = record { tests = refl; by_order = refl; by_second = λ z. refl; by_test = λ v w. refl; goes = λ c b. refl; told = λ b. refl }

pub sltu_is : (rd x y : ℕ) → IsComparison (Sltu rd x y) (record { test = Below; immediate = None; offset = None })
unfolding shape test order against goes_to tells
sltu_is rd x y = record { tests = refl; by_order = refl; by_second = λ z. refl; by_test = λ v w. refl; goes = λ c b. refl; told = λ b. refl }

-- the kind of an instruction that is another
pub kind_at : (i j : Inst) (k m : InstructionKind) → i ≡ j → k ≡ m → IsKind j m → IsKind i k
kind_at i j k m e f h = subst (λ (z : InstructionKind). IsKind i z) (sym f) (subst (λ (z : Inst). IsKind z m) (sym e) h)

-- the one word of a range
one_word : (w j : ℕ) → j ≤ 0 → w + j * 1 ≡ w
one_word w j h = let z : j ≡ 0 = omega arith in rw z (omega arith)

pub slti_is : (rd x : ℕ) (imm : ℤ) → signed (word imm) ≡ imm → IsComparison (Slti rd x imm) (record { test = SignedBelow; immediate = Some (word imm); offset = None })
unfolding shape test order against goes_to tells
slti_is rd x imm same = record {
  tests = refl;
  by_order = refl;
  by_second = λ z. refl;
  by_test = λ v w. same_decided (λ a b. int_lt (signed a) imm) (λ a b. int_lt (signed a) (signed b)) v (single (word imm)) (λ k j l m. (
      let e = one_word (word imm) j m in
      ap (int_lt (signed (v.lo + k * v.step))) (sym (ap signed e ∙ same))));
  goes = λ c b. refl;
  told = λ b. refl;
}

pub sltiu_is : (rd x : ℕ) (imm : ℤ) → IsComparison (Sltiu rd x imm) (record { test = Below; immediate = Some (word imm); offset = None })
unfolding shape test order against goes_to tells
sltiu_is rd x imm = record {
  tests = refl;
  by_order = refl;
  by_second = λ z. refl;
  by_test = λ v w. same_decided (λ a b. nat_lt a (word imm)) (λ a b. nat_lt a b) v (single (word imm)) (λ k j l m. (
      let e = one_word (word imm) j m in
      ap (nat_lt (v.lo + k * v.step)) (sym e)));
  goes = λ c b. refl;
  told = λ b. refl;
}

pub jalr_is : (rd x : ℕ) (imm : ℤ) → shape (Jalr rd x imm) ≡ moves.Jumps
unfolding shape
jalr_is rd x imm = refl

-- any other instruction
pub plain_is : (i : Inst) → ((x y : ℕ) (imm : ℤ) → i ≡ Beq x y imm → ⊥) → ((x y : ℕ) (imm : ℤ) → i ≡ Bne x y imm → ⊥)
    → ((x y : ℕ) (imm : ℤ) → i ≡ Blt x y imm → ⊥) → ((x y : ℕ) (imm : ℤ) → i ≡ Bge x y imm → ⊥)
    → ((x y : ℕ) (imm : ℤ) → i ≡ Bltu x y imm → ⊥) → ((x y : ℕ) (imm : ℤ) → i ≡ Bgeu x y imm → ⊥)
    → ((x y : ℕ) (imm : ℤ) → i ≡ Slti x y imm → ⊥) → ((x y : ℕ) (imm : ℤ) → i ≡ Sltiu x y imm → ⊥)
    → ((x y z : ℕ) → i ≡ Slt x y z → ⊥) → ((x y z : ℕ) → i ≡ Sltu x y z → ⊥) → ((x y : ℕ) (imm : ℤ) → i ≡ Jalr x y imm → ⊥)
    → shape i ≡ moves.Plain
unfolding shape
plain_is (Beq x y imm) a b c d e f g h k l m = absurd (a x y imm refl)
plain_is (Bne x y imm) a b c d e f g h k l m = absurd (b x y imm refl)
plain_is (Blt x y imm) a b c d e f g h k l m = absurd (c x y imm refl)
plain_is (Bge x y imm) a b c d e f g h k l m = absurd (d x y imm refl)
plain_is (Bltu x y imm) a b c d e f g h k l m = absurd (e x y imm refl)
plain_is (Bgeu x y imm) a b c d e f g h k l m = absurd (f x y imm refl)
plain_is (Slti x y imm) a b c d e f g h k l m = absurd (g x y imm refl)
plain_is (Sltiu x y imm) a b c d e f g h k l m = absurd (h x y imm refl)
plain_is (Slt x y z) a b c d e f g h k l m = absurd (k x y z refl)
plain_is (Sltu x y z) a b c d e f g h k l m = absurd (l x y z refl)
plain_is (Jalr x y imm) a b c d e f g h k l m = absurd (m x y imm refl)
plain_is i a b c d e f g h k l m = refl

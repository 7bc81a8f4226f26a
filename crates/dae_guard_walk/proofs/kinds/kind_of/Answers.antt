use Rattle.std.proofs.Common.{◌≡◌, ◌∙◌, ℕ, sym, ap, subst, rules, arith}
use Rattle.std.specs.Prelude.{Some, None}
use Rattle.std.proofs.lemmas.Int.{to_z-of_z}
use mir.Val.{SFits}
use mir.Syntax.{w32}
use Rattle.dae_base.specs.Words.{word}
use Rattle.dae_encode.specs.declared.Inst.{Inst}
use Rattle.dae_guard.specs.Moves as moves
use Rattle.dae_guard.specs.Moves.{shape}
use Rattle.dae_guard_walk.specs.declared.kinds.InstructionKind.TheVariants.{Tests}
use Rattle.dae_guard_walk.specs.declared.kinds.TestKind.TheVariants.{Below, SignedBelow}
use Rattle.dae_guard_walk.proofs.KindLaws.{kind_at, beq_is, bne_is, blt_is, bge_is, bltu_is, bgeu_is, slt_is, sltu_is, slti_is, sltiu_is, jalr_is, plain_is}
use Rattle.dae_guard_walk.proofs.kinds.kind_of.Goals as goal

pub returns-in-Beq : goal.returns-in-Beq
returns-in-Beq c =
    let fits : SFits w32 c.in-Beq.imm = search rules in
    kind_at _ _ _ _ c.in-Beq.is (simp to_z-of_z at c.branch_by.ensures) (beq_is c.in-Beq.field-0 c.in-Beq.field-1 c.in-Beq.imm)

pub returns-in-Bne : goal.returns-in-Bne
returns-in-Bne c =
    let fits : SFits w32 c.in-Bne.imm = search rules in
    kind_at _ _ _ _ c.in-Bne.is (simp to_z-of_z at c.branch_by-in-Bne.ensures) (bne_is c.in-Bne.field-0 c.in-Bne.field-1 c.in-Bne.imm)

pub returns-in-Blt : goal.returns-in-Blt
returns-in-Blt c =
    let fits : SFits w32 c.in-Blt.imm = search rules in
    kind_at _ _ _ _ c.in-Blt.is (simp to_z-of_z at c.branch_by-in-Blt.ensures) (blt_is c.in-Blt.field-0 c.in-Blt.field-1 c.in-Blt.imm)

pub returns-in-Bge : goal.returns-in-Bge
returns-in-Bge c =
    let fits : SFits w32 c.in-Bge.imm = search rules in
    kind_at _ _ _ _ c.in-Bge.is (simp to_z-of_z at c.branch_by-in-Bge.ensures) (bge_is c.in-Bge.field-0 c.in-Bge.field-1 c.in-Bge.imm)

pub returns-in-Bltu : goal.returns-in-Bltu
returns-in-Bltu c =
    let fits : SFits w32 c.in-Bltu.imm = search rules in
    kind_at _ _ _ _ c.in-Bltu.is (simp to_z-of_z at c.branch_by-in-Bltu.ensures) (bltu_is c.in-Bltu.field-0 c.in-Bltu.field-1 c.in-Bltu.imm)

pub returns-in-Bgeu : goal.returns-in-Bgeu
returns-in-Bgeu c =
    let fits : SFits w32 c.in-Bgeu.imm = search rules in
    kind_at _ _ _ _ c.in-Bgeu.is (simp to_z-of_z at c.branch_by-in-Bgeu.ensures) (bgeu_is c.in-Bgeu.field-0 c.in-Bgeu.field-1 c.in-Bgeu.imm)

pub returns-in-Slt : goal.returns-in-Slt
returns-in-Slt c = kind_at _ _ _ _ c.in-Slt.is c.compare_with-in-Slt.ensures (slt_is c.in-Slt.field-0 c.in-Slt.field-1 c.in-Slt.field-2)

pub returns-in-Sltu : goal.returns-in-Sltu
returns-in-Sltu c = kind_at _ _ _ _ c.in-Sltu.is c.compare_with-in-Sltu.ensures (sltu_is c.in-Sltu.field-0 c.in-Sltu.field-1 c.in-Sltu.field-2)

pub returns-in-Slti : goal.returns-in-Slti
returns-in-Slti c =
    let fits : SFits w32 c.in-Slti.imm = search rules in
    let same : c.cast_unsigned.result ≡ word c.in-Slti.imm = simp to_z-of_z at c.cast_unsigned.ensures in
    kind_at _ _ _ _ c.in-Slti.is (c.compare_with.ensures ∙ ap (λ (w : ℕ). Tests (record { test = SignedBelow; immediate = Some w; offset = None })) same)
    (slti_is c.in-Slti.field-0 c.in-Slti.field-1 c.in-Slti.imm (to_z-of_z w32 c.in-Slti.imm fits))

pub returns-in-Sltiu : goal.returns-in-Sltiu
returns-in-Sltiu c =
    let fits : SFits w32 c.in-Sltiu.imm = search rules in
    let same : c.cast_unsigned-in-Sltiu.result ≡ word c.in-Sltiu.imm = simp to_z-of_z at c.cast_unsigned-in-Sltiu.ensures in
    kind_at _ _ _ _ c.in-Sltiu.is (c.compare_with-in-Sltiu.ensures ∙ ap (λ (w : ℕ). Tests (record { test = Below; immediate = Some w; offset = None })) same)
    (sltiu_is c.in-Sltiu.field-0 c.in-Sltiu.field-1 c.in-Sltiu.imm)

pub returns-in-Jalr : goal.returns-in-Jalr
returns-in-Jalr c =
    subst (λ (i : Inst). shape i ≡ moves.Jumps) (sym c.in-Jalr.is) (jalr_is c.in-Jalr.field-0 c.in-Jalr.field-1 c.in-Jalr.field-2)

pub returns-in_default : goal.returns-in_default
returns-in_default c =
    plain_is c.args.inst.now c.in_default.not-Beq c.in_default.not-Bne c.in_default.not-Blt c.in_default.not-Bge c.in_default.not-Bltu c.in_default.not-Bgeu
    c.in_default.not-Slti c.in_default.not-Sltiu c.in_default.not-Slt c.in_default.not-Sltu c.in_default.not-Jalr

use Rattle.std.proofs.Common.{◌≡◌, ◌∙◌, sym, subst, rules}
use Rattle.std.proofs.lemmas.Int.{to_z-of_z}
use mir.Val.{SFits}
use mir.Syntax.{w32}
use Rattle.dae_base.specs.Words.{word}
use Rattle.dae_guard.specs.Kept.{IsProper}
use Rattle.dae_guard_walk.proofs.ProperLaws.{proper_any}
use Rattle.dae_guard_walk.proofs.ResultLaws.{addi_by, slli_by, andi_by, spread_addi, spread_add, spread_slli, spread_andi, spread_jalr, spread_other}
use Rattle.dae_guard_walk.proofs.results.spread.Goals as goal

pub returns-in-Addi-clause-is : goal.returns-in-Addi-clause-is
returns-in-Addi-clause-is c =
    let fits : SFits w32 c.in-Addi.imm = search rules in
    let same : c.cast_unsigned.result ≡ word c.in-Addi.imm = simp to_z-of_z at c.cast_unsigned.ensures in
    addi_by c.shift.result c.unwrap_or.result c.any.result c.args.x c.cast_unsigned.result (word c.in-Addi.imm) c.unwrap_or.ensures c.shift.ensures c.any.ensures same
    ∙ sym (spread_addi c.args.inst.now c.in-Addi.field-0 c.in-Addi.field-1 c.in-Addi.imm c.args.counter c.args.x c.args.y c.in-Addi.is)

pub returns-in-Add-clause-is : goal.returns-in-Add-clause-is
returns-in-Add-clause-is c =
    c.sum.ensures.is ∙ sym (spread_add c.args.inst.now c.in-Add.field-0 c.in-Add.field-1 c.in-Add.field-2 c.args.counter c.args.x c.args.y c.in-Add.is)

pub returns-in-Slli-clause-is : goal.returns-in-Slli-clause-is
returns-in-Slli-clause-is c =
    let fits : SFits w32 c.in-Slli.imm = search rules in
    let same : c.cast_unsigned-in-Slli.result ≡ word c.in-Slli.imm = simp to_z-of_z at c.cast_unsigned-in-Slli.ensures in
    slli_by c.scale.result c.unwrap_or-in-Slli.result c.any-in-Slli.result c.args.x c.power_of_two.result c.cast_unsigned-in-Slli.result (word c.in-Slli.imm) c.unwrap_or-in-Slli.ensures c.scale.ensures c.any-in-Slli.ensures c.power_of_two.ensures.is same
    ∙ sym (spread_slli c.args.inst.now c.in-Slli.field-0 c.in-Slli.field-1 c.in-Slli.imm c.args.counter c.args.x c.args.y c.in-Slli.is)

pub returns-in-Andi-clause-is : goal.returns-in-Andi-clause-is
returns-in-Andi-clause-is c =
    let fits : SFits w32 c.in-Andi.imm = search rules in
    let same : c.cast_unsigned-in-Andi.result ≡ word c.in-Andi.imm = simp to_z-of_z at c.cast_unsigned-in-Andi.ensures in
    andi_by c.masked.result c.cast_unsigned-in-Andi.result (word c.in-Andi.imm) c.masked.ensures.is same
    ∙ sym (spread_andi c.args.inst.now c.in-Andi.field-0 c.in-Andi.field-1 c.in-Andi.imm c.args.counter c.args.x c.args.y c.in-Andi.is)

pub returns-in-Jalr-clause-is : goal.returns-in-Jalr-clause-is
returns-in-Jalr-clause-is c =
    let h = spread_jalr c.args.inst.now c.in-Jalr.field-0 c.in-Jalr.field-1 c.in-Jalr.field-2 c.args.counter c.args.x c.args.y c.in-Jalr.is in cc

pub returns-in_default : goal.returns-in_default
returns-in_default c = record {
  is = c.any-in_default.ensures ∙ sym (spread_other c.args.inst.now c.args.counter c.args.x c.args.y c.in_default.not-Addi c.in_default.not-Add c.in_default.not-Slli c.in_default.not-Andi c.in_default.not-Jalr);
  proper = subst IsProper (sym c.any-in_default.ensures) proper_any;
}

use Rattle.std.proofs.Common.{◌≡◌, Option, Some, None, IfNone, sym, subst}
use Rattle.dae_encode.specs.declared.Inst.{Inst}
use Rattle.dae_asm_lines.specs.Lines.{operands_seen}
use Rattle.dae_asm_lines.specs.Names.{operands_of, IsFilled}
use Rattle.dae_asm_labels.specs.Labels.{looks}
use Rattle.dae_asm_values.specs.Values.{IsInstruction}
use Rattle.dae_asm_values.proofs.Resolved.{alike_still, one_way}
use Rattle.dae_asm_values.proofs.code.instruction_at.Goals as goal

if_none : {X : Type 0} (o : Option X) (P : Type 0) → P → IfNone o P
if_none None P h = h
if_none (Some x) P h = tt

none_of : {X : Type 0} (o : Option X) (P : Type 0) → IfNone o P → o ≡ None → P
none_of None P h e = h
none_of (Some x) P h e = absurd cc

pub returns-in_err-operands-clause-none : goal.returns-in_err-operands-clause-none
returns-in_err-operands-clause-none c =
    if_none c.from_residual.result _ (λ i h. none_of c.operands_at.result _ c.operands_at.ensures.none c.in_err-operands.was h.its h.are)

pub instruction_of-requires : goal.instruction_of-requires
instruction_of-requires c = alike_still (looks c.args.table.now) c.args.here (operands_of c.args.like.now) (operands_seen c.args.operands) c.in_ok-operands.operands c.requires c.in_ok-operands.ensures.some

pub encode-requires : goal.encode-requires
encode-requires c = c.in-Some.ensures.some.range

pub returns-in-Some-clause-some : goal.returns-in-Some-clause-some
returns-in-Some-clause-some c = (c.in-Some.inst, (c.encode.ensures.word, record { its = c.in_ok-operands.operands; are = c.in_ok-operands.ensures.some; filled = c.in-Some.ensures.some }))

pub returns-in-None-clause-none : goal.returns-in-None-clause-none
returns-in-None-clause-none c = λ i h.
    let same = one_way (looks c.args.table.now) c.args.here (operands_seen c.args.operands) h.its c.in_ok-operands.operands h.are c.in_ok-operands.ensures.some in
    c.in-None.ensures.none i (subst (λ o. IsFilled c.args.like.now o i) same h.filled)

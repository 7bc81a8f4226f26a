use Rattle.std.proofs.Common.{◌≡◌, Option, Some, None, IfNone, refl, sym, ap, ◌∙◌, subst}
use Rattle.std.proofs.lemmas.Bool.{false≢true}
use Rattle.dae_encode.specs.Spelling.{InRange}
use Rattle.dae_encode.specs.declared.Inst.{Inst}
use Rattle.dae_asm_lines.specs.Names.{name_of, operands_of, IsFilled}
use Rattle.dae_asm_lines.specs.Filling.{fields_of}
use Rattle.dae_asm_lines.proofs.Filled.{operands_filled, name_kept, one_filled, has_fields}
use Rattle.dae_asm_lines.proofs.instructions.instruction_of.Goals as goal

if_none : {X : Type 0} (o : Option X) (P : Type 0) → P → IfNone o P
if_none None P h = h
if_none (Some x) P h = tt

pub returns-in_err-fields-clause-none : goal.returns-in_err-fields-clause-none
returns-in_err-fields-clause-none c =
    let none : fields_of c.args.operands ≡ None = sym c.fields_of.ensures ∙ c.in_err-fields.was in
    if_none c.from_residual.result ((i : Inst) → IsFilled c.args.like.now c.args.operands i → ⊥) (λ i h. has_fields c.args.like.now i c.args.operands none h)

pub returns-then-is_in_range-clause-some : goal.returns-then-is_in_range-clause-some
returns-then-is_in_range-clause-some c =
    let like = c.args.like.now in
    let fields = c.in_ok-fields.fields in
    let found : fields_of c.args.operands ≡ Some fields = sym c.fields_of.ensures ∙ c.in_ok-fields.was in
    let made = c.with_fields-inst.ensures in
    record {
      name = ap name_of made ∙ name_kept like fields;
      same = ap operands_of made ∙ operands_filled like c.args.operands fields c.requires found;
      range = c.if-is_in_range.ensures.0 refl;
    }

pub returns-else-is_in_range-clause-none : goal.returns-else-is_in_range-clause-none
returns-else-is_in_range-clause-none c = λ i h.
    let like = c.args.like.now in
    let fields = c.in_ok-fields.fields in
    let found : fields_of c.args.operands ≡ Some fields = sym c.fields_of.ensures ∙ c.in_ok-fields.was in
    let same = one_filled like i c.args.operands fields found h in
    false≢true (c.if-is_in_range.ensures.1 (subst InRange (sym (c.with_fields-inst.ensures ∙ same)) h.range))

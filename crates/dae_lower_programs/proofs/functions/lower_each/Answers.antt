use Rattle.std.proofs.Common.{◌+◌, ℕ, refl, ap, sym, subst, arith}
use Rattle.dae_lower_formed.specs.Formed.{IsFunctionFormOf}
use Rattle.dae_lower_programs.proofs.Lists.{first_forms, last_forms, next_forms, numbered_at, there}
use Rattle.dae_lower_programs.specs.Functions.{HasNumbers}
use Rattle.dae_lower_programs.proofs.functions.lower_each.Goals as goal

pub loop-f-init : goal.loop-f-init
loop-f-init c = (refl, first_forms c.args.program.now c.args.functions.now c.new-forms.result.items c.new-forms.ensures.items)

pub lower_function-requires-clause-numbered : goal.lower_function-requires-clause-numbered
lower_function-requires-clause-numbered c = numbered_at c.args.functions.now c.loop-f.f-index c.f-item.result c.loop-f-test.true c.f-item.is c.requires.numbered

pub lower_function-requires-clause-numbers : goal.lower_function-requires-clause-numbers
lower_function-requires-clause-numbers c =
    let p = c.args.program.now in
    let i = c.loop-f.f-index in
    subst (λ (k : ℕ). HasNumbers p k c.f-item.result) (sym c.loop-f.invariant.0) (c.requires.numbers i c.f-item.result (there c.args.functions.now i c.f-item.result c.loop-f-test.true c.f-item.is))

pub overflow_add-number : goal.overflow_add-number
overflow_add-number c = let same = c.loop-f.invariant.0 in omega (arith, same, c.loop-f-test.true, c.requires.few)

pub loop-f-preserved : goal.loop-f-preserved
loop-f-preserved c =
    let p = c.args.program.now in
    let i = c.loop-f.f-index in (
      ap (λ n. n + 1) c.loop-f.invariant.0,
      next_forms p c.args.functions.now i c.f-item.result c.in_ok-form.form c.loop-f.forms.items c.push.new.self.items c.loop-f-test.true c.f-item.is c.loop-f.invariant.1
          (subst (λ (n : ℕ). IsFunctionFormOf p n c.f-item.result c.in_ok-form.form) c.loop-f.invariant.0 c.in_ok-form.ensures) c.in_ok-push.ensures.items,
    )

pub returns : goal.returns
returns c = last_forms c.args.program.now c.args.functions.now c.loop-f.f-index c.loop-f.forms.items c.loop-f-test.false c.loop-f.invariant.1

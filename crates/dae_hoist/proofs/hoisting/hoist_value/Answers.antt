use Rattle.std.proofs.Common.{Option, ap, ◌∙◌, subst}
use Rattle.dae_ir.specs.declared.form.Value.{Value}
use Rattle.dae_hoist.specs.Hoisted.{found_or}
use Rattle.dae_hoist.specs.Kept.{Fits}
use Rattle.dae_hoist.specs.Planned.{hoisting_of}
use Rattle.dae_hoist.proofs.hoisting.hoist_value.Goals as goal

pub returns-clause-value : goal.returns-clause-value
returns-clause-value c = c.found_or.ensures ∙ ap (λ (o : Option Value). found_or o c.args.value) c.value_for-found.ensures

pub returns-clause-fits : goal.returns-clause-fits
returns-clause-fits c = subst (λ (o : Option Value). Fits (hoisting_of c.args.plan.now) c.args.set.now c.args.variable o) c.value_for-found.ensures c.in_ok-fit.ensures

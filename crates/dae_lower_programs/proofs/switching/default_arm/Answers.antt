use Rattle.std.proofs.Common.{refl, ap, sym, ◌∙◌, arith}
use Rattle.std.specs.Prelude.{None}
use Rattle.dae_program.specs.Switches.{has_label}
use Rattle.dae_lower_programs.proofs.Searching.{arm_found, first_undecided, next_undecided, none_found}
use Rattle.dae_lower_programs.proofs.switching.default_arm.Goals as goal

pub loop-arm-init : goal.loop-arm-init
loop-arm-init c = first_undecided c.args.arms.now

pub returns-then-has_default : goal.returns-then-has_default
returns-then-has_default c = arm_found c.args.arms.now c.loop-arm.arm-index c.loop-arm.number c.arm-item.result c.loop-arm-test.true c.arm-item.is c.loop-arm.invariant (ap (has_label None) (sym c.deref.ensures.value) ∙ sym c.has_default.ensures ∙ c.if-has_default.true)

pub overflow_add-number : goal.overflow_add-number
overflow_add-number c = let so_far = c.loop-arm.invariant in omega (arith, so_far.place, c.loop-arm-test.true, c.requires)

pub loop-arm-preserved : goal.loop-arm-preserved
loop-arm-preserved c = next_undecided c.args.arms.now c.loop-arm.arm-index c.loop-arm.number _ c.arm-item.result c.loop-arm-test.true c.arm-item.is c.loop-arm.invariant (ap (has_label None) (sym c.deref.ensures.value) ∙ sym c.has_default.ensures ∙ c.if-has_default.false) refl

pub returns : goal.returns
returns c = none_found c.args.arms.now c.loop-arm.arm-index c.loop-arm.number c.loop-arm-test.false c.loop-arm.invariant

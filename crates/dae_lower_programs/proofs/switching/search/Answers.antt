use Rattle.std.proofs.Common.{refl, subst, arith, List, Option, ℕ}
use Rattle.dae_ir.specs.Form.{form_of}
use Rattle.dae_lower_programs.proofs.Searching.{Asks, all_searched, first_searched, next_searched}
use Rattle.dae_lower_programs.proofs.switching.search.Goals as goal

pub loop-arm-init : goal.loop-arm-init
loop-arm-init c = first_searched c.args.dispatch.place c.args.dispatch.value c.args.dispatch.arm c.args.arms.now c.new-block.result.items c.new-block.ensures.items

pub overflow_add-number : goal.overflow_add-number
overflow_add-number c = let so_far = c.loop-arm.invariant in omega (arith, so_far.place, c.loop-arm-test.true, c.requires)

pub loop-arm-preserved : goal.loop-arm-preserved
loop-arm-preserved c = next_searched c.args.dispatch.place c.args.dispatch.value c.args.dispatch.arm c.args.arms.now c.loop-arm.arm-index c.loop-arm.number _ (form_of c.loop-arm.block.items) (form_of c.search_labels.new.block.items) c.arm-item.result c.loop-arm-test.true c.arm-item.is refl c.loop-arm.invariant (subst (λ (labels : List (Option ℕ)). Asks c.args.dispatch.place c.args.dispatch.value c.args.dispatch.arm c.loop-arm.number labels (form_of c.loop-arm.block.items) (form_of c.search_labels.new.block.items)) c.deref.ensures.value c.in_ok-search_labels.ensures)

pub returns : goal.returns
returns c = all_searched c.args.dispatch.place c.args.dispatch.value c.args.dispatch.arm c.args.arms.now c.loop-arm.arm-index c.loop-arm.number c.loop-arm.block.items c.push.new.self.items c.loop-arm-test.false c.in_ok-push.ensures.items c.loop-arm.invariant

use Rattle.std.proofs.Common.{◌≡◌, ◌-◌, ap, arith, suc, subst, Ok}
use Rattle.dae_types_tables.specs.Seen.{tables}
use Rattle.dae_types_products.proofs.Slots.{slots_done, slots_ended, slots_further}
use Rattle.dae_types_products.proofs.frames.slots_of.Goals as goal

pub returns-in_default : goal.returns-in_default
returns-in_default c = ap Ok (slots_done (tables c.args.checker.now) _ _ c.loop-local.rest.now _ _ c.in_default.ensures c.loop-local.invariant)

pub returns : goal.returns
returns c = ap Ok (slots_ended (tables c.args.checker.now) _ c.args.locals.now _ _ _ _ c.loop-local-test.false c.loop-local.invariant)

pub loop-local-preserved : goal.loop-local-preserved
loop-local-preserved c =
    let some = c.if-left-eq0.false in
    let left : c.loop-local.left ≡ suc (c.loop-local.left - 1) = omega arith in
    slots_further (tables c.args.checker.now) c.loop-local.left (c.loop-local.left - 1) c.args.locals.now c.loop-local.local-index _ c.in-Some.storage c.loop-local.rest.now c.in-Some.others.now _ _ _ _ c.loop-local-test.true left c.in-Some.ensures c.slot_of.ensures c.in_ok-push.ensures.items c.loop-local.invariant

use Rattle.std.proofs.Common.{arith}
use Rattle.dae_types_tables.specs.Seen.{tables}
use Rattle.dae_types_products.proofs.Slots.{last_done, last_further}
use Rattle.dae_types_products.proofs.frames.last_end.Goals as goal

pub returns-in_default : goal.returns-in_default
returns-in_default c = record { is = last_done (tables c.args.checker.now) _ c.loop-local.rest.now _ _ c.in_default.ensures c.loop-local.invariant.0; near = c.loop-local.invariant.1 }

pub loop-local-preserved : goal.loop-local-preserved
loop-local-preserved c =
    let near = c.end_of.ensures.near in
    let before = c.loop-local.invariant.1 in
    let greater = c.max-last.ensures in (
      last_further (tables c.args.checker.now) c.args.locals.now c.loop-local.local-index _ c.in-Some.storage c.loop-local.rest.now c.in-Some.others.now _ _ _ _ c.loop-local-test.true c.in-Some.ensures c.end_of.ensures.is c.max-last.ensures c.loop-local.invariant.0,
      omega (arith, near, before, greater),
    )

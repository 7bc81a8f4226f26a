use Rattle.dae_hoist.specs.Kept.{is_kept}
use Rattle.dae_hoist.specs.Planned.{hoisting_of}
use Rattle.dae_hoist.proofs.Passing.{read_next}
use Rattle.dae_hoist.proofs.keeping.keep_operands.Goals as goal

pub loop-x-preserved : goal.loop-x-preserved
loop-x-preserved c =
    read_next (is_kept (hoisting_of c.args.plan.now)) c.args.xs.now c.loop-x.x-index _ c.loop-x-test.true c.in_ok-keep_operand.ensures c.loop-x.invariant

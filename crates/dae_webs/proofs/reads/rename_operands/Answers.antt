use Rattle.dae_webs.proofs.Arguments.{operands_next}
use Rattle.dae_webs.proofs.reads.rename_operands.Goals as goal

pub loop-x-preserved : goal.loop-x-preserved
loop-x-preserved c =
    operands_next c.args.webs.now c.args.xs.now c.loop-x.x-index _ c.in_ok-y.y c.loop-x.ys.items c.push.new.self.items c.loop-x-test.true c.in_ok-y.ensures.renamed c.in_ok-y.ensures.known c.in_ok-push.ensures.items c.loop-x.invariant

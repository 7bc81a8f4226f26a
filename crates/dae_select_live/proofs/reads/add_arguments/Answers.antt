use Rattle.std.proofs.Common.{arith}
use Rattle.dae_select_live.specs.Members.{member}
use Rattle.dae_select_live.proofs.Several.{one_argument}
use Rattle.dae_select_live.proofs.reads.add_arguments.Goals as goal

pub loop-index-preserved : goal.loop-index-preserved
loop-index-preserved c =
    let some = c.loop-index-test.true in
    let le = c.loop-index.auto.index in
    one_argument c.args.arguments.now c.loop-index.index _ (member c.args.set.now) (member c.loop-index.set) (member c.add_argument.new.set) (omega arith) (omega arith) c.loop-index.invariant c.in_ok-add_argument.ensures

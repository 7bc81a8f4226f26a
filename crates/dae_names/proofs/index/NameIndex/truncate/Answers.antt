use Rattle.std.proofs.Common.{◌∙◌, arith}
use Rattle.dae_names.proofs.Indexed.{one_less, same_front, whole_front}
use Rattle.dae_names.proofs.index.NameIndex.truncate.Goals as goal

pub loop-left-preserved : goal.loop-left-preserved
loop-left-preserved c = record {
  long = one_less c.loop-left.self c.pop.new.self c.loop-left.left (omega arith) c.loop-left.invariant.long c.pop.ensures;
  same = same_front c.loop-left.self c.pop.new.self c.args.count c.loop-left.left c.loop-left-test.true c.loop-left.invariant.long c.pop.ensures ∙ c.loop-left.invariant.same;
}

pub returns : goal.returns
returns c =
    whole_front c.loop-left.self c.args.self.now c.args.count c.loop-left.left c.loop-left-test.false c.loop-left.invariant.long c.loop-left.invariant.same

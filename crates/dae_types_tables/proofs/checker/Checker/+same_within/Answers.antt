use Rattle.std.proofs.Common.{arith}
use Rattle.dae_types_tables.specs.Seen.{tables}
use Rattle.dae_types_tables.proofs.Answering.{both_same, neither_same, one_same, settled_same}
use Rattle.dae_types_tables.proofs.checker.Checker.+same_within.Goals as goal

pub returns-in-Settled : goal.returns-in-Settled
returns-in-Settled t c =
    settled_same c.loop-inner.inner (tables c.args.self.now) c.loop-inner.left c.loop-inner.right c.shape_of.result c.shape_of-in-loop-inner.result c.in-Settled.same _ c.loop-inner-test.true c.shape_of.ensures c.shape_of-in-loop-inner.ensures c.in-Settled.ensures c.loop-inner.invariant.same

pub loop-inner-preserved-in-One : goal.loop-inner-preserved-in-One
loop-inner-preserved-in-One t c = record {
  less = omega arith;
  same = one_same c.loop-inner.inner (tables c.args.self.now) c.loop-inner.left c.loop-inner.right c.shape_of.result c.shape_of-in-loop-inner.result c.in-One.one c.in-One.other _ c.loop-inner-test.true c.shape_of.ensures c.shape_of-in-loop-inner.ensures c.in-One.ensures c.loop-inner.invariant.same;
}

pub returns-then-not-same_within : goal.returns-then-not-same_within
returns-then-not-same_within t c =
    neither_same c.loop-inner.inner (tables c.args.self.now) c.loop-inner.left c.loop-inner.right c.shape_of.result c.shape_of-in-loop-inner.result c.in-Both.one c.in-Both.other c.in-Both.first c.in-Both.second c.same_within.result _ c.loop-inner-test.true c.shape_of.ensures c.shape_of-in-loop-inner.ensures c.in-Both.ensures c.same_within.ensures (cc) c.loop-inner.invariant.same

pub loop-inner-preserved : goal.loop-inner-preserved
loop-inner-preserved t c = record {
  less = omega arith;
  same = both_same c.loop-inner.inner (tables c.args.self.now) c.loop-inner.left c.loop-inner.right c.shape_of.result c.shape_of-in-loop-inner.result c.in-Both.one c.in-Both.other c.in-Both.first c.in-Both.second c.same_within.result _ c.loop-inner-test.true c.shape_of.ensures c.shape_of-in-loop-inner.ensures c.in-Both.ensures c.same_within.ensures (cc) c.loop-inner.invariant.same;
}

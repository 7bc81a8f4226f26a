use Rattle.dae_guard.specs.Nodes.{source}
use Rattle.dae_guard_walk.specs.Steps.{listed}
use Rattle.dae_guard_walk.proofs.SideLaws.{tests_so}
use Rattle.dae_guard_walk.proofs.sides.compute.Goals as goal

pub returns-in-Tests-clause-is : goal.returns-in-Tests-clause-is
returns-in-Tests-clause-is c =
    tests_so c.args.inst.now c.in-Tests.comparison c.args.counter c.args.fields c.args.from.now.ranges c.source-x.result c.source-y.result c.second_word.result
    (source c.args.from.now.ranges c.args.given c.args.fields.first) (source c.args.from.now.ranges c.args.given c.args.fields.second)
    (listed c.test_outcomes.result) c.in-Tests.ensures c.source-x.ensures.is c.source-y.ensures.is c.second_word.ensures.is c.test_outcomes.ensures.is

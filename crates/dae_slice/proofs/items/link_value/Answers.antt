use Rattle.dae_slice.proofs.Leads.{on_ok_more, pair_linked}
use Rattle.dae_slice.proofs.items.link_value.Goals as goal

pub returns-in-Binary : goal.returns-in-Binary
returns-in-Binary c =
    rw c.in-Binary.is (on_ok_more c.link_two.result c.link_two.ensures (pair_linked c.args.to.function c.in-Binary.x c.in-Binary.y c.args.to c.args.graph.now c.link_two.new.graph))

pub returns-in-Holds : goal.returns-in-Holds
returns-in-Holds c =
    let t = c.in-Holds.test in
    rw c.in-Holds.is (on_ok_more c.link_two-in-Holds.result c.link_two-in-Holds.ensures (pair_linked c.args.to.function t.left t.right c.args.to c.args.graph.now c.link_two-in-Holds.new.graph))

pub returns-in-Same : goal.returns-in-Same
returns-in-Same c = rw c.in-Same.is c.link_operand.ensures

pub returns-in-Extended : goal.returns-in-Extended
returns-in-Extended c = rw c.in-Extended.is c.link_operand-in-Extended.ensures

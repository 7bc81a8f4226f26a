use Rattle.dae_slice.proofs.Leads.{two_linked}
use Rattle.dae_slice.proofs.items.link_two.Goals as goal

pub returns : goal.returns
returns c =
    two_linked c.args.function c.args.operands.0 c.args.operands.1 c.args.to c.args.graph.now c.link_operand.new.graph c.link_operand-2.new.graph c.in_ok-link_operand.ensures c.in_ok-link_operand-2.ensures

use Rattle.dae_slice.proofs.Arguments.{call_linked}
use Rattle.dae_slice.proofs.items.link_call.Goals as goal

pub returns : goal.returns
returns c =
    call_linked c.args.callee c.args.to.function c.args.to.variable c.args.arguments.now c.args.graph.now c.link_arguments.new.graph c.link.new.self c.in_ok-link_arguments.ensures c.in_ok-link.ensures

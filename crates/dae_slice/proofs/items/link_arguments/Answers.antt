use Rattle.dae_ir.specs.declared.form.Operand.TheVariants.{Variable}
use Rattle.dae_slice.proofs.Arguments.{argument_linked, arguments_linked}
use Rattle.dae_slice.proofs.items.link_arguments.Goals as goal

pub loop-index-preserved : goal.loop-index-preserved
loop-index-preserved c =
    argument_linked c.args.callee c.args.function c.loop-index.index c.args.arguments.now (Variable 0) c.args.graph.now c.loop-index.graph c.link_operand.new.graph c.loop-index-test.true c.loop-index.invariant c.in_ok-link_operand.ensures

pub returns : goal.returns
returns c =
    arguments_linked c.args.callee c.args.function c.loop-index.index c.args.arguments.now c.args.graph.now c.loop-index.graph c.loop-index-test.false c.loop-index.invariant

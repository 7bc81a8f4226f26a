use Rattle.dae_types_ready.proofs.Steps.{flags_more}
use Rattle.dae_types_ready.proofs.ready.first_flags.Goals as goal

pub loop-variable-preserved : goal.loop-variable-preserved
loop-variable-preserved c =
    flags_more c.args.parameters c.loop-variable.variable c.args.variables c.loop-variable.set.items c.push.new.self.items c.is_parameter.result c.loop-variable-test.true c.in_ok-push.ensures.items c.is_parameter.ensures c.loop-variable.invariant

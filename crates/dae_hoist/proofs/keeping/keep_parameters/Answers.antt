use Rattle.dae_hoist.specs.Kept.{is_kept}
use Rattle.dae_hoist.specs.Planned.{hoisting_of}
use Rattle.dae_hoist.proofs.Passing.{passes_next, passes_all}
use Rattle.dae_hoist.proofs.keeping.keep_parameters.Goals as goal

pub loop-variable-preserved : goal.loop-variable-preserved
loop-variable-preserved c = passes_next (is_kept (hoisting_of c.args.plan.now)) c.loop-variable.variable c.loop-variable.invariant c.in_ok-keep_variable.ensures

pub returns : goal.returns
returns c =
    passes_all (is_kept (hoisting_of c.args.plan.now)) c.loop-variable.variable c.args.plan.now.parameters c.loop-variable.invariant c.loop-variable-test.false c.in_ok-keep_variable-2.ensures

use Rattle.dae_ir.specs.declared.stream.Step.TheVariants as step
use Rattle.dae_split.proofs.Onto.{pushed}
use Rattle.dae_split.proofs.groups.put.Goals as goal

pub returns-in_ok-push : goal.returns-in_ok-push
returns-in_ok-push c k = rw (c.if-flag.true) (pushed c.args.steps.now.items _ (step.Act c.args.mark c.args.action) k c.in_ok-push.ensures.items)

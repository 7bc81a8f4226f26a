use Rattle.std.proofs.Common.{◌∙◌, ap}
use Rattle.dae_ir.specs.Streams.{onto}
use Rattle.dae_ir.specs.declared.stream.Step.TheVariants as step
use Rattle.dae_split.proofs.Onto.{pushed}
use Rattle.dae_ir.proofs.Laws.{onto_if}
use Rattle.dae_split.proofs.walk.put_if.Goals as goal

pub returns : goal.returns
returns c k =
    let a = c.args in
    pushed a.steps.now.items _ (step.If a.mark a.branch a.p a.q) k c.in_ok-push.ensures.items ∙ ap (onto a.steps.now.items) (onto_if a.mark a.branch a.p a.q k)

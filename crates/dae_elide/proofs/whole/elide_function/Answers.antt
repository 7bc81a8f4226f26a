use Rattle.std.proofs.Common.{◌≡◌, List, ap, ◌∙◌}
use Rattle.dae_ir.specs.Form.{form_of}
use Rattle.dae_ir.specs.Streams.{actions_of}
use Rattle.dae_ir.specs.declared.stream.Step.{Step}
use Rattle.dae_elide.specs.Elided.{as_actions}
use Rattle.dae_elide.proofs.Paired.{as_long}
use Rattle.dae_elide.proofs.whole.elide_function.Goals as goal

pub elide_list-requires-clause-alike : goal.elide_list-requires-clause-alike
elide_list-requires-clause-alike c = ap (λ (l : List Step). actions_of l) c.deref.ensures.value ∙ c.in_ok-steps.ensures

pub elide_list-requires-clause-long : goal.elide_list-requires-clause-long
elide_list-requires-clause-long c =
    let alike : actions_of c.deref.result.now ≡ as_actions (form_of c.as_slice-body.result.now) = ap (λ (l : List Step). actions_of l) c.deref.ensures.value ∙ c.in_ok-steps.ensures in
    as_long c.as_slice-body.result.now c.deref.result.now alike

use Rattle.std.proofs.Common.{◌∙◌}
use Rattle.dae_select.proofs.Counted.{empty_does_nothing}
use Rattle.dae_select.proofs.walking.does_nothing.Goals as goal

pub returns : goal.returns
returns c = c.is_empty.ensures ∙ empty_does_nothing c.args.steps.now

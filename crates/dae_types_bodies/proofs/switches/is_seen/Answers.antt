use Rattle.std.proofs.Common.{◌∙◌}
use Rattle.dae_types_bodies.proofs.Labels.{any_is_seen}
use Rattle.dae_types_bodies.proofs.switches.is_seen.Goals as goal

pub returns : goal.returns
returns c = c.contains.ensures ∙ any_is_seen c.args.label c.args.labels.now.keys

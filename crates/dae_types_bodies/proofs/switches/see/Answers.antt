use Rattle.dae_types_bodies.proofs.Labels.{seen_last}
use Rattle.dae_types_bodies.proofs.switches.see.Goals as goal

pub returns : goal.returns
returns c = seen_last c.args.label c.args.labels.now.keys c.insert.new.self.keys c.in_ok-insert.ensures.keys c.requires

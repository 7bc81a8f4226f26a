use Rattle.dae_types_bodies.proofs.Labels.{nothing_armed}
use Rattle.dae_types_bodies.proofs.switches.Arming.new.Goals as goal

pub returns : goal.returns
returns c = nothing_armed c.new-seen.result.keys c.new-arms.result.items c.new-seen.ensures.empty c.new-arms.ensures.items

use Rattle.dae_lower_maker.proofs.Counts.{pushed}
use Rattle.dae_lower_maker.proofs.later.Later.add.Goals as goal

pub returns : goal.returns
returns c = pushed c.args.self.now.assigned.items c.push.new.self.items c.args.v c.in_ok-push.ensures.items

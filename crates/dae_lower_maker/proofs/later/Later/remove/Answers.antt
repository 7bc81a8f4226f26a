use Rattle.std.proofs.Common.{refl}
use Rattle.dae_lower_maker.proofs.Counts.{never_removed, removed}
use Rattle.dae_lower_maker.proofs.later.Later.remove.Goals as goal

pub returns-in-Some : goal.returns-in-Some
returns-in-Some c = removed c.args.self.now.assigned.items c.remove.new.self.items c.in-Some.index c.args.v c.in-Some.ensures.found.0 c.in-Some.ensures.found.1 c.remove.ensures.items

pub returns-in_default : goal.returns-in_default
returns-in_default c = λ rest all. never_removed c.args.self.now.assigned.items c.args.v (c.in_default.ensures.none refl) rest all

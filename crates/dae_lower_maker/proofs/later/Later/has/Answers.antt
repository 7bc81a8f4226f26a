use Rattle.std.proofs.Common.{refl}
use Rattle.dae_lower_maker.specs.Counting.{counts_of}
use Rattle.dae_lower_maker.proofs.Counts.{not_counted, some_counted}
use Rattle.dae_lower_maker.proofs.later.Later.has.Goals as goal

pub returns-in-Some : goal.returns-in-Some
returns-in-Some c = some_counted c.args.self.now.assigned.items c.in-Some.field-0 c.args.v c.in-Some.ensures.found.0 c.in-Some.ensures.found.1

pub returns-in-None : goal.returns-in-None
returns-in-None c = not_counted (counts_of c.args.self.now) c.args.v (c.in-None.ensures.none refl)

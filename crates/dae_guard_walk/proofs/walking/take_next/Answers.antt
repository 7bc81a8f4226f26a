use Rattle.std.proofs.Common.{◌≡◌, arith}
use Rattle.dae_guard_walk.proofs.WalkLaws.{kept_front, taken}
use Rattle.dae_guard_walk.proofs.walking.take_next.Goals as goal

pub returns-clause-some : goal.returns-clause-some
returns-clause-some c = taken c.pop.result c.args.ahead.now.items c.pop.new.self.items c.pop.ensures.items c.requires

pub returns-clause-holds : goal.returns-clause-holds
returns-clause-holds c = kept_front c.pop.result c.args.ahead.now.items c.pop.new.self.items c.pop.ensures.items c.requires

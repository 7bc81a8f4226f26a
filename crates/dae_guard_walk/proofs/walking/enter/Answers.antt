use Rattle.std.proofs.Common.{◌≡◌}
use Rattle.dae_guard_walk.proofs.walking.enter.Goals as goal

pub returns-in-None-clause-is : goal.returns-in-None-clause-is
returns-in-None-clause-is c = rw c.in-None.is c.put.ensures.is

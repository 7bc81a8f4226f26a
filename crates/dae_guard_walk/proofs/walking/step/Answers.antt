use Rattle.std.proofs.Common.{sym}
use Rattle.dae_guard_walk.specs.Spots.{node_of}
use Rattle.dae_guard_walk.specs.Picks.{nodes_after}
use Rattle.dae_guard_walk.proofs.walking.step.Goals as goal

pub returns-in-None-clause-is : goal.returns-in-None-clause-is
returns-in-None-clause-is c = sym c.in-None.ensures.is

pub returns-in_ok-enter-in-Some-clause-is : goal.returns-in_ok-enter-in-Some-clause-is
returns-in_ok-enter-in-Some-clause-is c = (nodes_after (node_of c.args.spot) c.in-Some.sure, sym c.in-Some.ensures.is, c.in_ok-enter-in-Some.ensures.is)

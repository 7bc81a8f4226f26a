use Rattle.std.proofs.Common.{◌≡◌, drop}
use Rattle.dae_unit.specs.Couples.{depth_of}
use Rattle.dae_unit.proofs.across.depth_of.Given as goal

abbrev pub invariant-loop-couple : goal.invariant-loop-couple
invariant-loop-couple l = depth_of l.known.entries l.depth (drop l.couple-index l.couples) ≡ depth_of l.known.entries 0 l.couples

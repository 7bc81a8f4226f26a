use Rattle.std.proofs.Common.{◌≡◌, true}
use Rattle.dae_guard.specs.Nodes.{registers_within}
use Rattle.dae_guard_walk.proofs.walking.are_within.Given as goal

-- the ranges so far lie in the others
abbrev pub invariant-loop-register : goal.invariant-loop-register
invariant-loop-register l = registers_within l.register l.outer l.ranges ≡ true

use Rattle.std.proofs.Common.{◌≡◌, false, take}
use Rattle.std.specs.List.{list_any}
use Rattle.dae_guard.specs.Nodes.{covers}
use Rattle.dae_guard_walk.specs.Spots.{node_of}
use Rattle.dae_guard_walk.proofs.walking.any_covers.Given as goal

-- none of the nodes so far covers this one
abbrev pub invariant-loop-known : goal.invariant-loop-known
invariant-loop-known l = list_any (covers (node_of l.spot)) (take l.known-index l.certificate) ≡ false

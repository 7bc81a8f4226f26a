use Rattle.std.proofs.Common.{◌≡◌, ◌≤◌, take, reverse}
use Rattle.dae_certificate.specs.Lines.{node_count}
use Rattle.dae_certificate.proofs.places.node_count.Given as goal

abbrev pub invariant-loop-line : goal.invariant-loop-line
invariant-loop-line l = (l.count ≡ node_count (reverse (take l.line-index l.lines))) × (l.count ≤ l.line-index)

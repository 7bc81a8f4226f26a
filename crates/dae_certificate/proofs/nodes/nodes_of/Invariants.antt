use Rattle.std.proofs.Common.{◌≡◌, take, reverse}
use Rattle.dae_certificate.specs.Certificates.{nodes_of}
use Rattle.dae_certificate.proofs.nodes.nodes_of.Given as goal

abbrev pub invariant-loop-line : goal.invariant-loop-line
invariant-loop-line l = l.nodes.items ≡ nodes_of (reverse (take l.line-index l.lines))

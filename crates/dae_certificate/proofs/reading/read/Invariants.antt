use Rattle.std.proofs.Common.{◌+◌, ◌≤◌, length}
use Rattle.dae_certificate.proofs.Texts.{HasRead}
use Rattle.dae_certificate.proofs.reading.read.Given as goal

abbrev pub invariant-loop-rest : goal.invariant-loop-rest
invariant-loop-rest l = HasRead l.text l.lines l.rest × (length l.lines + length l.rest ≤ length l.text)

abbrev pub decreases-loop-rest : goal.decreases-loop-rest
decreases-loop-rest l = length l.rest

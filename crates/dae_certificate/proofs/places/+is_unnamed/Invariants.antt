use Rattle.std.proofs.Common.{length}
use Rattle.dae_certificate.proofs.places.+is_unnamed.Given as goal

abbrev pub decreases-is_unnamed : goal.decreases-is_unnamed
decreases-is_unnamed l = length l.lines.now

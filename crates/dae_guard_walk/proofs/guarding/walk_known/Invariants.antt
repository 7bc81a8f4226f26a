use Rattle.std.proofs.Common.{◌≡◌}
use Rattle.dae_guard.specs.Walk.{terms_of}
use Rattle.dae_guard_walk.specs.Visits.{left}
use Rattle.dae_guard_walk.proofs.guarding.walk_known.Given as goal

-- what is left of the verdict is the whole one
abbrev pub invariant-loop-place : goal.invariant-loop-place
invariant-loop-place l =
    left (terms_of l.terms.image.now l.terms.depths) l.certificate l.place ≡ left (terms_of l.terms.image.now l.terms.depths) l.certificate 0

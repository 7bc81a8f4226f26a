use Rattle.std.proofs.Common.{◌≡◌, ◌∙◌, ap, sym}
use Rattle.dae_guard.specs.Walk.{guarded, terms_of, walk_start}
use Rattle.dae_guard_walk.specs.Visits.{left}
use Rattle.dae_guard_walk.proofs.AnswerLaws.{first_ends, first_tells, says_same}
use Rattle.dae_guard_walk.proofs.guarding.walks.Goals as goal

pub returns-in-Some : goal.returns-in-Some
returns-in-Some c =
    first_tells c.args.image.now c.args.depths c.args.certificate.now c.in_ok-walked.walked c.in-Some.answer
    (c.in_ok-walked.ensures ∙ ap (walk_start (terms_of c.args.image.now c.args.depths) c.args.certificate.now) c.opened_spot.ensures.is) (sym c.in-Some.ensures)

pub returns-in_ok-answer-in-None : goal.returns-in_ok-answer-in-None
returns-in_ok-answer-in-None c =
    says_same c.in_ok-answer-in-None.answer (left (terms_of c.args.image.now c.args.depths) c.args.certificate.now 0) (guarded c.args.image.now c.args.depths c.args.certificate.now)
    (first_ends c.args.image.now c.args.depths c.args.certificate.now c.in_ok-walked.walked
    (c.in_ok-walked.ensures ∙ ap (walk_start (terms_of c.args.image.now c.args.depths) c.args.certificate.now) c.opened_spot.ensures.is) (sym c.in-None.ensures)) c.in_ok-answer-in-None.ensures

use Rattle.std.proofs.Common.{◌≡◌, ◌∙◌, ap, sym}
use Rattle.dae_certificate.specs.declared.CertificateNode.{CertificateNode}
use Rattle.dae_guard.specs.Nodes.{known_node}
use Rattle.dae_guard.specs.Walk.{terms_of, walk_start}
use Rattle.dae_guard_walk.specs.Visits.{left}
use Rattle.dae_guard_walk.proofs.AnswerLaws.{all_end, ends_at, tells_at}
use Rattle.dae_guard_walk.proofs.guarding.walk_known.Goals as goal

pub returns-in-Some : goal.returns-in-Some
returns-in-Some c =
    let t = terms_of c.args.terms.now.image.now c.args.terms.now.depths in
    tells_at t c.args.certificate.now c.loop-place.place c.index-certificate-place.result c.in_ok-walked.walked (left t c.args.certificate.now 0) c.in-Some.answer c.loop-place-test.true
    (c.in_ok-walked.ensures ∙ (ap (walk_start t c.args.certificate.now) c.known_spot.ensures.is ∙ ap (λ (k : CertificateNode). walk_start t c.args.certificate.now (known_node k)) c.index-certificate-place.is))
    c.in-Some.ensures c.loop-place.invariant

pub loop-place-preserved : goal.loop-place-preserved
loop-place-preserved c =
    let t = terms_of c.args.terms.now.image.now c.args.terms.now.depths in
    ends_at t c.args.certificate.now c.loop-place.place c.index-certificate-place.result c.in_ok-walked.walked c.answer_of.result (left t c.args.certificate.now 0) c.loop-place-test.true
    (c.in_ok-walked.ensures ∙ (ap (walk_start t c.args.certificate.now) c.known_spot.ensures.is ∙ ap (λ (k : CertificateNode). walk_start t c.args.certificate.now (known_node k)) c.index-certificate-place.is))
    c.answer_of.ensures c.in_default.not-Some c.loop-place.invariant

pub returns : goal.returns
returns c =
    let t = terms_of c.args.terms.now.image.now c.args.terms.now.depths in
    all_end t c.args.certificate.now c.loop-place.place (left t c.args.certificate.now 0) c.loop-place-test.false c.loop-place.invariant

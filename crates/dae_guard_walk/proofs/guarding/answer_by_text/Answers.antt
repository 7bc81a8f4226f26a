use Rattle.std.proofs.Common.{◌≤◌, List, length, subst, sym}
use Rattle.dae_certificate.specs.declared.CertificateNode.{CertificateNode}
use Rattle.dae_guard.specs.Walk.{guarded}
use Rattle.dae_guard_walk.specs.Answers.{AreKnown}
use Rattle.dae_guard_walk.specs.Visits.{IsAnswer}
use Rattle.dae_guard_walk.proofs.AnswerLaws.{all_known, due_answer, few_known}
use Rattle.dae_guard_walk.proofs.guarding.answer_by_text.Goals as goal

pub answer_by_nodes-requires-clause-known : goal.answer_by_nodes-requires-clause-known
answer_by_nodes-requires-clause-known c = subst AreKnown (sym c.as_slice.ensures) (all_known c.args.certificate.now c.in-Ok.nodes c.in-Ok.ensures.nodes)

pub answer_by_nodes-requires-clause-few : goal.answer_by_nodes-requires-clause-few
answer_by_nodes-requires-clause-few c =
    subst (λ (ks : List CertificateNode). length ks ≤ 64) (sym c.as_slice.ensures) (few_known c.args.certificate.now c.in-Ok.nodes c.in-Ok.ensures.nodes)

pub returns-in-Ok-clause-due : goal.returns-in-Ok-clause-due
returns-in-Ok-clause-due c =
    due_answer c.args.image.now c.args.depths c.args.certificate.now c.in-Ok.nodes c.answer_by_nodes.result c.requires.reaches c.in-Ok.ensures.nodes
    (subst (λ (ks : List CertificateNode). IsAnswer c.answer_by_nodes.result (guarded c.args.image.now c.args.depths ks)) c.as_slice.ensures c.answer_by_nodes.ensures.is)

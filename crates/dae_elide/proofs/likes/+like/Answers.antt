use Rattle.std.proofs.Common.{◌≡◌, List, sym, subst}
use Rattle.dae_ir.specs.Form.{form_of}
use Rattle.dae_ir.specs.Streams.{actions_of, mark}
use Rattle.dae_ir.specs.declared.form.Statement.{Statement}
use Rattle.dae_ir.specs.declared.stream.Branch.TheVariants.{Silent}
use Rattle.dae_ir.specs.declared.stream.Step.TheVariants as step
use Rattle.dae_elide.specs.Elided.{as_actions}
use Rattle.dae_elide.specs.Walked.{IsLike}
use Rattle.dae_elide.proofs.Walked.{if_like, loop_like, like_next, like_end}
use Rattle.dae_elide.proofs.likes.+like.Goals as goal

pub steps_like-loop-statement-preserved : goal.steps_like-loop-statement-preserved
steps_like-loop-statement-preserved t c =
    like_next c.args.statements.now c.loop-statement.statement-index c.statement-item.result c.in_ok-step.step c.loop-statement.steps.items c.push.new.self.items c.loop-statement-test.true c.statement-item.is c.in_ok-step.ensures c.in_ok-push.ensures.items c.loop-statement.invariant

pub steps_like-returns : goal.steps_like-returns
steps_like-returns t c = like_end c.args.statements.now c.loop-statement.statement-index c.loop-statement.steps.items c.loop-statement-test.false c.loop-statement.invariant

pub step_like-returns-in_ok-second-in-If : goal.step_like-returns-in_ok-second-in-If
step_like-returns-in_ok-second-in-If t c =
    let w = c.in-If in
    let p = c.in_ok-first-in-If.first in
    let q = c.in_ok-second-in-If.second in
    let one : actions_of p.items ≡ as_actions (form_of w.yes.items) = subst (λ (xs : List Statement). actions_of p.items ≡ as_actions (form_of xs)) c.deref.ensures.value c.in_ok-first-in-If.ensures in
    let two : actions_of q.items ≡ as_actions (form_of w.no.items) = subst (λ (xs : List Statement). actions_of q.items ≡ as_actions (form_of xs)) c.deref-in-If.ensures.value c.in_ok-second-in-If.ensures in
    subst (λ (s : Statement). IsLike s (step.If (mark w.place 0) (Silent w.test) p q)) (sym w.is) (if_like w.place w.test w.yes w.no p q one two)

pub step_like-returns-in_ok-second-in-Loop : goal.step_like-returns-in_ok-second-in-Loop
step_like-returns-in_ok-second-in-Loop t c =
    let w = c.in-Loop in
    let p = c.in_ok-first-in-Loop.first in
    let q = c.in_ok-second-in-Loop.second in
    let one : actions_of p.items ≡ as_actions (form_of w.body.items) = subst (λ (xs : List Statement). actions_of p.items ≡ as_actions (form_of xs)) c.deref-in-Loop.ensures.value c.in_ok-first-in-Loop.ensures in
    let two : actions_of q.items ≡ as_actions (form_of w.step.items) = subst (λ (xs : List Statement). actions_of q.items ≡ as_actions (form_of xs)) c.deref-in-Loop-2.ensures.value c.in_ok-second-in-Loop.ensures in
    subst (λ (s : Statement). IsLike s (step.Loop (mark w.place 0) p q)) (sym w.is) (loop_like w.place w.body w.step p q one two)

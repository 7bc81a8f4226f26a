use Rattle.std.proofs.Common.{List, sym, subst}
use Rattle.dae_ir.specs.Form.{form_of}
use Rattle.dae_ir.specs.declared.form.Statement.{Statement}
use Rattle.dae_ir.specs.declared.form.Statement.TheVariants as statement
use Rattle.dae_threads.specs.Threaded.{IsThreaded}
use Rattle.dae_threads.specs.Walked.{IsThreadedTo}
use Rattle.dae_threads.proofs.Walked.{simple_threaded, if_threaded, loop_threaded, threaded_none, threaded_next, threaded_all}
use Rattle.dae_threads.proofs.threading.+thread.Goals as goal

pub thread_list-loop-statement-init : goal.thread_list-loop-statement-init
thread_list-loop-statement-init t c = threaded_none c.args.statements.now c.in_ok-out.out.items c.in_ok-out.ensures.items

pub thread_list-loop-statement-preserved : goal.thread_list-loop-statement-preserved
thread_list-loop-statement-preserved t c =
    threaded_next c.args.statements.now c.loop-statement.statement-index c.statement-item.result c.in_ok-next.next c.loop-statement.out.items c.push_next.new.out.items
    c.loop-statement-test.true c.statement-item.is c.in_ok-next.ensures c.in_ok-push_next.ensures c.loop-statement.invariant

pub thread_list-returns : goal.thread_list-returns
thread_list-returns t c =
    threaded_all c.args.statements.now c.loop-statement.statement-index c.loop-statement.out.items c.loop-statement-test.false c.loop-statement.invariant

pub thread_statement-returns-in_ok-copy-in-Simple : goal.thread_statement-returns-in_ok-copy-in-Simple
thread_statement-returns-in_ok-copy-in-Simple t c =
    let w = c.in-Simple in
    let copy = c.in_ok-copy-in-Simple.copy in
    subst (λ (s : Statement). IsThreadedTo s (statement.Simple w.place copy)) (sym w.is) (simple_threaded w.place w.item copy c.in_ok-copy-in-Simple.ensures)

pub thread_statement-returns-in_ok-second-in-If : goal.thread_statement-returns-in_ok-second-in-If
thread_statement-returns-in_ok-second-in-If t c =
    let w = c.in-If in
    let p = c.in_ok-first-in-If.first in
    let q = c.in_ok-second-in-If.second in
    let one : IsThreaded (form_of w.yes.items) (form_of p.items) = subst (λ (xs : List Statement). IsThreaded (form_of xs) (form_of p.items)) c.deref.ensures.value c.in_ok-first-in-If.ensures in
    let other : IsThreaded (form_of w.no.items) (form_of q.items) = subst (λ (xs : List Statement). IsThreaded (form_of xs) (form_of q.items)) c.deref-in-If.ensures.value c.in_ok-second-in-If.ensures in
    subst (λ (s : Statement). IsThreadedTo s (statement.If w.place w.test p q)) (sym w.is) (if_threaded w.yes w.no p q one other w.place w.test)

pub thread_statement-returns-in_ok-second-in-Loop :
    goal.thread_statement-returns-in_ok-second-in-Loop
thread_statement-returns-in_ok-second-in-Loop t c =
    let w = c.in-Loop in
    let p = c.in_ok-first-in-Loop.first in
    let q = c.in_ok-second-in-Loop.second in
    let one : IsThreaded (form_of w.body.items) (form_of p.items) = subst (λ (xs : List Statement). IsThreaded (form_of xs) (form_of p.items)) c.deref-in-Loop.ensures.value c.in_ok-first-in-Loop.ensures in
    let other : IsThreaded (form_of w.step.items) (form_of q.items) = subst (λ (xs : List Statement). IsThreaded (form_of xs) (form_of q.items)) c.deref-in-Loop-2.ensures.value c.in_ok-second-in-Loop.ensures in
    subst (λ (s : Statement). IsThreadedTo s (statement.Loop w.place p q)) (sym w.is) (loop_threaded w.body w.step p q one other w.place)

use Rattle.std.proofs.Common.{List, sym, subst}
use Rattle.std.proofs.lemmas.Result.{on_ok_weaker}
use Rattle.dae_ir.specs.Form.{form_of}
use Rattle.dae_ir.specs.declared.form.Statement.{Statement}
use Rattle.dae_ir.specs.declared.form.Statement.TheVariants as statement
use Rattle.dae_threads.specs.Threaded.{IsThreaded}
use Rattle.dae_threads.specs.Walked.{IsThreadedTo}
use Rattle.dae_threads.proofs.Walked.{simple_threaded, if_threaded, loop_threaded, next_instead, threaded_none, threaded_further, threaded_all}
use Rattle.dae_threads.proofs.flattening.+flatten.Goals as goal

pub flatten_list-loop-statement-init : goal.flatten_list-loop-statement-init
flatten_list-loop-statement-init t c = threaded_none c.args.statements.now c.in_ok-out.out.items c.in_ok-out.ensures.items

pub flatten_list-loop-statement-preserved : goal.flatten_list-loop-statement-preserved
flatten_list-loop-statement-preserved t c =
    threaded_further c.args.statements.now c.loop-statement.statement-index c.statement-item.result c.loop-statement.out.items c.flatten_statement.new.out.items
    c.loop-statement-test.true c.statement-item.is c.in_ok-flatten_statement.ensures c.loop-statement.invariant

pub flatten_list-returns : goal.flatten_list-returns
flatten_list-returns t c =
    threaded_all c.args.statements.now c.loop-statement.statement-index c.loop-statement.out.items c.loop-statement-test.false c.loop-statement.invariant

pub flatten_statement-returns-in_ok-copy-in-Simple :
    goal.flatten_statement-returns-in_ok-copy-in-Simple
flatten_statement-returns-in_ok-copy-in-Simple t c =
    let w = c.in-Simple in
    let copy = c.in_ok-copy-in-Simple.copy in
    let one : IsThreadedTo c.args.statement.now (statement.Simple w.place copy) =
    subst (λ (s : Statement). IsThreadedTo s (statement.Simple w.place copy)) (sym w.is) (simple_threaded w.place w.item copy c.in_ok-copy-in-Simple.ensures) in
    on_ok_weaker c.push_statement.result
    (λ h. next_instead c.args.out.now.items c.args.statement.now (statement.Simple w.place copy) c.push_statement.new.out.items one h) c.push_statement.ensures

pub flatten_statement-returns-in_ok-second-in-If : goal.flatten_statement-returns-in_ok-second-in-If
flatten_statement-returns-in_ok-second-in-If t c =
    let w = c.in-If in
    let p = c.in_ok-first-in-If.first in
    let q = c.in_ok-second-in-If.second in
    let yes : IsThreaded (form_of w.yes.items) (form_of p.items) = subst (λ (xs : List Statement). IsThreaded (form_of xs) (form_of p.items)) c.deref.ensures.value c.in_ok-first-in-If.ensures in
    let no : IsThreaded (form_of w.no.items) (form_of q.items) = subst (λ (xs : List Statement). IsThreaded (form_of xs) (form_of q.items)) c.deref-in-If.ensures.value c.in_ok-second-in-If.ensures in
    let one : IsThreadedTo c.args.statement.now (statement.If w.place w.test p q) =
    subst (λ (s : Statement). IsThreadedTo s (statement.If w.place w.test p q)) (sym w.is) (if_threaded w.yes w.no p q yes no w.place w.test) in
    on_ok_weaker c.push_condition.result
    (λ h. next_instead c.args.out.now.items c.args.statement.now (statement.If w.place w.test p q) c.push_condition.new.out.items one h) c.push_condition.ensures

pub flatten_statement-returns-in_ok-second-in-Loop :
    goal.flatten_statement-returns-in_ok-second-in-Loop
flatten_statement-returns-in_ok-second-in-Loop t c =
    let w = c.in-Loop in
    let p = c.in_ok-first-in-Loop.first in
    let q = c.in_ok-second-in-Loop.second in
    let body : IsThreaded (form_of w.body.items) (form_of p.items) = subst (λ (xs : List Statement). IsThreaded (form_of xs) (form_of p.items)) c.deref-in-Loop.ensures.value c.in_ok-first-in-Loop.ensures in
    let step : IsThreaded (form_of w.step.items) (form_of q.items) = subst (λ (xs : List Statement). IsThreaded (form_of xs) (form_of q.items)) c.deref-in-Loop-2.ensures.value c.in_ok-second-in-Loop.ensures in
    let one : IsThreadedTo c.args.statement.now (statement.Loop w.place p q) =
    subst (λ (s : Statement). IsThreadedTo s (statement.Loop w.place p q)) (sym w.is) (loop_threaded w.body w.step p q body step w.place) in
    on_ok_weaker c.push_statement-in-Loop.result
    (λ h. next_instead c.args.out.now.items c.args.statement.now (statement.Loop w.place p q) c.push_statement-in-Loop.new.out.items one h) c.push_statement-in-Loop.ensures

use Rattle.std.proofs.Common.{◌≡◌, true, List, sym, subst}
use Rattle.dae_ir.specs.Classes.{has_test}
use Rattle.dae_ir.specs.declared.form.Statement.{Statement}
use Rattle.dae_ir.specs.declared.form.Statement.TheVariants as statement
use Rattle.dae_webs.specs.declared.plan.Renaming.{Renaming}
use Rattle.dae_webs.specs.Current.{Current, has_web}
use Rattle.dae_webs.specs.Planned.{ListRenamed, StatementRenamed, current_in, starts_in}
use Rattle.dae_webs.specs.Renamed.{Starts, renamed_test}
use Rattle.dae_webs.proofs.Steps.{both_lists, renamed_next, renamed_end, if_renamed, loop_renamed}
use Rattle.dae_webs.proofs.renaming.+rename.Goals as goal

pub rename_list-loop-statement-preserved : goal.rename_list-loop-statement-preserved
rename_list-loop-statement-preserved t c =
    renamed_next c.args.plan.now c.args.statements.now c.loop-statement.statement-index c.statement-item.result c.in_ok-renamed.renamed c.args.renaming.now c.loop-statement.renaming c.rename_statement.new.renaming c.loop-statement.out.items c.push.new.self.items
    c.loop-statement-test.true c.statement-item.is c.loop-statement.invariant c.in_ok-renamed.ensures c.in_ok-push.ensures.items

pub rename_list-returns : goal.rename_list-returns
rename_list-returns t c =
    renamed_end c.args.plan.now c.args.statements.now c.loop-statement.statement-index c.args.renaming.now c.loop-statement.renaming c.loop-statement.out.items c.loop-statement-test.false c.loop-statement.invariant

pub rename_statement-returns-in_ok-forget_in_both-in-If-3 :
    goal.rename_statement-returns-in_ok-forget_in_both-in-If-3
rename_statement-returns-in_ok-forget_in_both-in-If-3 t c =
    let w = c.in-If in
    let plan = c.args.plan.now in
    let b : Starts = starts_in plan in
    let old : Renaming = c.args.renaming.now in
    let w1 = c.forget_in_both.new.webs in
    let r2 : Renaming = c.rename_list.new.renaming in
    let w3 = c.forget_in_both-in-If.new.webs in
    let r4 : Renaming = c.rename_list-in-If.new.renaming in
    let w5 = c.forget_in_both-in-If-2.new.webs in
    let p = c.in_ok-first-in-If.first in
    let q = c.in_ok-second-in-If.second in
    let e1 = both_lists b old.definitions (current_in old) w1.items _ _ w.yes.items w.no.items c.deref-in-If.ensures.value c.deref-in-If-2.ensures.value c.in_ok-forget_in_both-in-If.ensures in
    let one : ListRenamed plan w.yes.items (record { webs = w1; definitions = old.definitions }) r2 p.items = subst (λ (xs : List Statement). ListRenamed plan xs (record { webs = w1; definitions = old.definitions }) r2 p.items) c.deref-in-If-3.ensures.value c.in_ok-first-in-If.ensures in
    let e3 = both_lists b old.definitions (current_in r2) w3.items _ _ w.yes.items w.no.items c.deref-in-If-4.ensures.value c.deref-in-If-5.ensures.value c.in_ok-forget_in_both-in-If-2.ensures in
    let two : ListRenamed plan w.no.items (record { webs = w3; definitions = r2.definitions }) r4 q.items = subst (λ (xs : List Statement). ListRenamed plan xs (record { webs = w3; definitions = r2.definitions }) r4 q.items) c.deref-in-If-6.ensures.value c.in_ok-second-in-If.ensures in
    let e5 = both_lists b old.definitions (current_in r4) w5.items _ _ w.yes.items w.no.items c.deref-in-If-7.ensures.value c.deref-in-If-8.ensures.value c.in_ok-forget_in_both-in-If-3.ensures in
    let new : Renaming = record { webs = w5; definitions = r4.definitions } in
    let test = c.in_ok-test-in-If.test in
    let is : test ≡ renamed_test (current_in old) w.test = subst (λ (m : Current). test ≡ renamed_test m w.test) c.deref.ensures.value c.in_ok-test-in-If.ensures.renamed in
    let known : has_test (has_web (current_in old)) w.test ≡ true = subst (λ (m : Current). has_test (has_web m) w.test ≡ true) c.deref.ensures.value c.in_ok-test-in-If.ensures.known in
    subst (λ (s : Statement). StatementRenamed plan s old new (statement.If w.place test p q)) (sym w.is)
    (if_renamed plan old w1 w3 w5 r2 r4 w.yes w.no p q e1 one e3 two e5 w.place w.test test is known)

pub rename_statement-returns-in_ok-forget_in_both-in-Loop-3 :
    goal.rename_statement-returns-in_ok-forget_in_both-in-Loop-3
rename_statement-returns-in_ok-forget_in_both-in-Loop-3 t c =
    let w = c.in-Loop in
    let plan = c.args.plan.now in
    let b : Starts = starts_in plan in
    let old : Renaming = c.args.renaming.now in
    let w1 = c.forget_in_both-in-Loop.new.webs in
    let r2 : Renaming = c.rename_list-in-Loop.new.renaming in
    let w3 = c.forget_in_both-in-Loop-2.new.webs in
    let r4 : Renaming = c.rename_list-in-Loop-2.new.renaming in
    let w5 = c.forget_in_both-in-Loop-3.new.webs in
    let p = c.in_ok-first-in-Loop.first in
    let q = c.in_ok-second-in-Loop.second in
    let e1 = both_lists b old.definitions (current_in old) w1.items _ _ w.body.items w.step.items c.deref-in-Loop.ensures.value c.deref-in-Loop-2.ensures.value c.in_ok-forget_in_both-in-Loop.ensures in
    let one : ListRenamed plan w.body.items (record { webs = w1; definitions = old.definitions }) r2 p.items = subst (λ (xs : List Statement). ListRenamed plan xs (record { webs = w1; definitions = old.definitions }) r2 p.items) c.deref-in-Loop-3.ensures.value c.in_ok-first-in-Loop.ensures in
    let e3 = both_lists b old.definitions (current_in r2) w3.items _ _ w.body.items w.step.items c.deref-in-Loop-4.ensures.value c.deref-in-Loop-5.ensures.value c.in_ok-forget_in_both-in-Loop-2.ensures in
    let two : ListRenamed plan w.step.items (record { webs = w3; definitions = r2.definitions }) r4 q.items = subst (λ (xs : List Statement). ListRenamed plan xs (record { webs = w3; definitions = r2.definitions }) r4 q.items) c.deref-in-Loop-6.ensures.value c.in_ok-second-in-Loop.ensures in
    let e5 = both_lists b old.definitions (current_in r4) w5.items _ _ w.body.items w.step.items c.deref-in-Loop-7.ensures.value c.deref-in-Loop-8.ensures.value c.in_ok-forget_in_both-in-Loop-3.ensures in
    let new : Renaming = record { webs = w5; definitions = r4.definitions } in
    subst (λ (s : Statement). StatementRenamed plan s old new (statement.Loop w.place p q)) (sym w.is)
    (loop_renamed plan old w1 w3 w5 r2 r4 w.body w.step p q e1 one e3 two e5 w.place)

use Rattle.std.proofs.Common.{◌≡◌, List, Some, refl, ap, sym, ◌∙◌, subst}
use Rattle.dae_ir.specs.Classes.{Classes, classes_in}
use Rattle.dae_ir.specs.Form.{form_of}
use Rattle.dae_ir.specs.declared.form.Statement.{Statement}
use Rattle.dae_ir.specs.declared.form.Statement.TheVariants as statement
use Rattle.dae_commons.specs.declared.equations.Equation.{Equation}
use Rattle.dae_commons.specs.Equations.{equations_in, known_in_loop}
use Rattle.dae_commons.specs.Copies.{propagated_test}
use Rattle.dae_commons.specs.Commoned.{IsCommonedList, IsCommonedTo, commoned_item, known_after}
use Rattle.dae_commons.proofs.Steps.{simple_commoned, if_commoned, loop_commoned, commoned_start, commoned_next, commoned_end, listed, in_loop}
use Rattle.dae_commons.proofs.commoning.+common.Goals as goal

pub common_list-loop-statement-init : goal.common_list-loop-statement-init
common_list-loop-statement-init t c =
    commoned_start (classes_in c.args.row.now) c.args.statements.now c.args.known.now (Some c.in_ok-start.start) c.in_ok-out.out.items
    (ap (λ (q : List Equation). Some q) c.in_ok-start.ensures) c.in_ok-out.ensures.items

pub common_list-loop-statement-preserved : goal.common_list-loop-statement-preserved
common_list-loop-statement-preserved t c =
    commoned_next (classes_in c.args.row.now) c.args.statements.now c.loop-statement.statement-index c.statement-item.result c.in_ok-common.common.statement c.args.known.now
    c.loop-statement.current c.in_ok-common.common.known c.loop-statement.out.items c.push.new.self.items
    c.loop-statement-test.true c.statement-item.is c.loop-statement.invariant c.in_ok-common.ensures c.in_ok-push.ensures.items

pub common_list-returns : goal.common_list-returns
common_list-returns t c =
    commoned_end (classes_in c.args.row.now) c.args.statements.now c.loop-statement.statement-index c.args.known.now c.loop-statement.current c.loop-statement.out.items
    c.loop-statement-test.false c.loop-statement.invariant

pub common_statement-returns-in_ok-common-in-Simple :
    goal.common_statement-returns-in_ok-common-in-Simple
common_statement-returns-in_ok-common-in-Simple t c =
    let w = c.in-Simple in
    let s : Classes = classes_in c.args.row.now in
    let old = c.args.known in
    let common = c.in_ok-common-in-Simple.common in
    let all = c.equations_in-equations.ensures in
    subst (λ (x : Statement). IsCommonedTo s x old common.known (statement.Simple w.place common.item)) (sym w.is)
    (simple_commoned s w.place w.item common.item old common.known (c.in_ok-common-in-Simple.ensures.item ∙ ap (λ (q : List Equation). commoned_item s q w.item) all)
    (c.in_ok-common-in-Simple.ensures.known ∙ ap (λ (q : List Equation). known_after s q w.item) all))

pub common_statement-returns-in_ok-behind-in-If : goal.common_statement-returns-in_ok-behind-in-If
common_statement-returns-in_ok-behind-in-If t c =
    let w = c.in-If in
    let s : Classes = classes_in c.args.row.now in
    let old = c.args.known in
    let p = c.in_ok-first-in-If.first in
    let q = c.in_ok-second-in-If.second in
    let new = c.in_ok-behind-in-If.behind in
    let test = c.propagate_test-test.result in
    let all = c.equations_in-equations.ensures in
    let is : test ≡ propagated_test s (equations_in old) w.test = c.propagate_test-test.ensures ∙ ap (λ (q : List Equation). propagated_test s q w.test) (c.as_slice.ensures ∙ all) in
    let first : IsCommonedList s w.yes.items (equations_in old) p.statements.items p.known = listed s _ _ _ _ _ _ _ c.in_ok-first-in-If.ensures c.deref.ensures.value refl all in
    let second : IsCommonedList s w.no.items (equations_in old) q.statements.items q.known = listed s _ _ _ _ _ _ _ c.in_ok-second-in-If.ensures c.deref-in-If.ensures.value refl all in
    subst (λ (x : Statement). IsCommonedTo s x old new (statement.If w.place test p.statements q.statements)) (sym w.is)
    (if_commoned s w.place w.yes w.no p.statements q.statements old p.known q.known new w.test test is first second c.in_ok-behind-in-If.ensures)

pub common_statement-returns-in_ok-second-in-Loop :
    goal.common_statement-returns-in_ok-second-in-Loop
common_statement-returns-in_ok-second-in-Loop t c =
    let w = c.in-Loop in
    let s : Classes = classes_in c.args.row.now in
    let old = c.args.known in
    let p = c.in_ok-first-in-Loop.first in
    let q = c.in_ok-second-in-Loop.second in
    let r : List Equation = c.in_ok-inside-in-Loop.inside in
    let is : r ≡ known_in_loop (equations_in old) (form_of w.body.items) (form_of w.step.items) = in_loop _ (equations_in old) _ w.body.items _ w.step.items r c.in_ok-inside-in-Loop.ensures c.equations_in-equations.ensures c.deref-in-Loop.ensures.value c.deref-in-Loop-2.ensures.value in
    let first : IsCommonedList s w.body.items r p.statements.items p.known = listed s _ _ _ _ _ _ _ c.in_ok-first-in-Loop.ensures c.deref-in-Loop-3.ensures.value refl refl in
    let second : IsCommonedList s w.step.items r q.statements.items q.known = listed s _ _ _ _ _ _ _ c.in_ok-second-in-Loop.ensures c.deref-in-Loop-4.ensures.value refl refl in
    subst (λ (x : Statement). IsCommonedTo s x old (Some r) (statement.Loop w.place p.statements q.statements)) (sym w.is)
    (loop_commoned s w.place w.body w.step p.statements q.statements old p.known q.known (Some r) r is first second refl)

use Rattle.std.proofs.Common.{ℕ, List, sym, subst}
use Rattle.dae_ir.specs.declared.form.Statement.{Statement}
use Rattle.dae_ir.specs.declared.form.Statement.TheVariants as statement
use Rattle.dae_hoist.specs.Kept.{Hoisting}
use Rattle.dae_hoist.specs.Planned.{IsHoistedList, IsHoistedStatement, hoisting_of, set_in}
use Rattle.dae_hoist.proofs.Steps.{simple_hoisted, if_hoisted, loop_hoisted, hoisted_start, hoisted_next, hoisted_end, same_list, same_kept}
use Rattle.dae_hoist.proofs.hoisting.+hoist.Goals as goal

pub hoist_list-loop-statement-init : goal.hoist_list-loop-statement-init
hoist_list-loop-statement-init t c = hoisted_start (hoisting_of c.args.plan.now) c.args.statements.now (set_in c.args.before.now) c.in_ok-out.out.items c.in_ok-out.ensures.items

pub hoist_list-loop-statement-preserved : goal.hoist_list-loop-statement-preserved
hoist_list-loop-statement-preserved t c =
    hoisted_next (hoisting_of c.args.plan.now) c.args.statements.now c.loop-statement.statement-index c.statement-item.result c.in_ok-hoisted.hoisted (set_in c.args.before.now) (set_in c.loop-statement.before) (set_in c.hoist_statement.new.before)
    c.loop-statement.out.items c.push.new.self.items c.loop-statement-test.true c.statement-item.is c.loop-statement.invariant c.in_ok-hoisted.ensures c.in_ok-push.ensures.items

pub hoist_list-returns : goal.hoist_list-returns
hoist_list-returns t c =
    hoisted_end (hoisting_of c.args.plan.now) c.args.statements.now c.loop-statement.statement-index (set_in c.args.before.now) (set_in c.loop-statement.before) (set_in c.forget_since.new.before) c.loop-statement.out.items c.count_set-count.result
    c.loop-statement-test.false c.loop-statement.invariant c.count_set-count.ensures c.forget_since.ensures

pub hoist_statement-returns-in_ok-note_set-in-Simple :
    goal.hoist_statement-returns-in_ok-note_set-in-Simple
hoist_statement-returns-in_ok-note_set-in-Simple t c =
    let w = c.in-Simple in
    let h : Hoisting = hoisting_of c.args.plan.now in
    let old : List ℕ = set_in c.args.before.now in
    let new : List ℕ = set_in c.note_set.new.before in
    let item = c.in_ok-hoisted-in-Simple.hoisted in
    subst (λ (s : Statement). IsHoistedStatement h s old new (statement.Simple w.place item)) (sym w.is)
    (simple_hoisted h w.place w.item item old new c.in_ok-hoisted-in-Simple.ensures.item (same_kept h _ old w.item c.in_ok-hoisted-in-Simple.ensures.kept c.deref.ensures.value) c.in_ok-note_set-in-Simple.ensures)

pub hoist_statement-returns-in_ok-second-in-If :
    goal.hoist_statement-returns-in_ok-second-in-If
hoist_statement-returns-in_ok-second-in-If t c =
    let w = c.in-If in
    let h : Hoisting = hoisting_of c.args.plan.now in
    let old : List ℕ = set_in c.args.before.now in
    let mid : List ℕ = set_in c.hoist_list.new.before in
    let new : List ℕ = set_in c.hoist_list-in-If.new.before in
    let p = c.in_ok-first-in-If.first in
    let q = c.in_ok-second-in-If.second in
    let one : IsHoistedList h w.yes.items old mid p.items = same_list h _ w.yes.items old mid p.items c.in_ok-first-in-If.ensures c.deref-in-If.ensures.value in
    let two : IsHoistedList h w.no.items mid new q.items = same_list h _ w.no.items mid new q.items c.in_ok-second-in-If.ensures c.deref-in-If-2.ensures.value in
    subst (λ (s : Statement). IsHoistedStatement h s old new (statement.If w.place w.test p q)) (sym w.is)
    (if_hoisted h old mid new w.yes w.no p q one two w.place w.test c.in_ok-keep_test-in-If.ensures)

pub hoist_statement-returns-in_ok-second-in-Loop :
    goal.hoist_statement-returns-in_ok-second-in-Loop
hoist_statement-returns-in_ok-second-in-Loop t c =
    let w = c.in-Loop in
    let h : Hoisting = hoisting_of c.args.plan.now in
    let old : List ℕ = set_in c.args.before.now in
    let mid : List ℕ = set_in c.hoist_list-in-Loop.new.before in
    let new : List ℕ = set_in c.hoist_list-in-Loop-2.new.before in
    let p = c.in_ok-first-in-Loop.first in
    let q = c.in_ok-second-in-Loop.second in
    let one : IsHoistedList h w.body.items old mid p.items = same_list h _ w.body.items old mid p.items c.in_ok-first-in-Loop.ensures c.deref-in-Loop.ensures.value in
    let two : IsHoistedList h w.step.items mid new q.items = same_list h _ w.step.items mid new q.items c.in_ok-second-in-Loop.ensures c.deref-in-Loop-2.ensures.value in
    subst (λ (s : Statement). IsHoistedStatement h s old new (statement.Loop w.place p q)) (sym w.is)
    (loop_hoisted h old mid new w.body w.step p q one two w.place)

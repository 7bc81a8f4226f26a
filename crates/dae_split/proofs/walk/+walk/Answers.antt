use Rattle.std.proofs.Common.{ℕ, ◌+◌, ◌*◌, ◌<◌, List, [], ap, ◌∙◌, subst, arith}
use Rattle.std.proofs.lemmas.Bool.{not-false, not-true}
use Rattle.dae_ir.specs.Code.{Done, If, Loop}
use Rattle.dae_ir.specs.Form.{Form, before, form_of}
use Rattle.dae_ir.specs.Classes.{classes_of}
use Rattle.dae_ir.specs.Rounds.{region, rounds}
use Rattle.dae_ir.specs.Streams.{onto}
use Rattle.dae_ir.proofs.form.Statement.TheLaws.{the_size}
use Rattle.dae_ir.specs.declared.form.Statement.{Statement}
use Rattle.dae_split.specs.Making.{is_a, lies_outside, projected, stands_in, is_outside, tells_in}
use Rattle.dae_split.proofs.Calls.{calls_in_if, calls_in_loop, calls_from, calls_at}
use Rattle.dae_ir.proofs.Laws.{before_if, before_loop}
use Rattle.dae_split.proofs.Shared.{if_made, if_left, loop_made, at_code}
use Rattle.dae_split.proofs.Sizes.{deepest, first_in_if, second_in_if, first_in_loop, second_in_loop, list_below, item_below}
use Rattle.dae_split.proofs.Upto.{one_more, all_made}
use Rattle.dae_split.proofs.walk.+walk.Goals as goal

pub add_statement-list-requires : goal.add_statement-list-requires
add_statement-list-requires t c =
    let a = c.args in
    let i = c.in-If in
    let below = list_below c.deref.result.now i.p.items a.statement.now c.deref.ensures.value (first_in_if i.place i.test i.p i.q a.statement.now i.is) in (
      subst (λ (n : ℕ). 2 * deepest c.deref.result.now + 1 < n) c.decreases below,
      calls_at a.functions.now _ _ c.deref.ensures.value (calls_in_if a.functions.now i.place i.test i.p i.q a.statement.now i.is c.requires.fit).0,
    )

pub add_statement-list-requires-in-If : goal.add_statement-list-requires-in-If
add_statement-list-requires-in-If t c =
    let a = c.args in
    let i = c.in-If in
    let below = list_below c.deref-in-If.result.now i.q.items a.statement.now c.deref-in-If.ensures.value (second_in_if i.place i.test i.p i.q a.statement.now i.is) in (
      subst (λ (n : ℕ). 2 * deepest c.deref-in-If.result.now + 1 < n) c.decreases below,
      calls_at a.functions.now _ _ c.deref-in-If.ensures.value (calls_in_if a.functions.now i.place i.test i.p i.q a.statement.now i.is c.requires.fit).1,
    )

pub add_statement-list-requires-in-Loop : goal.add_statement-list-requires-in-Loop
add_statement-list-requires-in-Loop t c =
    let a = c.args in
    let i = c.in-Loop in
    let below = list_below c.deref-in-Loop.result.now i.body.items a.statement.now c.deref-in-Loop.ensures.value (first_in_loop i.place i.body i.step a.statement.now i.is) in (
      subst (λ (n : ℕ). 2 * deepest c.deref-in-Loop.result.now + 1 < n) c.decreases below,
      calls_at a.functions.now _ _ c.deref-in-Loop.ensures.value (calls_in_loop a.functions.now i.place i.body i.step a.statement.now i.is c.requires.fit).0,
    )

pub add_statement-list-requires-in-Loop-2 : goal.add_statement-list-requires-in-Loop-2
add_statement-list-requires-in-Loop-2 t c =
    let a = c.args in
    let i = c.in-Loop in
    let below = list_below c.deref-in-Loop-2.result.now i.step.items a.statement.now c.deref-in-Loop-2.ensures.value (second_in_loop i.place i.body i.step a.statement.now i.is) in (
      subst (λ (n : ℕ). 2 * deepest c.deref-in-Loop-2.result.now + 1 < n) c.decreases below,
      calls_at a.functions.now _ _ c.deref-in-Loop-2.ensures.value (calls_in_loop a.functions.now i.place i.body i.step a.statement.now i.is c.requires.fit).1,
    )

pub add_statement-returns-then-not-plan-clause-made : goal.add_statement-returns-then-not-plan-clause-made
add_statement-returns-then-not-plan-clause-made t c k =
    let a = c.args in
    let i = c.in-If in
    let by_a = is_a a.task.side in
    let of = classes_of a.tables.now in
    let cl = of a.task.function in
    let plan = c.plan_of-plan in
    let old = a.x.now in
    let mid = c.close.new.x in
    let same = λ (rest : Form). ap (λ (s : Statement). before s rest) i.is ∙ before_if i.place i.test i.p i.q rest in
    at_code (projected (lies_outside a.zone) by_a of cl a.task.cap) cl a.task.cap (lies_outside a.zone) old.steps.items c.put.new.steps.items old.number mid.number old.group.items _ (before a.statement.now k) (If i.place i.test (form_of i.p.items) (form_of i.q.items) k) (same k)
    (if_left by_a (lies_outside a.zone) of cl a.task.cap i.place plan.result.stands plan.result.tells old.steps.items mid.steps.items c.put.new.steps.items
    old.number mid.number old.group.items mid.group.items c.at-mark.result c.at-mark.ensures c.region_message.result c.region_message.ensures c.in_ok-close-in-If.ensures.group c.in_ok-close-in-If.ensures.made
    (not-true plan.result.stands c.if-not-plan.true) c.in_ok-put-in-If.ensures
    i.test (form_of i.p.items) (form_of i.q.items)
    (plan.ensures.stands ∙ ap (λ (code : Form). stands_in by_a (region (lies_outside a.zone) cl code)) (same Done))
    (plan.ensures.tells ∙ ap (λ (code : Form). tells_in (region (lies_outside a.zone) cl code) code) (same Done)) k)

pub add_statement-returns-in_ok-put-in-If-2-clause-made : goal.add_statement-returns-in_ok-put-in-If-2-clause-made
add_statement-returns-in_ok-put-in-If-2-clause-made t c k =
    let a = c.args in
    let i = c.in-If in
    let by_a = is_a a.task.side in
    let of = classes_of a.tables.now in
    let cl = of a.task.function in
    let plan = c.plan_of-plan in
    let old = a.x.now in
    let mid = c.close.new.x in
    let same = λ (rest : Form). ap (λ (s : Statement). before s rest) i.is ∙ before_if i.place i.test i.p i.q rest in
    let all = λ (l : List Statement). projected (lies_outside plan.result.zone) by_a of cl a.task.cap 0 (rounds cl a.task.cap (lies_outside plan.result.zone) (form_of l) []) in
    let first = c.in_ok-first-in-If.ensures ∙ ap all c.deref.ensures.value in
    let second = c.in_ok-second-in-If.ensures ∙ ap all c.deref-in-If.ensures.value in
    at_code (projected (lies_outside a.zone) by_a of cl a.task.cap) cl a.task.cap (lies_outside a.zone) old.steps.items c.put-in-If.new.steps.items old.number mid.number old.group.items _ (before a.statement.now k) (If i.place i.test (form_of i.p.items) (form_of i.q.items) k) (same k)
    (if_made by_a (lies_outside a.zone) of cl a.task.cap i.place plan.result.stands (lies_outside plan.result.zone) plan.result.tells old.steps.items mid.steps.items c.put_if.new.steps.items c.put-in-If.new.steps.items
    old.number mid.number old.group.items mid.group.items c.at-mark.result c.at-mark.ensures c.region_message-in-If.result c.region_message-in-If.ensures c.in_ok-close-in-If.ensures.group c.in_ok-close-in-If.ensures.made
    (not-false plan.result.stands c.if-not-plan.false) c.in_ok-put-in-If-2.ensures
    i.test (form_of i.p.items) (form_of i.q.items) c.branch-branch.result (onto c.in_ok-first-in-If.first.items Done) (onto c.in_ok-second-in-If.second.items Done)
    (plan.ensures.stands ∙ ap (λ (code : Form). stands_in by_a (region (lies_outside a.zone) cl code)) (same Done))
    (plan.ensures.outside ∙ ap (λ (code : Form). is_outside (lies_outside a.zone) (region (lies_outside a.zone) cl code)) (same Done))
    (plan.ensures.tells ∙ ap (λ (code : Form). tells_in (region (lies_outside a.zone) cl code) code) (same Done)) c.branch-branch.ensures first second
    c.in_ok-put_if-in-If.ensures k)

pub add_statement-returns-in_ok-put-in-Loop-2-clause-made : goal.add_statement-returns-in_ok-put-in-Loop-2-clause-made
add_statement-returns-in_ok-put-in-Loop-2-clause-made t c k =
    let a = c.args in
    let i = c.in-Loop in
    let by_a = is_a a.task.side in
    let of = classes_of a.tables.now in
    let cl = of a.task.function in
    let plan = c.plan_of-plan-in-Loop in
    let old = a.x.now in
    let mid = c.close-in-Loop.new.x in
    let same = λ (rest : Form). ap (λ (s : Statement). before s rest) i.is ∙ before_loop i.place i.body i.step rest in
    let all = λ (l : List Statement). projected (lies_outside plan.result.zone) by_a of cl a.task.cap 0 (rounds cl a.task.cap (lies_outside plan.result.zone) (form_of l) []) in
    let first = c.in_ok-first-in-Loop.ensures ∙ ap all c.deref-in-Loop.ensures.value in
    let second = c.in_ok-second-in-Loop.ensures ∙ ap all c.deref-in-Loop-2.ensures.value in
    at_code (projected (lies_outside a.zone) by_a of cl a.task.cap) cl a.task.cap (lies_outside a.zone) old.steps.items c.put-in-Loop.new.steps.items old.number mid.number old.group.items _ (before a.statement.now k) (Loop i.place (form_of i.body.items) (form_of i.step.items) k) (same k)
    (loop_made by_a (lies_outside a.zone) of cl a.task.cap i.place plan.result.stands (lies_outside plan.result.zone) plan.result.tells old.steps.items mid.steps.items c.put_loop.new.steps.items c.put-in-Loop.new.steps.items
    old.number mid.number old.group.items mid.group.items c.at-mark-in-Loop.result c.at-mark-in-Loop.ensures c.region_message-in-Loop.result c.region_message-in-Loop.ensures c.in_ok-close-in-Loop.ensures.group c.in_ok-close-in-Loop.ensures.made
    (not-false plan.result.stands c.if-not-plan-2.false) c.in_ok-put-in-Loop-2.ensures
    (form_of i.body.items) (form_of i.step.items) (onto c.in_ok-first-in-Loop.first.items Done) (onto c.in_ok-second-in-Loop.second.items Done)
    (plan.ensures.stands ∙ ap (λ (code : Form). stands_in by_a (region (lies_outside a.zone) cl code)) (same Done))
    (plan.ensures.outside ∙ ap (λ (code : Form). is_outside (lies_outside a.zone) (region (lies_outside a.zone) cl code)) (same Done))
    (plan.ensures.tells ∙ ap (λ (code : Form). tells_in (region (lies_outside a.zone) cl code) code) (same Done)) first second
    c.in_ok-put_loop-in-Loop.ensures k)

pub list-add_statement-requires : goal.list-add_statement-requires
list-add_statement-requires t c =
    let l = c.loop-statement in
    let s = c.statement-item.result in
    let body = c.args.body.now in
    let fit = calls_from c.args.functions.now body l.statement-index s c.loop-statement-test.true c.statement-item.is l.invariant.fit in (
      subst (λ (n : ℕ). 2 * the_size s + 0 < n) c.decreases (item_below body l.statement-index s c.loop-statement-test.true c.statement-item.is),
      (omega (arith, l.invariant.few, c.loop-statement-test.true), fit.0),
    )

pub list-loop-statement-preserved : goal.list-loop-statement-preserved
list-loop-statement-preserved t c =
    let a = c.args in
    let l = c.loop-statement in
    let of = classes_of a.tables.now in
    let fit = calls_from a.functions.now a.body.now l.statement-index c.statement-item.result c.loop-statement-test.true c.statement-item.is l.invariant.fit in
    record {
      made = one_more (lies_outside a.zone) (is_a a.task.side) of (of a.task.function) a.task.cap a.body.now l.statement-index l.x.group.items l.x.steps.items c.add_statement.new.x.steps.items
          l.x.number c.add_statement.new.x.number l.invariant.made c.statement-item.result c.add_statement.new.x.group.items
          c.loop-statement-test.true c.statement-item.is c.in_ok-add_statement.ensures.made;
      few = omega (arith, l.invariant.few, c.in_ok-add_statement.ensures.number);
      fit = fit.1;
    }

pub list-returns : goal.list-returns
list-returns t c =
    let a = c.args in
    let l = c.loop-statement in
    let of = classes_of a.tables.now in
    all_made (lies_outside a.zone) (is_a a.task.side) of (of a.task.function) a.task.cap a.body.now l.statement-index l.x.group.items l.x.steps.items c.close.new.x.steps.items
    l.x.number c.close.new.x.number l.invariant.made c.loop-statement-test.false c.in_ok-close.ensures.made

use Rattle.std.proofs.Common.{◌∙◌, ap, sym, true, false, ◌||◌}
use Rattle.dae_lower.specs.Lowering.{arms_continue, continues}
use Rattle.dae_lower_programs.proofs.Searching.{arm_at, none_or, or_none, statement_at}
use Rattle.dae_program.proofs.LawsOfTrees.{arms_end, statements_end, view_if, view_switch}
use Rattle.dae_program.specs.Trees.{Done}
use Rattle.dae_program.specs.Views.{view_statements, arms_of}
use Rattle.dae_lower_programs.proofs.continuing.+continues.Goals as goal

pub continues-returns-then-statement_continues : goal.continues-returns-then-statement_continues
continues-returns-then-statement_continues t c =
    let xs = c.args.statements.now in
    statement_at xs c.loop-s.s-index c.s-item.result true c.loop-s-test.true c.s-item.is c.loop-s.invariant (sym c.if-statement_continues.true ∙ c.statement_continues.ensures)

pub continues-loop-s-preserved : goal.continues-loop-s-preserved
continues-loop-s-preserved t c =
    let xs = c.args.statements.now in
    statement_at xs c.loop-s.s-index c.s-item.result false c.loop-s-test.true c.s-item.is c.loop-s.invariant (sym c.if-statement_continues.false ∙ c.statement_continues.ensures)

pub continues-returns : goal.continues-returns
continues-returns t c = sym (ap continues (statements_end c.args.statements.now c.loop-s.s-index c.loop-s-test.false)) ∙ c.loop-s.invariant

pub arms_continue-returns-then-continues : goal.arms_continue-returns-then-continues
arms_continue-returns-then-continues t c =
    let xs = c.args.arms.now in
    arm_at xs c.loop-arm.arm-index c.arm-item.result true c.loop-arm-test.true c.arm-item.is c.loop-arm.invariant (sym c.if-continues.true ∙ c.continues.ensures ∙ ap (λ ss. continues (view_statements ss)) c.deref.ensures.value)

pub arms_continue-loop-arm-preserved : goal.arms_continue-loop-arm-preserved
arms_continue-loop-arm-preserved t c =
    let xs = c.args.arms.now in
    arm_at xs c.loop-arm.arm-index c.arm-item.result false c.loop-arm-test.true c.arm-item.is c.loop-arm.invariant (sym c.if-continues.false ∙ c.continues.ensures ∙ ap (λ ss. continues (view_statements ss)) c.deref.ensures.value)

pub arms_continue-returns : goal.arms_continue-returns
arms_continue-returns t c = sym (ap arms_continue (arms_end c.args.arms.now c.loop-arm.arm-index c.loop-arm-test.false)) ∙ c.loop-arm.invariant

pub statement_continues-returns-then-continues : goal.statement_continues-returns-then-continues
statement_continues-returns-then-continues t c =
    rw (c.in-If.is) (c.if-continues.true ∙ sym (ap continues (view_if c.in-If.field-0 c.in-If.field-1 c.in-If.yes c.in-If.no Done) ∙ ap (λ b. b || (continues (view_statements c.in-If.no.items) || false)) (ap (λ ss. continues (view_statements ss)) (sym c.deref.ensures.value) ∙ sym c.continues.ensures ∙ c.if-continues.true)))

pub statement_continues-returns-else-continues : goal.statement_continues-returns-else-continues
statement_continues-returns-else-continues t c =
    rw (c.in-If.is) (c.continues-else-continues.ensures ∙ ap (λ ss. continues (view_statements ss)) c.deref-else-continues.ensures.value
    ∙ sym (ap continues (view_if c.in-If.field-0 c.in-If.field-1 c.in-If.yes c.in-If.no Done)
    ∙ none_or (continues (view_statements c.in-If.yes.items)) (continues (view_statements c.in-If.no.items)) (ap (λ ss. continues (view_statements ss)) (sym c.deref.ensures.value) ∙ sym c.continues.ensures ∙ c.if-continues.false)))

pub statement_continues-returns-in-Switch : goal.statement_continues-returns-in-Switch
statement_continues-returns-in-Switch t c =
    rw (c.in-Switch.is) (c.arms_continue.ensures ∙ ap (λ arms. arms_continue (arms_of arms)) c.deref-in-Switch.ensures.value
    ∙ sym (ap continues (view_switch c.in-Switch.field-0 c.in-Switch.field-1 c.in-Switch.arms Done) ∙ or_none (arms_continue (arms_of c.in-Switch.arms.items))))

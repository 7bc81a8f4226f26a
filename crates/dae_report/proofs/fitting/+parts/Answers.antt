use Rattle.dae_report.proofs.Parts.{counted_further, counted_whole, counted_if, counted_loop}
use Rattle.dae_report.proofs.fitting.+parts.Goals as goal

pub parts_in_list-loop-statement-preserved : goal.parts_in_list-loop-statement-preserved
parts_in_list-loop-statement-preserved t c =
    counted_further c.args.statements.now c.loop-statement.statement-index c.statement-item.result c.loop-statement.parts c.parts_in_statement.result c.saturating_add-parts.result
    c.loop-statement-test.true c.statement-item.is c.loop-statement.invariant c.parts_in_statement.ensures c.saturating_add-parts.ensures

pub parts_in_list-returns : goal.parts_in_list-returns
parts_in_list-returns t c = counted_whole c.args.statements.now c.loop-statement.statement-index c.loop-statement.parts c.loop-statement-test.false c.loop-statement.invariant

pub parts_in_statement-returns-in-If : goal.parts_in_statement-returns-in-If
parts_in_statement-returns-in-If t c =
    let w = c.in-If in
    rw w.is
    (counted_if w.field-0 w.field-1 w.yes w.no c.parts_in_list.result c.parts_in_list-in-If.result c.saturating_add-branches.result c.saturating_add.result
    (rw c.deref.ensures.value at c.parts_in_list.ensures)
    (rw c.deref-in-If.ensures.value at c.parts_in_list-in-If.ensures)
    c.saturating_add-branches.ensures c.saturating_add.ensures)

pub parts_in_statement-returns-in-Loop : goal.parts_in_statement-returns-in-Loop
parts_in_statement-returns-in-Loop t c =
    let w = c.in-Loop in
    rw w.is
    (counted_loop w.field-0 w.body w.step c.parts_in_list-in-Loop.result c.parts_in_list-in-Loop-2.result c.saturating_add-in-Loop.result
    (rw c.deref-in-Loop.ensures.value at c.parts_in_list-in-Loop.ensures)
    (rw c.deref-in-Loop-2.ensures.value at c.parts_in_list-in-Loop-2.ensures)
    c.saturating_add-in-Loop.ensures)

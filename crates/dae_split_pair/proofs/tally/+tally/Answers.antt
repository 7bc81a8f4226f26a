use Rattle.dae_split_pair.proofs.Totals.{if_counted, loop_counted}
use Rattle.dae_split_pair.proofs.tally.+tally.Goals as goal

pub with_step-returns-in-If-clause-rest : goal.with_step-returns-in-If-clause-rest
with_step-returns-in-If-clause-rest t c =
    let w = c.in-If in
    if_counted c.args.kind c.args.tally c.with_lists.result c.args.step.now w.field-0 w.field-1 w.yes w.no c.most.result c.most-in-If.result w.is
    (rw c.deref.ensures.value at c.most.ensures) (rw c.deref-in-If.ensures.value at c.most-in-If.ensures) c.with_lists.ensures

pub with_step-returns-in-Loop-clause-rest : goal.with_step-returns-in-Loop-clause-rest
with_step-returns-in-Loop-clause-rest t c =
    let w = c.in-Loop in
    loop_counted c.args.kind c.args.tally c.with_lists-in-Loop.result c.args.step.now w.field-0 w.body w.step c.most-in-Loop.result c.most-in-Loop-2.result w.is
    (rw c.deref-in-Loop.ensures.value at c.most-in-Loop.ensures) (rw c.deref-in-Loop-2.ensures.value at c.most-in-Loop-2.ensures) c.with_lists-in-Loop.ensures

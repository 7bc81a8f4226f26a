use Rattle.std.proofs.Common.{rules}
use Rattle.dae_ir.specs.Form.{form_of}
use Rattle.dae_ir.specs.declared.form.Statement.{the_lemmas}
use Rattle.dae_slice.specs.Graphs.{exists}
use Rattle.dae_slice.proofs.Statements.{like_targets, if_targets, loop_targets, item_linked, if_linked, loop_linked, statement_targets, walked_next, walked_last}
use Rattle.dae_slice.proofs.Adds.{like_both}
use Rattle.dae_slice.proofs.walk.+walk.Goals as goal

pub link_statement-link_statements-requires : goal.link_statement-link_statements-requires
link_statement-link_statements-requires t c =
    let w = c.in-If in
    let f = c.args.function in
    let k = if_targets (exists c.args.graph.now) f c.args.statement.now w.field-0 w.test w.yes w.no w.is c.requires in
    (search (rules, the_lemmas), rw c.deref.ensures.value (like_targets f (form_of w.yes.items) c.args.graph.now c.link_test.new.graph c.in_ok-link_test-in-If.ensures.like k.0))

pub link_statement-link_statements-requires-in-If : goal.link_statement-link_statements-requires-in-If
link_statement-link_statements-requires-in-If t c =
    let w = c.in-If in
    let f = c.args.function in
    let k = if_targets (exists c.args.graph.now) f c.args.statement.now w.field-0 w.test w.yes w.no w.is c.requires in
    let like = like_both c.args.graph.now c.link_test.new.graph c.link_statements.new.graph c.in_ok-link_test-in-If.ensures.like c.in_ok-link_statements-in-If.ensures.like in
    (search (rules, the_lemmas), rw c.deref-in-If.ensures.value (like_targets f (form_of w.no.items) c.args.graph.now c.link_statements.new.graph like k.1))

pub link_statement-link_statements-requires-in-Loop : goal.link_statement-link_statements-requires-in-Loop
link_statement-link_statements-requires-in-Loop t c =
    let w = c.in-Loop in
    let k = loop_targets (exists c.args.graph.now) c.args.function c.args.statement.now w.field-0 w.body w.step w.is c.requires in
    (search (rules, the_lemmas), rw c.deref-in-Loop.ensures.value k.0)

pub link_statement-link_statements-requires-in-Loop-2 : goal.link_statement-link_statements-requires-in-Loop-2
link_statement-link_statements-requires-in-Loop-2 t c =
    let w = c.in-Loop in
    let f = c.args.function in
    let k = loop_targets (exists c.args.graph.now) f c.args.statement.now w.field-0 w.body w.step w.is c.requires in
    (search (rules, the_lemmas), rw c.deref-in-Loop-2.ensures.value (like_targets f (form_of w.step.items) c.args.graph.now c.link_statements-in-Loop.new.graph c.in_ok-link_statements-in-Loop.ensures.like k.1))

pub link_statement-returns-in_ok-link_item-in-Simple : goal.link_statement-returns-in_ok-link_item-in-Simple
link_statement-returns-in_ok-link_item-in-Simple t c =
    let w = c.in-Simple in
    rw w.is (item_linked c.args.sought c.args.function w.field-0 w.item c.args.graph.now c.link_item.new.graph c.in_ok-link_item-in-Simple.ensures)

pub link_statement-returns-in_ok-link_statements-in-If-2 : goal.link_statement-returns-in_ok-link_statements-in-If-2
link_statement-returns-in_ok-link_statements-in-If-2 t c =
    let w = c.in-If in
    if_linked c.args.sought c.args.function c.args.statement.now w.field-0 w.test w.yes w.no c.args.graph.now c.link_test.new.graph c.link_statements.new.graph c.link_statements-in-If.new.graph w.is
    c.in_ok-link_test-in-If.ensures
    (rw c.deref.ensures.value at c.in_ok-link_statements-in-If.ensures)
    (rw c.deref-in-If.ensures.value at c.in_ok-link_statements-in-If-2.ensures)

pub link_statement-returns-in_ok-link_statements-in-Loop-2 : goal.link_statement-returns-in_ok-link_statements-in-Loop-2
link_statement-returns-in_ok-link_statements-in-Loop-2 t c =
    let w = c.in-Loop in
    loop_linked c.args.sought c.args.function c.args.statement.now w.field-0 w.body w.step c.args.graph.now c.link_statements-in-Loop.new.graph c.link_statements-in-Loop-2.new.graph w.is
    (rw c.deref-in-Loop.ensures.value at c.in_ok-link_statements-in-Loop.ensures)
    (rw c.deref-in-Loop-2.ensures.value at c.in_ok-link_statements-in-Loop-2.ensures)

pub link_statements-link_statement-requires : goal.link_statements-link_statement-requires
link_statements-link_statement-requires t c =
    (search (rules, the_lemmas), statement_targets c.args.sought c.args.function c.args.statements.now c.loop-statement.statement-index c.statement-item.result c.args.graph.now c.loop-statement.graph c.loop-statement-test.true c.statement-item.is c.loop-statement.invariant)

pub link_statements-loop-statement-preserved : goal.link_statements-loop-statement-preserved
link_statements-loop-statement-preserved t c =
    walked_next c.args.sought c.args.function c.args.statements.now c.loop-statement.statement-index c.statement-item.result c.args.graph.now c.loop-statement.graph c.loop-statement-test.true c.statement-item.is c.loop-statement.invariant c.link_statement.new.graph c.in_ok-link_statement.ensures

pub link_statements-returns : goal.link_statements-returns
link_statements-returns t c =
    walked_last c.args.sought c.args.function c.args.statements.now c.loop-statement.statement-index c.args.graph.now c.loop-statement.graph c.loop-statement-test.false c.loop-statement.invariant

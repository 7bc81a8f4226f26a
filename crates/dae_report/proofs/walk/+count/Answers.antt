use Rattle.std.proofs.Common.{rules}
use Rattle.dae_ir.specs.Classes.{classes_in}
use Rattle.dae_ir.specs.declared.form.Statement.{the_lemmas}
use Rattle.dae_report.proofs.Sums.{adds_nothing, item_adds, if_adds, loop_adds, counted_next, counted_end}
use Rattle.dae_report.proofs.Parts.{room_at, room_for_test, room_in_first, room_in_second, room_in_body, room_in_step}
use Rattle.dae_report.proofs.walk.+count.Goals as goal

pub count_statement-count_item-requires : goal.count_statement-count_item-requires
count_statement-count_item-requires t c = rw c.in-Simple.is at c.requires

pub count_statement-count_test-requires : goal.count_statement-count_test-requires
count_statement-count_test-requires t c =
    let w = c.in-If in
    room_for_test (classes_in c.args.row.now) w.field-0 w.test w.yes w.no c.args.counts.now (rw w.is at c.requires)

pub count_statement-count_statements-requires : goal.count_statement-count_statements-requires
count_statement-count_statements-requires t c =
    let w = c.in-If in (
      search (rules, the_lemmas),
      rw c.deref.ensures.value
          (room_in_first (classes_in c.args.row.now) w.field-0 w.test w.yes w.no c.args.counts.now (rw w.is at c.requires) c.count_test.new.counts c.count_test.ensures),
    )

pub count_statement-count_statements-requires-in-If : goal.count_statement-count_statements-requires-in-If
count_statement-count_statements-requires-in-If t c =
    let w = c.in-If in (
      search (rules, the_lemmas),
      rw c.deref-in-If.ensures.value
          (room_in_second (classes_in c.args.row.now) w.field-0 w.test w.yes w.no c.args.counts.now (rw w.is at c.requires) c.count_test.new.counts c.count_statements.new.counts
          c.count_test.ensures (rw c.deref.ensures.value at c.count_statements.ensures)),
    )

pub count_statement-count_statements-requires-in-Loop : goal.count_statement-count_statements-requires-in-Loop
count_statement-count_statements-requires-in-Loop t c =
    let w = c.in-Loop in (
      search (rules, the_lemmas),
      rw c.deref-in-Loop.ensures.value
          (room_in_body (classes_in c.args.row.now) w.field-0 w.body w.step c.args.counts.now (rw w.is at c.requires)),
    )

pub count_statement-count_statements-requires-in-Loop-2 : goal.count_statement-count_statements-requires-in-Loop-2
count_statement-count_statements-requires-in-Loop-2 t c =
    let w = c.in-Loop in (
      search (rules, the_lemmas),
      rw c.deref-in-Loop-2.ensures.value
          (room_in_step (classes_in c.args.row.now) w.field-0 w.body w.step c.args.counts.now (rw w.is at c.requires) c.count_statements-in-Loop.new.counts
          (rw c.deref-in-Loop.ensures.value at c.count_statements-in-Loop.ensures)),
    )

pub count_statement-returns-in-Simple : goal.count_statement-returns-in-Simple
count_statement-returns-in-Simple t c =
    let w = c.in-Simple in
    rw w.is (item_adds (classes_in c.args.row.now) w.field-0 w.item c.args.counts.now c.count_item.new.counts c.count_item.ensures)

pub count_statement-returns-in-If : goal.count_statement-returns-in-If
count_statement-returns-in-If t c =
    let w = c.in-If in
    rw w.is
    (if_adds (classes_in c.args.row.now) w.field-0 w.test w.yes w.no c.args.counts.now c.count_test.new.counts c.count_statements.new.counts c.count_statements-in-If.new.counts
    c.count_test.ensures
    (rw c.deref.ensures.value at c.count_statements.ensures)
    (rw c.deref-in-If.ensures.value at c.count_statements-in-If.ensures))

pub count_statement-returns-in-Loop : goal.count_statement-returns-in-Loop
count_statement-returns-in-Loop t c =
    let w = c.in-Loop in
    rw w.is
    (loop_adds (classes_in c.args.row.now) w.field-0 w.body w.step c.args.counts.now c.count_statements-in-Loop.new.counts c.count_statements-in-Loop-2.new.counts
    (rw c.deref-in-Loop.ensures.value at c.count_statements-in-Loop.ensures)
    (rw c.deref-in-Loop-2.ensures.value at c.count_statements-in-Loop-2.ensures))

pub count_statements-count_statement-requires : goal.count_statements-count_statement-requires
count_statements-count_statement-requires t c = (
  search (rules, the_lemmas),
  room_at (classes_in c.args.row.now) c.args.statements.now c.loop-statement.statement-index c.statement-item.result c.args.counts.now c.loop-statement.counts
      c.loop-statement-test.true c.statement-item.is c.loop-statement.invariant c.requires,
)

pub count_statements-loop-statement-init : goal.count_statements-loop-statement-init
count_statements-loop-statement-init t c = adds_nothing (classes_in c.args.row.now) c.args.counts.now

pub count_statements-loop-statement-preserved : goal.count_statements-loop-statement-preserved
count_statements-loop-statement-preserved t c =
    counted_next (classes_in c.args.row.now) c.args.statements.now c.loop-statement.statement-index c.statement-item.result c.args.counts.now c.loop-statement.counts c.count_statement.new.counts
    c.loop-statement-test.true c.statement-item.is c.loop-statement.invariant c.count_statement.ensures

pub count_statements-returns : goal.count_statements-returns
count_statements-returns t c =
    counted_end (classes_in c.args.row.now) c.args.statements.now c.loop-statement.statement-index c.args.counts.now c.loop-statement.counts c.loop-statement-test.false c.loop-statement.invariant

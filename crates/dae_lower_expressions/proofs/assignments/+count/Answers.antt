use Rattle.dae_lower_expressions.proofs.Counting.{never_changed, both_changed, first_counted, next_counted, last_counted}
use Rattle.dae_program.proofs.LawsOfTrees.{by_call, view_at, view_end}
use Rattle.dae_lower_expressions.specs.Assignments.{assignments, target_assignments}
use Rattle.dae_lower_maker.specs.Counting.{Changes, both, counts_of}
use Rattle.dae_program.specs.Views.{view, view_target, view_expressions}
use Rattle.std.proofs.Common.{drop, ◌+◌}
use Rattle.dae_lower_expressions.proofs.assignments.+count.Goals as goal

pub count-returns-in-Number : goal.count-returns-in-Number
count-returns-in-Number t c = rw (c.in-Number.is) (never_changed c.args.change (counts_of c.args.later.now))

pub count-returns-in-Address : goal.count-returns-in-Address
count-returns-in-Address t c = rw (c.in-Address.is) (never_changed c.args.change (counts_of c.args.later.now))

pub count-returns-in-Frame : goal.count-returns-in-Frame
count-returns-in-Frame t c = rw (c.in-Frame.is) (never_changed c.args.change (counts_of c.args.later.now))

pub count-returns-in-Variable : goal.count-returns-in-Variable
count-returns-in-Variable t c = rw (c.in-Variable.is) (never_changed c.args.change (counts_of c.args.later.now))

pub count-returns-in-Abort : goal.count-returns-in-Abort
count-returns-in-Abort t c = rw (c.in-Abort.is) (never_changed c.args.change (counts_of c.args.later.now))

pub count-returns-in_ok-count-in-Binary-2 : goal.count-returns-in_ok-count-in-Binary-2
count-returns-in_ok-count-in-Binary-2 t c =
    rw (c.in-Binary.is, ← c.deref-in-Binary.ensures, ← c.deref-in-Binary-2.ensures) (both_changed c.args.change (assignments (view c.deref-in-Binary.result.now)) (assignments (view c.deref-in-Binary-2.result.now)) (counts_of c.args.later.now) (counts_of c.count-in-Binary.new.later) (counts_of c.count-in-Binary-2.new.later) c.in_ok-count-in-Binary.ensures c.in_ok-count-in-Binary-2.ensures)

pub count-returns-in_ok-count-in-Compare-2 : goal.count-returns-in_ok-count-in-Compare-2
count-returns-in_ok-count-in-Compare-2 t c =
    rw (c.in-Compare.is, ← c.deref-in-Compare.ensures, ← c.deref-in-Compare-2.ensures) (both_changed c.args.change (assignments (view c.deref-in-Compare.result.now)) (assignments (view c.deref-in-Compare-2.result.now)) (counts_of c.args.later.now) (counts_of c.count-in-Compare.new.later) (counts_of c.count-in-Compare-2.new.later) c.in_ok-count-in-Compare.ensures c.in_ok-count-in-Compare-2.ensures)

pub count-returns-in_ok-count-in-And-2 : goal.count-returns-in_ok-count-in-And-2
count-returns-in_ok-count-in-And-2 t c =
    rw (c.in-And.is, ← c.deref-in-And.ensures, ← c.deref-in-And-2.ensures) (both_changed c.args.change (assignments (view c.deref-in-And.result.now)) (assignments (view c.deref-in-And-2.result.now)) (counts_of c.args.later.now) (counts_of c.count-in-And.new.later) (counts_of c.count-in-And-2.new.later) c.in_ok-count-in-And.ensures c.in_ok-count-in-And-2.ensures)

pub count-returns-in_ok-count-in-Or-2 : goal.count-returns-in_ok-count-in-Or-2
count-returns-in_ok-count-in-Or-2 t c =
    rw (c.in-Or.is, ← c.deref-in-Or.ensures, ← c.deref-in-Or-2.ensures) (both_changed c.args.change (assignments (view c.deref-in-Or.result.now)) (assignments (view c.deref-in-Or-2.result.now)) (counts_of c.args.later.now) (counts_of c.count-in-Or.new.later) (counts_of c.count-in-Or-2.new.later) c.in_ok-count-in-Or.ensures c.in_ok-count-in-Or-2.ensures)

pub count-returns-in_ok-count-in-Comma-2 : goal.count-returns-in_ok-count-in-Comma-2
count-returns-in_ok-count-in-Comma-2 t c =
    rw (c.in-Comma.is, ← c.deref-in-Comma.ensures, ← c.deref-in-Comma-2.ensures) (both_changed c.args.change (assignments (view c.deref-in-Comma.result.now)) (assignments (view c.deref-in-Comma-2.result.now)) (counts_of c.args.later.now) (counts_of c.count-in-Comma.new.later) (counts_of c.count-in-Comma-2.new.later) c.in_ok-count-in-Comma.ensures c.in_ok-count-in-Comma-2.ensures)

pub count-returns-in_ok-count-in-Conditional-3 : goal.count-returns-in_ok-count-in-Conditional-3
count-returns-in_ok-count-in-Conditional-3 t c =
    let a = assignments (view c.deref-in-Conditional.result.now) in
    let b = assignments (view c.deref-in-Conditional-2.result.now) in
    let d = assignments (view c.deref-in-Conditional-3.result.now) in
    rw (c.in-Conditional.is, ← c.deref-in-Conditional.ensures, ← c.deref-in-Conditional-2.ensures, ← c.deref-in-Conditional-3.ensures) (both_changed c.args.change a (both b d) (counts_of c.args.later.now) (counts_of c.count-in-Conditional.new.later) (counts_of c.count-in-Conditional-3.new.later) c.in_ok-count-in-Conditional.ensures
    (both_changed c.args.change b d (counts_of c.count-in-Conditional.new.later) (counts_of c.count-in-Conditional-2.new.later) (counts_of c.count-in-Conditional-3.new.later) c.in_ok-count-in-Conditional-2.ensures c.in_ok-count-in-Conditional-3.ensures))

pub count-returns-in_ok-count-in-Assign : goal.count-returns-in_ok-count-in-Assign
count-returns-in_ok-count-in-Assign t c =
    rw (c.in-Assign.is, ← c.deref-in-Assign.ensures) (both_changed c.args.change (target_assignments (view_target c.in-Assign.t)) (assignments (view c.deref-in-Assign.result.now)) (counts_of c.args.later.now) (counts_of c.count_target.new.later) (counts_of c.count-in-Assign.new.later) c.in_ok-count_target-in-Assign.ensures c.in_ok-count-in-Assign.ensures)

pub count-returns-in_ok-count-in-Update : goal.count-returns-in_ok-count-in-Update
count-returns-in_ok-count-in-Update t c =
    rw (c.in-Update.is, ← c.deref-in-Update.ensures) (both_changed c.args.change (target_assignments (view_target c.in-Update.t)) (assignments (view c.deref-in-Update.result.now)) (counts_of c.args.later.now) (counts_of c.count_target-in-Update.new.later) (counts_of c.count-in-Update.new.later) c.in_ok-count_target-in-Update.ensures c.in_ok-count-in-Update.ensures)

pub count-returns-in_ok-count_all-in-Call : goal.count-returns-in_ok-count_all-in-Call
count-returns-in_ok-count_all-in-Call t c =
    by_call (λ e. Changes c.args.change (assignments e) (counts_of c.args.later.now) (counts_of c.count_all.new.later)) c.args.e.now c.in-Call.field-0 c.in-Call.field-1 c.in-Call.xs c.in-Call.is (rw (c.deref-in-Call.ensures.value) at (c.in_ok-count_all-in-Call.ensures))

pub count_all-loop-e-init : goal.count_all-loop-e-init
count_all-loop-e-init t c = first_counted c.args.change (view_expressions c.args.xs.now) (counts_of c.args.later.now)

pub count_all-loop-e-preserved : goal.count_all-loop-e-preserved
count_all-loop-e-preserved t c =
    next_counted c.args.change (view_expressions c.args.xs.now) (counts_of c.args.later.now) (counts_of c.loop-e.later) (counts_of c.count.new.later) (view c.e-item.result) (view_expressions (drop (c.loop-e.e-index + 1) c.args.xs.now)) (view_expressions (drop c.loop-e.e-index c.args.xs.now)) (view_at c.args.xs.now c.loop-e.e-index c.e-item.result c.loop-e-test.true c.e-item.is) c.loop-e.invariant c.in_ok-count.ensures

pub count_all-returns : goal.count_all-returns
count_all-returns t c =
    last_counted c.args.change (view_expressions c.args.xs.now) (counts_of c.args.later.now) (counts_of c.loop-e.later) (view_expressions (drop c.loop-e.e-index c.args.xs.now)) (view_end c.args.xs.now c.loop-e.e-index c.loop-e-test.false) c.loop-e.invariant

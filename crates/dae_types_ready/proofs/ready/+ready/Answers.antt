use Rattle.dae_types_ready.proofs.Steps.{arms_step, do_reads, if_reads, loop_reads, switch_reads}
use Rattle.dae_types_ready.proofs.ready.+ready.Goals as goal

pub read_arms-loop-arm-preserved : goal.read_arms-loop-arm-preserved
read_arms-loop-arm-preserved t c =
    arms_step c.args.arms.now c.loop-arm.arm-index c.arm-item.result c.args.set.items c.in_ok-read_statements.field-0.items c.loop-arm-test.true c.arm-item.is c.loop-arm.invariant
    (rw (c.deref.ensures.value, c.in_ok-copy.ensures) at (c.in_ok-read_statements.ensures))

pub read_statement-returns-in_ok-set-in-If-2 : goal.read_statement-returns-in_ok-set-in-If-2
read_statement-returns-in_ok-set-in-If-2 t c =
    rw (c.in-If.is) (if_reads c.in-If.field-0 c.in-If.a c.in-If.yes c.in-If.no c.args.set.items c.in_ok-set-in-If.set.items c.in_ok-yes-in-If.yes.items c.in_ok-no-in-If.no.items c.in_ok-set-in-If-2.set.items
    (rw (c.deref-in-If.ensures) at (c.in_ok-set-in-If.ensures)) (rw (c.deref-in-If-2.ensures.value) at (c.in_ok-yes-in-If.ensures)) (rw (c.deref-in-If-3.ensures.value, c.in_ok-other-in-If.ensures) at (c.in_ok-no-in-If.ensures)) (rw (c.deref-in-If-4.ensures.value, c.deref-in-If-5.ensures.value) at (c.in_ok-set-in-If-2.ensures)))

pub read_statement-returns-in_ok-read_some-in-Loop : goal.read_statement-returns-in_ok-read_some-in-Loop
read_statement-returns-in_ok-read_some-in-Loop t c =
    rw (c.in-Loop.is) (loop_reads c.in-Loop.field-0 c.in-Loop.test c.in-Loop.body c.in-Loop.step c.args.set.items c.in_ok-turn-in-Loop-2.turn.items c.in_ok-read_statements-in-Loop.field-0.items c.in_ok-read_some-in-Loop.field-0.items
    (rw (c.in_ok-turn-in-Loop.ensures) at (c.in_ok-turn-in-Loop-2.ensures)) (rw (c.deref-in-Loop.ensures.value) at (c.in_ok-read_statements-in-Loop.ensures)) (rw (c.in_ok-after-in-Loop.ensures) at (c.in_ok-read_some-in-Loop.ensures)))

pub read_statement-returns-in_ok-read-in-Do : goal.read_statement-returns-in_ok-read-in-Do
read_statement-returns-in_ok-read-in-Do t c =
    rw (c.in-Do.is) (do_reads c.in-Do.field-0 c.in-Do.body c.in-Do.test c.args.set.items c.in_ok-read_statements-in-Do.field-0.items c.in_ok-read-in-Do.field-0.items
    (rw (c.deref-in-Do.ensures.value, c.in_ok-turn-in-Do.ensures) at (c.in_ok-read_statements-in-Do.ensures)) (rw (c.deref-in-Do-2.ensures, c.in_ok-after-in-Do.ensures) at (c.in_ok-read-in-Do.ensures)))

pub read_statement-returns-in_ok-set-in-Switch-2 : goal.read_statement-returns-in_ok-set-in-Switch-2
read_statement-returns-in_ok-set-in-Switch-2 t c =
    rw (c.in-Switch.is) (switch_reads c.in-Switch.field-0 c.in-Switch.a c.in-Switch.arms c.args.set.items c.in_ok-set-in-Switch.set.items c.in_ok-set-in-Switch-2.set.items
    (rw (c.deref-in-Switch.ensures) at (c.in_ok-set-in-Switch.ensures)) (rw (c.deref-in-Switch-2.ensures.value) at (c.in_ok-set-in-Switch-2.ensures)))

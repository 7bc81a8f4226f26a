use Rattle.std.proofs.Common.{◌≡◌, ◌∙◌, arith, false, true}
use Rattle.dae_types_sound.proofs.Steps.{do_fit, if_fit, loop_fit, statement_fit, switch_fit}
use Rattle.dae_types_sound.proofs.statements.+fit_statements.Goals as goal

pub are_fit_statements-returns-then-not-is_fit_statement : goal.are_fit_statements-returns-then-not-is_fit_statement
are_fit_statements-returns-then-not-is_fit_statement t c =
    let no : false ≡ c.is_fit_statement.result = grind (arith, c.if-not-is_fit_statement.true) in
    statement_fit c.args.names.now c.args.extent c.args.jumps c.args.statements.now c.loop-s.s-index c.s-item.result false c.loop-s-test.true c.s-item.is c.loop-s.invariant (no ∙ c.is_fit_statement.ensures)

pub are_fit_statements-loop-s-preserved : goal.are_fit_statements-loop-s-preserved
are_fit_statements-loop-s-preserved t c =
    let yes : true ≡ c.is_fit_statement.result = grind (arith, c.if-not-is_fit_statement.false) in
    statement_fit c.args.names.now c.args.extent c.args.jumps c.args.statements.now c.loop-s.s-index c.s-item.result true c.loop-s-test.true c.s-item.is c.loop-s.invariant (yes ∙ c.is_fit_statement.ensures)

pub is_fit_statement-returns-in-If : goal.is_fit_statement-returns-in-If
is_fit_statement-returns-in-If t c =
    rw (c.in-If.is) (c.all_three.ensures ∙ if_fit c.args.names.now c.args.extent c.args.jumps c.in-If.field-0 c.in-If.a c.in-If.yes c.in-If.no c.is_fit-test.result c.are_fit_statements-holds.result c.are_fit_statements-fails.result
    (rw (c.deref-in-If.ensures) at (c.is_fit-test.ensures)) (rw (c.deref-in-If-2.ensures.value) at (c.are_fit_statements-holds.ensures)) (rw (c.deref-in-If-3.ensures.value) at (c.are_fit_statements-fails.ensures)))

pub is_fit_statement-returns-in-Loop : goal.is_fit_statement-returns-in-Loop
is_fit_statement-returns-in-Loop t c =
    rw (c.in-Loop.is) (c.all_three-in-Loop.ensures ∙ loop_fit c.args.names.now c.args.extent c.args.jumps c.in-Loop.field-0 c.in-Loop.test c.in-Loop.body c.in-Loop.step c.is_fit_some-test.result c.are_fit_statements-turn.result c.is_fit_some-after.result
    c.is_fit_some-test.ensures (rw (c.deref-in-Loop.ensures.value, c.loop_jumps.ensures) at (c.are_fit_statements-turn.ensures)) c.is_fit_some-after.ensures)

pub is_fit_statement-returns-in-Do : goal.is_fit_statement-returns-in-Do
is_fit_statement-returns-in-Do t c =
    rw (c.in-Do.is) (c.all_three-in-Do.ensures ∙ do_fit c.args.names.now c.args.extent c.args.jumps c.in-Do.field-0 c.in-Do.body c.in-Do.test c.are_fit_statements-turn-in-Do.result c.is_fit-after.result
    (rw (c.deref-in-Do.ensures.value, c.loop_jumps-in-Do.ensures) at (c.are_fit_statements-turn-in-Do.ensures)) (rw (c.deref-in-Do-2.ensures) at (c.is_fit-after.ensures)))

pub is_fit_statement-returns-in-Switch : goal.is_fit_statement-returns-in-Switch
is_fit_statement-returns-in-Switch t c =
    rw (c.in-Switch.is) (c.all_three-in-Switch.ensures ∙ switch_fit c.args.names.now c.args.extent c.args.jumps c.in-Switch.field-0 c.in-Switch.a c.in-Switch.arms c.is_fit-value.result c.is_count_word-count.result c.are_fit_arms-inside.result
    (rw (c.deref-in-Switch.ensures) at (c.is_fit-value.ensures)) (rw (c.deref-in-Switch-2.ensures.value) at (c.is_count_word-count.ensures)) (rw (c.deref-in-Switch-3.ensures.value, c.switch_jumps.ensures) at (c.are_fit_arms-inside.ensures)))

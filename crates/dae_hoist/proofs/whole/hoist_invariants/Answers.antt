use Rattle.std.proofs.Common.{ℕ, ap, ◌∙◌}
use Rattle.std.specs.Prelude.{slice_get}
use Rattle.dae_ir.specs.Classes.{row_of}
use Rattle.dae_hoist.proofs.Wholes.{hoisted_push}
use Rattle.dae_hoist.proofs.whole.hoist_invariants.Goals as goal

pub loop-function-preserved : goal.loop-function-preserved
loop-function-preserved c =
    let tables = c.args.tables.now in
    hoisted_push tables c.loop-function.rows c.push-in-loop-function.new.self c.loop-function.yielded c.loop-function.functions c.push.new.self c.in-Some.function c.in_ok-hoisted.hoisted.function c.row_of-row.result.now c.in_ok-hoisted.hoisted.row
    c.loop-function.invariant (c.row_of-row.ensures ∙ ap (λ (n : ℕ). row_of (slice_get tables n)) c.len.ensures) c.in_ok-hoisted.ensures c.in_ok-push-2.ensures.ok c.in_ok-push.ensures.ok

use Rattle.std.proofs.Common.{ℕ, ap, ◌∙◌}
use Rattle.std.specs.Prelude.{slice_get}
use Rattle.dae_ir.specs.Classes.{row_of}
use Rattle.dae_commons.proofs.Wholes.{commoned_push}
use Rattle.dae_commons.proofs.whole.eliminate_commons.Goals as goal

pub loop-function-preserved : goal.loop-function-preserved
loop-function-preserved c =
    let tables = c.args.tables.now in
    commoned_push tables c.loop-function.yielded c.loop-function.functions c.push.new.self c.in-Some.function c.in_ok-common.common c.row_of-row.result.now
    c.loop-function.invariant (c.row_of-row.ensures ∙ ap (λ (n : ℕ). row_of (slice_get tables n)) c.len.ensures) c.in_ok-common.ensures c.in_ok-push.ensures.ok

use Rattle.std.proofs.lemmas.List.{take_all}
use Rattle.dae_slice.proofs.Fresh.{rows_more, fresh}
use Rattle.dae_slice.proofs.graph.Graph.new.Goals as goal

pub loop-function-preserved : goal.loop-function-preserved
loop-function-preserved c =
    rows_more c.args.functions.now c.loop-function.function-index c.function-item.result c.loop-function.rows.items c.push.new.self.items c.in_ok-new_row.field-0 c.loop-function-test.true c.function-item.is c.loop-function.invariant c.in_ok-new_row.ensures c.in_ok-push.ensures.items

pub returns : goal.returns
returns c =
    let functions = c.args.functions.now in
    let all = take_all c.loop-function.function-index functions c.loop-function-test.false in
    fresh functions _ (rw all at c.loop-function.invariant) c.new.ensures.items

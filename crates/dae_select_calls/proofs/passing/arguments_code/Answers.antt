use Rattle.std.proofs.Common.{refl, arith}
use Rattle.dae_select_blocks.specs.Blocks.{argument_code, arguments_code}
use Rattle.dae_select_calls.specs.Makings.{plan_by}
use Rattle.dae_select_calls.proofs.Listed.{one_more}
use Rattle.dae_select_calls.proofs.passing.arguments_code.Goals as goal

pub loop-index-preserved : goal.loop-index-preserved
loop-index-preserved c =
    let some = c.loop-index-test.true in
    let le = c.loop-index.auto.index in
    let plan = plan_by c.args.making.now in let f = c.args.making.now.function in let g = c.args.callee in
    one_more (arguments_code plan f g) (argument_code plan f g) (λ x xs. refl) c.args.arguments.now c.loop-index.index _ c.args.code.now.items c.loop-index.code.items c.argument_code.new.code.items (omega arith) (omega arith)
    c.loop-index.invariant c.in_ok-argument_code.ensures

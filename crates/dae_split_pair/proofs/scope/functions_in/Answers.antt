use Rattle.std.specs.Prelude.{drop}
use Rattle.std.specs.List.{AllByRecursion}
use Rattle.dae_ir.specs.Scope.{FunctionIn}
use Rattle.dae_split_pair.proofs.Rest.{goes_on, gives_up, all_next}
use Rattle.dae_split_pair.proofs.scope.functions_in.Goals as goal

pub returns-then-not-function_in : goal.returns-then-not-function_in
returns-then-not-function_in c =
    let fs = c.args.functions.now in
    let i = c.loop-function.function-index in
    gives_up (AllByRecursion (FunctionIn fs) fs) (AllByRecursion (FunctionIn fs) (drop i fs)) _ _
    (all_next (FunctionIn fs) fs i c.function-item.result c.loop-function-test.true c.function-item.is)
    c.loop-function.invariant c.function_in.result c.function_in.ensures c.if-not-function_in.true

pub loop-function-preserved : goal.loop-function-preserved
loop-function-preserved c =
    let fs = c.args.functions.now in
    let i = c.loop-function.function-index in
    goes_on (AllByRecursion (FunctionIn fs) fs) (AllByRecursion (FunctionIn fs) (drop i fs)) _ _
    (all_next (FunctionIn fs) fs i c.function-item.result c.loop-function-test.true c.function-item.is)
    c.loop-function.invariant c.function_in.result c.function_in.ensures c.if-not-function_in.false

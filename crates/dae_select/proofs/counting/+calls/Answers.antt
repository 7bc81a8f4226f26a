use Rattle.std.proofs.Common.{arith}
use Rattle.dae_select.proofs.Counted.{if_calls, loop_calls, one_call_counted}
use Rattle.dae_select.proofs.counting.+calls.Goals as goal

pub step_calls-returns-in-If-clause-calls : goal.step_calls-returns-in-If-clause-calls
step_calls-returns-in-If-clause-calls t c =
    let i = c.in-If in
    if_calls c.args.step.now i.field-0 i.field-1 i.p i.q c.list_calls.result c.list_calls-in-If.result c.capped.result i.is
    (rw c.deref.ensures.value at c.list_calls.ensures.calls) (rw c.deref-in-If.ensures.value at c.list_calls-in-If.ensures.calls) c.capped.ensures.words

pub step_calls-returns-in-Loop-clause-calls : goal.step_calls-returns-in-Loop-clause-calls
step_calls-returns-in-Loop-clause-calls t c =
    let i = c.in-Loop in
    loop_calls c.args.step.now i.field-0 i.body i.step c.list_calls-in-Loop.result c.list_calls-in-Loop-2.result c.capped-in-Loop.result i.is
    (rw c.deref-in-Loop.ensures.value at c.list_calls-in-Loop.ensures.calls) (rw c.deref-in-Loop-2.ensures.value at c.list_calls-in-Loop-2.ensures.calls) c.capped-in-Loop.ensures.words

pub list_calls-loop-index-preserved : goal.list_calls-loop-index-preserved
list_calls-loop-index-preserved t c =
    let some = c.loop-index-test.true in
    let le = c.loop-index.auto.index in
    record {
      counted = one_call_counted c.args.steps.now c.loop-index.index c.index-steps-index.result c.step_calls.result c.loop-index.calls c.capped-calls.result
          (omega arith) (omega arith) c.index-steps-index.is c.loop-index.invariant.counted c.step_calls.ensures.calls c.capped-calls.ensures.words;
      few = c.capped-calls.ensures.few;
    }

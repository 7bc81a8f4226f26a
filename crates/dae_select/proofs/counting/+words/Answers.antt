use Rattle.std.proofs.Common.{arith}
use Rattle.dae_select.proofs.Counted.{if_words, loop_words, one_counted}
use Rattle.dae_select.proofs.counting.+words.Goals as goal

pub step_words-returns-in-If-clause-words : goal.step_words-returns-in-If-clause-words
step_words-returns-in-If-clause-words t c =
    let i = c.in-If in
    if_words c.args.step.now i.field-0 i.field-1 i.p i.q c.list_words.result c.list_words-in-If.result c.capped.result i.is
    (rw c.deref.ensures.value at c.list_words.ensures.words) (rw c.deref-in-If.ensures.value at c.list_words-in-If.ensures.words) c.capped.ensures.words

pub step_words-returns-in-Loop-clause-words : goal.step_words-returns-in-Loop-clause-words
step_words-returns-in-Loop-clause-words t c =
    let i = c.in-Loop in
    loop_words c.args.step.now i.field-0 i.body i.step c.list_words-in-Loop.result c.list_words-in-Loop-2.result c.capped-in-Loop.result i.is
    (rw c.deref-in-Loop.ensures.value at c.list_words-in-Loop.ensures.words) (rw c.deref-in-Loop-2.ensures.value at c.list_words-in-Loop-2.ensures.words) c.capped-in-Loop.ensures.words

pub list_words-loop-index-preserved : goal.list_words-loop-index-preserved
list_words-loop-index-preserved t c =
    let some = c.loop-index-test.true in
    let le = c.loop-index.auto.index in
    record {
      counted = one_counted c.args.steps.now c.loop-index.index c.index-steps-index.result c.step_words.result c.loop-index.words c.capped-words.result
          (omega arith) (omega arith) c.index-steps-index.is c.loop-index.invariant.counted c.step_words.ensures.words c.capped-words.ensures.words;
      few = c.capped-words.ensures.few;
    }

use Rattle.std.proofs.Common.{arith}
use Rattle.dae_select_facts.proofs.Asked.{none_asked, one_asked}
use Rattle.dae_select_facts.proofs.along.count_asked.Goals as goal

pub loop-index-init : goal.loop-index-init
loop-index-init c = none_asked c.args.steps.now

pub loop-index-preserved : goal.loop-index-preserved
loop-index-preserved c =
    let l = c.loop-index in
    one_asked c.args.steps.now l.asked c.asked_up_to-asked.result l.index c.index-steps-index.result c.loop-index-test.true c.index-steps-index.is c.asked_up_to-asked.ensures l.invariant

pub returns-clause-within : goal.returns-clause-within
returns-clause-within c =
    let l = c.loop-index in
    let le = l.invariant.within in
    let most = l.auto.index-end in
    omega arith

pub returns-clause-rest : goal.returns-clause-rest
returns-clause-rest c = λ i s le lt at.
    let l = c.loop-index in
    let end = c.loop-index-test.false in
    l.invariant.rest i s le (omega (arith, lt, end)) at

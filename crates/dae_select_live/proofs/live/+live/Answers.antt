use Rattle.std.proofs.Common.{ℕ, List, ap, ◌∙◌, arith}
use Rattle.std.proofs.lemmas.Result.{IfOk-weaker}
use Rattle.dae_ir.specs.Classes.{VariableSet}
use Rattle.dae_ir.specs.Streams.{actions_of}
use Rattle.dae_ir.specs.declared.stream.Step.{Step}
use Rattle.dae_select_walks.specs.Live.{ways, live, none}
use Rattle.dae_select_live.specs.Members.{member}
use Rattle.dae_select_live.proofs.Laws.{live_acted, live_branched, live_looped, live_one_more}
use Rattle.dae_select_live.proofs.live.+live.Goals as goal

pub live_before_step-returns-in-Act : goal.live_before_step-returns-in-Act
live_before_step-returns-in-Act t c =
    let leaves = member c.args.leaves.now in let skips = member c.args.skips.now in let a = c.in-Act in
    IfOk-weaker c.live_before_action.result _ _ (λ set h k n e. live_acted c.args.step.now a.field-0 a.action k (ways n leaves skips) (member c.args.next) (member set) a.is e (h n)) c.live_before_action.ensures

pub live_before_step-returns-in_ok-second-in-If : goal.live_before_step-returns-in_ok-second-in-If
live_before_step-returns-in_ok-second-in-If t c =
    let leaves = member c.args.leaves.now in let skips = member c.args.skips.now in let i = c.in-If in
    let one = c.in_ok-first-in-If.ensures ∙ ap (λ (l : List Step). live (actions_of l) (ways (member c.in_ok-copy-in-If.field-0) leaves skips)) c.deref.ensures.value
    ∙ ap (λ (vs : List ℕ). live (actions_of i.p.items) (ways (member vs) leaves skips)) c.in_ok-copy-in-If.ensures in
    let other = c.in_ok-second-in-If.ensures ∙ ap (λ (l : List Step). live (actions_of l) (ways (member c.args.next) leaves skips)) c.deref-in-If.ensures.value in
    IfOk-weaker c.live_with_branch.result _ _ (λ set h k n e. live_branched c.args.step.now i.field-0 i.branch i.p i.q k n leaves skips (member c.args.next) (member c.in_ok-first-in-If.first) (member c.in_ok-second-in-If.second) (member set)
    i.is e one other h) c.live_with_branch.ensures

pub live_before_step-returns-in_ok-copy-in-Loop : goal.live_before_step-returns-in_ok-copy-in-Loop
live_before_step-returns-in_ok-copy-in-Loop t c =
    let leaves = member c.args.leaves.now in let skips = member c.args.skips.now in let next = member c.args.next in let i = c.in-Loop in
    let again = member c.in_ok-again-in-Loop.again in
    let first = c.in_ok-again-in-Loop.ensures ∙ ap (λ (l : List Step). live (actions_of l) (ways (member c.new.result) next (member c.new-nothing.result))) c.deref-in-Loop.ensures.value
    ∙ ap (λ (s : VariableSet). live (actions_of i.step.items) (ways s next (member c.new-nothing.result))) c.new.ensures ∙ ap (λ (s : VariableSet). live (actions_of i.step.items) (ways none next s)) c.new-nothing.ensures in
    IfOk-weaker c.live_before-in-Loop-2.result _ _ (λ set h k n e. live_looped c.args.step.now i.field-0 i.body i.step k n leaves skips next again (member set) i.is e first
    (h ∙ ap (λ (l : List Step). live (actions_of l) (ways (member c.in_ok-copy-in-Loop.field-0) next again)) c.deref-in-Loop-2.ensures.value
    ∙ ap (λ (vs : List ℕ). live (actions_of i.body.items) (ways (member vs) next again)) c.in_ok-copy-in-Loop.ensures)) c.live_before-in-Loop-2.ensures

pub live_before-loop-index-preserved : goal.live_before-loop-index-preserved
live_before-loop-index-preserved t c =
    let some = c.loop-index-test.true in
    let le = c.loop-index.auto.index in
    live_one_more c.args.steps.now c.loop-index.index c.index-steps-index.result (ways (member c.args.next) (member c.args.leaves.now) (member c.args.skips.now)) (member c.loop-index.set) (member c.in_ok-set.set)
    (omega arith) (omega arith) c.index-steps-index.is c.loop-index.invariant (λ k e. c.in_ok-set.ensures k (member c.args.next) e)

use Rattle.std.proofs.Common.{◌≡◌, ℕ, List, None, subst, arith}
use Rattle.std.specs.Prelude.{drop}
use Rattle.indexmap.proofs.SearchLemmas.{on_ok_of}
use Rattle.dae_ir.specs.Streams.{Actions, actions_of, step_onto}
use Rattle.dae_ir.specs.declared.stream.Step.{Step}
use Rattle.dae_select_live.specs.Turns.{key_of, turns_told, IsTurn, IsTurnTold, TellsTurns, AreToldLater}
use Rattle.dae_select_live.proofs.Telling.{all_same, all_later, tells_on, tells_branched, tells_looped, tells_none, tells_one_more}
use Rattle.dae_select_live.proofs.turns.+loops.Goals as goal

pub tell_loops_of_step-returns-in_ok-tell_loops-in-If-clause-told :
    goal.tell_loops_of_step-returns-in_ok-tell_loops-in-If-clause-told
tell_loops_of_step-returns-in_ok-tell_loops-in-If-clause-told t c =
    let s = c.args.step.now in let i = c.in-If in
    let mid = turns_told c.tell_loops.new.turns in let new = turns_told c.tell_loops-in-If.new.turns in
    let p_told = subst (λ (l : List Step). TellsTurns mid (actions_of l)) c.deref.ensures.value c.in_ok-tell_loops-in-If.ensures.told in
    on_ok_of c.tell_loops-in-If.result (λ x. TellsTurns new (actions_of c.deref-in-If.result.now)) (λ x. AreToldLater mid new) ((k : Actions) → TellsTurns new k → TellsTurns new (step_onto s k))
    (λ x told later k h.
    let q_told = subst (λ (l : List Step). TellsTurns new (actions_of l)) c.deref-in-If.ensures.value told in
    tells_branched new s i.field-0 i.field-1 i.p i.q k i.is (tells_on mid new later (actions_of i.p.items) p_told) q_told h)
    c.tell_loops-in-If.ensures.told c.tell_loops-in-If.ensures.later

pub tell_loops_of_step-returns-in_ok-tell_loops-in-Loop-2-clause-told :
    goal.tell_loops_of_step-returns-in_ok-tell_loops-in-Loop-2-clause-told
tell_loops_of_step-returns-in_ok-tell_loops-in-Loop-2-clause-told t c =
    let s = c.args.step.now in let i = c.in-Loop in
    let B = actions_of i.body.items in let S = actions_of i.again.items in
    let mid = turns_told c.tell_loops-else-leaves_at_once.new.turns in let last = turns_told c.tell_loops-else-leaves_at_once-2.new.turns in let new = turns_told c.tell_turn.new.turns in
    let first = c.in_ok-tell_loops-in-Loop in let second = c.in_ok-tell_loops-in-Loop-2 in
    let again_told = subst (λ (l : List Step). TellsTurns mid (actions_of l)) c.deref-else-leaves_at_once.ensures.value first.ensures.told in
    let body_told = subst (λ (l : List Step). TellsTurns last (actions_of l)) c.deref-else-leaves_at_once-2.ensures.value second.ensures.told in
    on_ok_of c.tell_turn.result (λ x. (body step' : Actions) → IsTurn body step' None → IsTurnTold body step' (new (key_of i.mark))) (λ x. AreToldLater last new) ((k : Actions) → TellsTurns new k → TellsTurns new (step_onto s k))
    (λ x told later k h.
    tells_looped new s i.mark i.body i.again k i.is (told B S tt) (tells_on last new later B body_told)
    (tells_on mid new (all_later mid last new second.ensures.later later) S again_told) h)
    c.tell_turn.ensures.told c.tell_turn.ensures.later

pub tell_loops-loop-index-init : goal.tell_loops-loop-index-init
tell_loops-loop-index-init t c =
    let told = turns_told c.args.turns.now in
    record {
      told = tells_none told c.args.steps.now;
      later = all_same told;
    }

pub tell_loops-loop-index-preserved : goal.tell_loops-loop-index-preserved
tell_loops-loop-index-preserved t c =
    let steps = c.args.steps.now in let j = c.loop-index.index in let s = c.index-steps-index.result in
    let some = c.loop-index-test.true in
    let le = c.loop-index.auto.index in
    let old = turns_told c.args.turns.now in let mid = turns_told c.loop-index.turns in let new = turns_told c.tell_loops_of_step.new.turns in
    let inv = c.loop-index.invariant in let one = c.in_ok-tell_loops_of_step in
    record {
      told = tells_one_more mid new steps j s (omega arith) (omega arith) c.index-steps-index.is inv.told one.ensures.later one.ensures.told;
      later = all_later old mid new inv.later one.ensures.later;
    }

pub tell_loops-returns : goal.tell_loops-returns
tell_loops-returns t c =
    let l = c.loop-index in
    let first : l.index ≡ 0 = (let end = c.loop-index-test.false in omega arith) in
    record {
      told = subst (λ (j : ℕ). TellsTurns (turns_told l.turns) (actions_of (drop j c.args.steps.now))) first l.invariant.told;
      later = l.invariant.later;
    }

use Rattle.std.proofs.Common.{◌≡◌, ℕ, if◌then◌else◌, List, Option, Some, None, refl, ap, sym, subst, ◌∙◌, arith}
use Rattle.std.specs.Prelude.{drop}
use Rattle.dae_ir.specs.Classes.{VariableSet}
use Rattle.dae_ir.specs.Streams.{actions_of}
use Rattle.dae_ir.specs.declared.stream.Step.{Step}
use Rattle.dae_select_walks.specs.Live.{ways, live, turn, none, with_all}
use Rattle.dae_select_live.specs.Members.{member}
use Rattle.dae_select_live.specs.Turns.{turns_told, TellsTurns, IsTurn, leaves_at_once}
use Rattle.dae_select_live.proofs.Laws.{LiveFrom, live_acted, live_branched, live_looped, live_one_more}
use Rattle.dae_select_live.proofs.Telling.{turn_found, turn_told, all_same, all_later, tells_on, tells_acted, tells_branched, tells_looped, tells_none, tells_one_more, live_none}
use Rattle.dae_select_live.proofs.turns.+tell.Goals as goal

pub tell_in_step-returns-in_ok-set-in-Act : goal.tell_in_step-returns-in_ok-set-in-Act
tell_in_step-returns-in_ok-set-in-Act t c =
    let s = c.args.step.now in let a = c.in-Act in let told = turns_told c.args.turns.now in
    let leaves = member c.args.leaves.now in let skips = member c.args.skips.now in
    record {
      live = λ k n e. live_acted s a.field-0 a.action k (ways n leaves skips) (member c.args.next) (member c.in_ok-set-in-Act.set) a.is e (c.in_ok-set-in-Act.ensures n);
      told = λ k h. tells_acted told s a.field-0 a.action k a.is h;
      later = all_same told;
    }

pub tell_in_step-returns-in_ok-set-in-If : goal.tell_in_step-returns-in_ok-set-in-If
tell_in_step-returns-in_ok-set-in-If t c =
    let s = c.args.step.now in let i = c.in-If in
    let leaves = member c.args.leaves.now in let skips = member c.args.skips.now in
    let old = turns_told c.args.turns.now in let mid = turns_told c.tell_in_list.new.turns in let new = turns_told c.tell_in_list-in-If.new.turns in
    let first = c.in_ok-first-in-If in let second = c.in_ok-second-in-If in
    let one = first.ensures.live ∙ ap (λ (l : List Step). live (actions_of l) (ways (member c.in_ok-copy-in-If.field-0) leaves skips)) c.deref.ensures.value
    ∙ ap (λ (vs : List ℕ). live (actions_of i.p.items) (ways (member vs) leaves skips)) c.in_ok-copy-in-If.ensures in
    let other = second.ensures.live ∙ ap (λ (l : List Step). live (actions_of l) (ways (member c.args.next) leaves skips)) c.deref-in-If.ensures.value in
    let p_told = subst (λ (l : List Step). TellsTurns mid (actions_of l)) c.deref.ensures.value first.ensures.told in
    let q_told = subst (λ (l : List Step). TellsTurns new (actions_of l)) c.deref-in-If.ensures.value second.ensures.told in
    record {
      live = λ k n e. live_branched s i.field-0 i.branch i.p i.q k n leaves skips (member c.args.next) (member first.first) (member second.second) (member c.in_ok-set-in-If.set) i.is e one other c.in_ok-set-in-If.ensures;
      told = λ k h. tells_branched new s i.field-0 i.branch i.p i.q k i.is (tells_on mid new second.ensures.later (actions_of i.p.items) p_told) q_told h;
      later = all_later old mid new first.ensures.later second.ensures.later;
    }

pub tell_in_step-returns-in_ok-set-in-Loop : goal.tell_in_step-returns-in_ok-set-in-Loop
tell_in_step-returns-in_ok-set-in-Loop t c =
    let s = c.args.step.now in let i = c.in-Loop in
    let leaves = member c.args.leaves.now in let skips = member c.args.skips.now in let next = member c.args.next in
    let B = actions_of i.body.items in let S = actions_of i.step.items in
    let old = turns_told c.args.turns.now in let mid = turns_told c.tell_in_list-in-Loop.new.turns in let last = turns_told c.tell_in_list-in-Loop-2.new.turns in let new = turns_told c.tell_turn.new.turns in
    let again = c.in_ok-again-in-Loop in let begins = c.in_ok-round-in-Loop in let telling = c.in_ok-tell_turn-in-Loop in
    let behind = member c.in_ok-behind-in-Loop.behind in let back = member again.again in let set = member begins.round in
    let behind_is : behind ≡ (if leaves_at_once B then none else next) =
    c.in_ok-behind-in-Loop.ensures ∙ ap (λ (l : List Step). if leaves_at_once (actions_of l) then none else next) c.deref-in-Loop.ensures.value in
    let again_is : back ≡ live S (ways none behind none) =
    again.ensures.live ∙ ap (λ (l : List Step). live (actions_of l) (ways (member c.new.result) behind (member c.new-nothing.result))) c.deref-in-Loop-2.ensures.value
    ∙ ap (λ (x : VariableSet). live S (ways x behind (member c.new-nothing.result))) c.new.ensures ∙ ap (λ (x : VariableSet). live S (ways none behind x)) c.new-nothing.ensures in
    let set_is : set ≡ live B (ways back behind back) =
    begins.ensures.live ∙ ap (λ (l : List Step). live (actions_of l) (ways (member c.in_ok-copy-in-Loop.field-0) behind back)) c.deref-in-Loop-3.ensures.value
    ∙ ap (λ (vs : List ℕ). live B (ways (member vs) behind back)) c.in_ok-copy-in-Loop.ensures in
    let found : set ≡ turn B S (if leaves_at_once B then none else next) =
    set_is ∙ ap (λ (x : VariableSet). live B (ways x behind x)) again_is ∙ ap (turn B S) behind_is in
    let row_is = c.in_ok-row-in-Loop.ensures ∙ ap {B = Option (List ℕ)} (λ (l : List Step). if leaves_at_once (actions_of l) then Some begins.round else None) c.deref-in-Loop-4.ensures.value in
    let row_told : IsTurn B S c.in_ok-row-in-Loop.row =
    subst (IsTurn B S) (sym row_is) (turn_told B S next set (leaves_at_once B) begins.round refl refl found) in
    let given : member c.in_ok-set-in-Loop.set ≡ turn B S next =
    c.in_ok-set-in-Loop.ensures ∙ ap (λ (l : List Step). if leaves_at_once (actions_of l) then with_all set next else set) c.deref-in-Loop-5.ensures.value
    ∙ turn_found B S next set (leaves_at_once B) refl found in
    let step_told = subst (λ (l : List Step). TellsTurns mid (actions_of l)) c.deref-in-Loop-2.ensures.value again.ensures.told in
    let body_told = subst (λ (l : List Step). TellsTurns last (actions_of l)) c.deref-in-Loop-3.ensures.value begins.ensures.told in
    let further = all_later mid last new begins.ensures.later telling.ensures.later in
    record {
      live = λ k n e. live_looped s i.mark i.body i.step k n leaves skips next (live S (ways none next none)) (member c.in_ok-set-in-Loop.set) i.is e refl given;
      told = λ k h. tells_looped new s i.mark i.body i.step k i.is (telling.ensures.told B S row_told)
          (tells_on last new telling.ensures.later B body_told) (tells_on mid new further S step_told) h;
      later = all_later old mid new again.ensures.later further;
    }

pub tell_in_list-loop-index-init : goal.tell_in_list-loop-index-init
tell_in_list-loop-index-init t c =
    let steps = c.args.steps.now in let told = turns_told c.args.turns.now in
    record {
      live = live_none steps (ways (member c.args.next) (member c.args.leaves.now) (member c.args.skips.now));
      told = tells_none told steps;
      later = all_same told;
    }

pub tell_in_list-loop-index-preserved : goal.tell_in_list-loop-index-preserved
tell_in_list-loop-index-preserved t c =
    let steps = c.args.steps.now in let j = c.loop-index.index in let s = c.index-steps-index.result in
    let some = c.loop-index-test.true in
    let le = c.loop-index.auto.index in
    let old = turns_told c.args.turns.now in let mid = turns_told c.loop-index.turns in let new = turns_told c.tell_in_step.new.turns in
    let inv = c.loop-index.invariant in let one = c.in_ok-set in
    record {
      live = live_one_more steps j s (ways (member c.args.next) (member c.args.leaves.now) (member c.args.skips.now)) (member c.loop-index.set) (member one.set)
          (omega arith) (omega arith) c.index-steps-index.is inv.live (λ k e. one.ensures.live k (member c.args.next) e);
      told = tells_one_more mid new steps j s (omega arith) (omega arith) c.index-steps-index.is inv.told one.ensures.later one.ensures.told;
      later = all_later old mid new inv.later one.ensures.later;
    }

pub tell_in_list-returns : goal.tell_in_list-returns
tell_in_list-returns t c =
    let steps = c.args.steps.now in let l = c.loop-index in
    let first : l.index ≡ 0 = (let end = c.loop-index-test.false in omega arith) in
    record {
      live = sym (subst (λ (j : ℕ). LiveFrom steps j (ways (member c.args.next) (member c.args.leaves.now) (member c.args.skips.now)) (member l.set)) first l.invariant.live);
      told = subst (λ (j : ℕ). TellsTurns (turns_told l.turns) (actions_of (drop j steps))) first l.invariant.told;
      later = l.invariant.later;
    }

use Rattle.std.proofs.Common.{◌≡◌, ℕ, ◌-◌, List, refl, ap, sym, ◌∙◌, subst, drop, arith, rules}
use Rattle.dae_ir.specs.Streams.{actions_of}
use Rattle.dae_ir.specs.declared.stream.Step.{Step, the_lemmas}
use Rattle.dae_select_walks.specs.Live.{ways, turn}
use Rattle.dae_regalloc.specs.Seen.{ArePlacesOf}
use Rattle.dae_select_live.specs.Members.{member}
use Rattle.dae_select_live.specs.Turns.{key_of, turns_told, IsTurnTold, TellsTurns}
use Rattle.dae_select_live.specs.declared.turns.Turns.{Turns}
use Rattle.dae_select_live.proofs.Telling.{told_at, told_in_if, told_in_loop}
use Rattle.dae_regalloc.proofs.PlaceCounts.{if_places, loop_places, room_for_step}
use Rattle.dae_regalloc.proofs.Placing.{acted, branched, looped, none_placed, one_more, moved}
use Rattle.dae_regalloc.proofs.places.+places.Goals as goal

-- what is told of the loops of steps is told of those of the same steps
told_as : (turns : Turns) (xs ys : List Step) → xs ≡ ys → TellsTurns (turns_told turns) (actions_of ys) → TellsTurns (turns_told turns) (actions_of xs)
told_as turns xs ys e h = subst (λ (l : List Step). TellsTurns (turns_told turns) (actions_of l)) (sym e) h

-- ---- room for the places

pub see_step-see_action-requires : goal.see_step-see_action-requires
see_step-see_action-requires t c = let room = rw c.in-Act.is at c.requires.room in omega (arith, room)

pub see_step-see_steps-requires : goal.see_step-see_steps-requires
see_step-see_steps-requires t c =
    let i = c.in-If in
    let room = rw i.is at c.requires.room in let e = if_places i.field-0 i.branch i.p i.q in
    let told = told_in_if (turns_told c.args.turns.now) c.args.step.now i.field-0 i.branch i.p i.q i.is c.requires.told in
    (search (rules, the_lemmas), (rw c.deref.ensures.value (omega (arith, room, e)), told_as c.args.turns.now _ _ c.deref.ensures.value told.1))

pub see_step-see_steps-requires-in-If : goal.see_step-see_steps-requires-in-If
see_step-see_steps-requires-in-If t c =
    let i = c.in-If in
    let room = rw i.is at c.requires.room in let e = if_places i.field-0 i.branch i.p i.q in
    let one = rw c.deref.ensures.value at c.in_ok-second-in-If.ensures in
    let more = one.count in
    let told = told_in_if (turns_told c.args.turns.now) c.args.step.now i.field-0 i.branch i.p i.q i.is c.requires.told in
    (search (rules, the_lemmas), (rw c.deref-in-If.ensures.value (omega (arith, room, e, more)), told_as c.args.turns.now _ _ c.deref-in-If.ensures.value told.0))

pub see_step-see-requires : goal.see_step-see-requires
see_step-see-requires t c =
    let i = c.in-If in
    let room = rw i.is at c.requires.room in let e = if_places i.field-0 i.branch i.p i.q in
    let one = rw c.deref.ensures.value at c.in_ok-second-in-If.ensures in
    let other = rw c.deref-in-If.ensures.value at c.in_ok-first-in-If.ensures in
    let more = one.count in let further = other.count in
    omega (arith, room, e, more, further)

pub see_step-see_steps-requires-in-Loop : goal.see_step-see_steps-requires-in-Loop
see_step-see_steps-requires-in-Loop t c =
    let i = c.in-Loop in
    let room = rw i.is at c.requires.room in let e = loop_places i.mark i.body i.step in
    let told = told_in_loop (turns_told c.args.turns.now) c.args.step.now i.mark i.body i.step i.is c.requires.told in
    (search (rules, the_lemmas), (rw c.deref-in-Loop-3.ensures.value (omega (arith, room, e)), told_as c.args.turns.now _ _ c.deref-in-Loop-3.ensures.value told.1.1))

pub see_step-see_steps-requires-in-Loop-2 : goal.see_step-see_steps-requires-in-Loop-2
see_step-see_steps-requires-in-Loop-2 t c =
    let i = c.in-Loop in
    let room = rw i.is at c.requires.room in let e = loop_places i.mark i.body i.step in
    let one = rw c.deref-in-Loop-3.ensures.value at c.in_ok-again-in-Loop.ensures in
    let more = one.count in
    let told = told_in_loop (turns_told c.args.turns.now) c.args.step.now i.mark i.body i.step i.is c.requires.told in
    (search (rules, the_lemmas), (rw c.deref-in-Loop-4.ensures.value (omega (arith, room, e, more)), told_as c.args.turns.now _ _ c.deref-in-Loop-4.ensures.value told.1.0))

pub see_step-see-requires-in-Loop : goal.see_step-see-requires-in-Loop
see_step-see-requires-in-Loop t c =
    let i = c.in-Loop in
    let room = rw i.is at c.requires.room in let e = loop_places i.mark i.body i.step in
    let one = rw c.deref-in-Loop-3.ensures.value at c.in_ok-again-in-Loop.ensures in
    let other = rw c.deref-in-Loop-4.ensures.value at c.in_ok-set-in-Loop.ensures in
    let more = one.count in let further = other.count in
    omega (arith, room, e, more, further)

pub see_steps-see_step-requires : goal.see_steps-see_step-requires
see_steps-see_step-requires t c =
    let some = c.loop-index-test.true in
    let le = c.loop-index.auto.index in
    let so_far = c.loop-index.invariant in (
      search (rules, the_lemmas),
      (
        room_for_step c.args.steps.now c.loop-index.index c.index-steps-index.result c.args.spans.now.places c.loop-index.spans.places (omega arith) (omega arith) c.index-steps-index.is so_far.count c.requires.room,
        told_at (turns_told c.args.turns.now) c.args.steps.now (c.loop-index.index - 1) c.index-steps-index.result (omega arith) c.index-steps-index.is c.requires.told,
      ),
    )

-- ---- what is told of loops

pub see_step-live_at_turn-requires : goal.see_step-live_at_turn-requires
see_step-live_at_turn-requires t c =
    let i = c.in-Loop in let row = turns_told c.args.turns.now (key_of i.mark) in
    let told = told_in_loop (turns_told c.args.turns.now) c.args.step.now i.mark i.body i.step i.is c.requires.told in
    let body = subst (λ (l : List Step). IsTurnTold (actions_of l) (actions_of i.step.items) row) (sym c.deref-in-Loop.ensures.value) told.0 in
    subst (λ (l : List Step). IsTurnTold (actions_of c.deref-in-Loop.result.now) (actions_of l) row) (sym c.deref-in-Loop-2.ensures.value) body

-- ---- what is seen

pub see_step-returns-in_ok-set-in-Act : goal.see_step-returns-in_ok-set-in-Act
see_step-returns-in_ok-set-in-Act t c =
    let a = c.args in let i = c.in-Act in
    acted a.step.now i.field-0 i.action a.leaves.now a.skips.now a.next a.spans.now c.see_action.new.spans c.in_ok-before-in-Act.before c.in_ok-set-in-Act.set i.is c.in_ok-before-in-Act.ensures c.in_ok-set-in-Act.ensures.same c.in_ok-set-in-Act.ensures.seen

pub see_step-returns-in_ok-see-in-If : goal.see_step-returns-in_ok-see-in-If
see_step-returns-in_ok-see-in-If t c =
    let a = c.args in let i = c.in-If in
    let lv = a.leaves.now in let sk = a.skips.now in
    let one = c.in_ok-first-in-If.first in let other = c.in_ok-second-in-If.second in
    let mid = c.see_steps.new.spans in let last = c.see_steps-in-If.new.spans in
    let second = moved c.in_ok-copy-in-If.field-0 a.next lv lv sk sk c.deref.result.now i.q.items a.spans.now mid other c.in_ok-copy-in-If.ensures refl refl c.deref.ensures.value c.in_ok-second-in-If.ensures in
    let first = moved a.next a.next lv lv sk sk c.deref-in-If.result.now i.p.items mid last one refl refl refl c.deref-in-If.ensures.value c.in_ok-first-in-If.ensures in
    branched a.step.now i.field-0 i.branch i.p i.q lv sk a.next a.spans.now mid last c.see.new.self one other c.in_ok-set-in-If.set i.is second first c.in_ok-set-in-If.ensures c.in_ok-see-in-If.ensures.seen c.in_ok-see-in-If.ensures.count

pub see_step-returns-in_ok-see-in-Loop : goal.see_step-returns-in_ok-see-in-Loop
see_step-returns-in_ok-see-in-Loop t c =
    let a = c.args in let i = c.in-Loop in
    let turned = c.in_ok-turn-in-Loop.turn in let again = c.in_ok-again-in-Loop.again in let set = c.in_ok-set-in-Loop.set in
    let mid = c.see_steps-in-Loop.new.spans in let last = c.see_steps-in-Loop-2.new.spans in
    let first = c.in_ok-turn-in-Loop.ensures ∙ ap (λ (l : List Step). turn (actions_of l) (actions_of c.deref-in-Loop-2.result.now) (member a.next)) c.deref-in-Loop.ensures.value
    ∙ ap (λ (l : List Step). turn (actions_of i.body.items) (actions_of l) (member a.next)) c.deref-in-Loop-2.ensures.value in
    let step = moved c.in_ok-copy-in-Loop.field-0 turned a.next a.next turned turned c.deref-in-Loop-3.result.now i.step.items a.spans.now mid again c.in_ok-copy-in-Loop.ensures refl refl c.deref-in-Loop-3.ensures.value c.in_ok-again-in-Loop.ensures in
    let body = moved c.in_ok-copy-in-Loop-2.field-0 again a.next a.next again again c.deref-in-Loop-4.result.now i.body.items mid last set c.in_ok-copy-in-Loop-2.ensures refl refl c.deref-in-Loop-4.ensures.value c.in_ok-set-in-Loop.ensures in
    looped a.step.now i.mark i.body i.step a.leaves.now a.skips.now a.next a.spans.now mid last c.see-in-Loop.new.self turned again set i.is first step body c.in_ok-see-in-Loop.ensures.seen c.in_ok-see-in-Loop.ensures.count

pub see_steps-loop-index-init : goal.see_steps-loop-index-init
see_steps-loop-index-init t c =
    let a = c.args in
    none_placed a.steps.now a.spans.now a.next (member a.leaves.now) (member a.skips.now)

pub see_steps-loop-index-preserved : goal.see_steps-loop-index-preserved
see_steps-loop-index-preserved t c =
    let a = c.args in
    let some = c.loop-index-test.true in
    let le = c.loop-index.auto.index in
    one_more a.steps.now c.loop-index.index c.index-steps-index.result a.leaves.now a.skips.now c.loop-index.set a.spans.now c.loop-index.spans c.see_step.new.spans c.in_ok-set.set (member a.next)
    (omega arith) (omega arith) c.index-steps-index.is c.loop-index.invariant c.in_ok-set.ensures

pub see_steps-returns : goal.see_steps-returns
see_steps-returns t c =
    let a = c.args in let l = c.loop-index in
    let first : l.index ≡ 0 = (let end = c.loop-index-test.false in omega arith) in
    subst (λ (j : ℕ). ArePlacesOf (actions_of (drop j a.steps.now)) (ways (member a.next) (member a.leaves.now) (member a.skips.now)) a.spans.now l.spans l.set) first l.invariant

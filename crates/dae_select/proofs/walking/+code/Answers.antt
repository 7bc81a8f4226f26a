use Rattle.std.proofs.Common.{◌≡◌, ℕ, suc, sym, ◌+◌, ◌-◌, ◌*◌, ◌<◌, ◌||◌, List, length, refl, ap, ◌∙◌, subst, arith}
use Rattle.std.specs.Prelude.{Option, is_some, drop, if◌then◌else◌}
use Rattle.std.proofs.lemmas.Result.{IfOk-weaker}
use Rattle.dae_ir.specs.Streams.{actions_of}
use Rattle.dae_ir.specs.declared.stream.Step.{Step}
use Rattle.dae_ir.proofs.stream.Step.TheLaws.{the_size}
use Rattle.dae_select_walks.specs.declared.Home.{Home}
use Rattle.dae_select_walks.specs.Live.{ways, turn}
use Rattle.dae_select_walks.specs.Facts.{Facts, facts_in_first, facts_in_second, facts_at_turn, facts_at_step}
use Rattle.dae_select_live.specs.Members.{member}
use Rattle.dae_select_live.specs.Turns.{key_of, turns_told, IsTurnTold, TellsTurns}
use Rattle.dae_select_live.specs.declared.turns.Turns.{Turns}
use Rattle.dae_select_live.proofs.Telling.{told_at, told_behind, told_in_if, told_in_loop}
use Rattle.dae_select_blocks.specs.Code.{branch_code, does_nothing, past_code}
use Rattle.dae_select.specs.Grown.{Grown, no_code, glue, acting, in_front}
use Rattle.dae_select_walks.specs.declared.VariableStanding.TheVariants.{Settled}
use Rattle.dae_select_facts.specs.Knowns.{facts_by}
use Rattle.dae_select_facts.specs.Along.{facts_after, facts_at, IsBefore}
use Rattle.dae_select_facts.proofs.LawsOfFacts.{facts_next}
use Rattle.dae_select.specs.Growing.{bottom_of, words_behind, turned, facts_in_tail, IsCodeOf, step_before, standing_before}
use Rattle.dae_select_calls.specs.Makings.{plan_by, variables_by, by_jal}
use Rattle.dae_select.proofs.Sizes.{deepest, first_in_if, second_in_if, first_in_loop, second_in_loop, list_below, rest_below, step_below}
use Rattle.dae_select.proofs.Stacked.{acted, branched, near_turn, looped, none_done, one_more, moved_code, before_is, stands_at_end, stands_before, taken_behind}
use Rattle.dae_select.proofs.walking.+code.Goals as goal

-- what is told of the loops of steps is told of those of the same steps
told_as : (turns : Turns) (xs ys : List Step) → xs ≡ ys → TellsTurns (turns_told turns) (actions_of ys) → TellsTurns (turns_told turns) (actions_of xs)
told_as turns xs ys e h = subst (λ (l : List Step). TellsTurns (turns_told turns) (actions_of l)) (sym e) h

pub step_code-live_at_turn-requires : goal.step_code-live_at_turn-requires
step_code-live_at_turn-requires t c =
    let i = c.in-Loop in let row = turns_told c.args.making.now.turns.now (key_of i.mark) in
    let told = told_in_loop (turns_told c.args.making.now.turns.now) c.args.step.now i.mark i.body i.step i.is c.requires.told in
    let body = subst (λ (l : List Step). IsTurnTold (actions_of l) (actions_of i.step.items) row) (sym c.deref-in-Loop.ensures.value) told.0 in
    subst (λ (l : List Step). IsTurnTold (actions_of c.deref-in-Loop.result.now) (actions_of l) row) (sym c.deref-in-Loop-2.ensures.value) body

pub step_code-list_code-requires : goal.step_code-list_code-requires
step_code-list_code-requires t c =
    let i = c.in-If in
    let below = list_below c.deref.result.now i.q.items c.args.step.now c.deref.ensures.value (second_in_if i.mark i.branch i.p i.q c.args.step.now i.is) in
    let told = told_in_if (turns_told c.args.making.now.turns.now) c.args.step.now i.mark i.branch i.p i.q i.is c.requires.told in
    (subst (λ (n : ℕ). 2 * deepest c.deref.result.now + 1 < n) c.decreases below, (c.requires.sound, told_as c.args.making.now.turns.now _ _ c.deref.ensures.value told.1))

pub step_code-list_code-requires-in-If : goal.step_code-list_code-requires-in-If
step_code-list_code-requires-in-If t c =
    let i = c.in-If in
    let below = list_below c.deref-in-If-3.result.now i.p.items c.args.step.now c.deref-in-If-3.ensures.value (first_in_if i.mark i.branch i.p i.q c.args.step.now i.is) in
    let told = told_in_if (turns_told c.args.making.now.turns.now) c.args.step.now i.mark i.branch i.p i.q i.is c.requires.told in
    (subst (λ (n : ℕ). 2 * deepest c.deref-in-If-3.result.now + 1 < n) c.decreases below, (c.requires.sound, told_as c.args.making.now.turns.now _ _ c.deref-in-If-3.ensures.value told.0))

pub step_code-list_code-requires-in-Loop : goal.step_code-list_code-requires-in-Loop
step_code-list_code-requires-in-Loop t c =
    let i = c.in-Loop in
    let below = list_below c.deref-in-Loop-7.result.now i.step.items c.args.step.now c.deref-in-Loop-7.ensures.value (second_in_loop i.mark i.body i.step c.args.step.now i.is) in
    let told = told_in_loop (turns_told c.args.making.now.turns.now) c.args.step.now i.mark i.body i.step i.is c.requires.told in
    (subst (λ (n : ℕ). 2 * deepest c.deref-in-Loop-7.result.now + 1 < n) c.decreases below, (c.requires.sound, told_as c.args.making.now.turns.now _ _ c.deref-in-Loop-7.ensures.value told.1.1))

pub step_code-list_code-requires-in-Loop-2 : goal.step_code-list_code-requires-in-Loop-2
step_code-list_code-requires-in-Loop-2 t c =
    let i = c.in-Loop in
    let n = if is_some c.bottom_of-test.result then 1 else 0 in
    let left = c.behind_test-tail.ensures ∙ ap (λ (l : List Step). drop n l) c.deref-in-Loop-8.ensures.value in
    let below = rest_below c.behind_test-tail.result.now i.body.items n c.args.step.now left (first_in_loop i.mark i.body i.step c.args.step.now i.is) in
    let told = told_in_loop (turns_told c.args.making.now.turns.now) c.args.step.now i.mark i.body i.step i.is c.requires.told in
    (subst (λ (n : ℕ). 2 * deepest c.behind_test-tail.result.now + 1 < n) c.decreases below, (c.requires.sound, told_as c.args.making.now.turns.now _ _ left (told_behind (turns_told c.args.making.now.turns.now) i.body.items n told.1.0)))

pub step_code-put_loop-requires-clause-near : goal.step_code-put_loop-requires-clause-near
step_code-put_loop-requires-clause-near t c =
    let a = c.args in let i = c.in-Loop in
    let m = a.making.now in let S = by_jal m in let P = plan_by m in let V = variables_by m in let f = m.function in
    let test = c.bottom_of-test.result in
    let begins = c.in_ok-turn-in-Loop.turn in let again = c.in_ok-step_live-in-Loop.step_live in let set = c.in_ok-list_code-in-Loop.field-0 in
    let s = c.in_ok-step_exits-in-Loop in let b = c.in_ok-body_exits-in-Loop in
    let c1 = c.list_code-in-Loop.new.code in let c2 = c.list_code-in-Loop-2.new.code in
    let tail = c.behind_test-tail.result.now in
    let below = c.bottom_of-test.ensures ∙ ap (λ (l : List Step). bottom_of (actions_of l) (actions_of c.deref-in-Loop-4.result.now)) c.deref-in-Loop-3.ensures.value
    ∙ ap (λ (l : List Step). bottom_of (actions_of i.body.items) (actions_of l)) c.deref-in-Loop-4.ensures.value in
    let left = c.behind_test-tail.ensures ∙ ap (λ (l : List Step). drop (if is_some test then 1 else 0) l) c.deref-in-Loop-8.ensures.value in
    let A = facts_by c.in_ok-facts-in-Loop.facts.at_step in let T = facts_by c.in_ok-facts-in-Loop.facts.in_tail in
    let step = moved_code S P V f Settled A A c.new-again.result no_code s.step_exits.leaves s.step_exits.leaves s.step_exits.skips 0 c.in_ok-set-in-Loop.set s.step_exits.leaves_live a.next s.step_exits.skips_live begins c.deref-in-Loop-7.result.now i.step.items c1 again
    refl c.new-again.ensures refl s.ensures.skips s.ensures.leaves_live s.ensures.skips_live c.deref-in-Loop-7.ensures.value c.in_ok-step_live-in-Loop.ensures in
    let body = moved_code S P V f Settled T T c.new-turned.result no_code b.body_exits.leaves b.body_exits.leaves b.body_exits.skips 0 again b.body_exits.leaves_live a.next b.body_exits.skips_live again tail tail c2 set
    refl c.new-turned.ensures refl b.ensures.skips b.ensures.leaves_live b.ensures.skips_live refl c.in_ok-list_code-in-Loop.ensures in
    near_turn S P V f test i.body.items i.step.items tail s.step_exits.leaves b.body_exits.leaves (ways (member c.in_ok-set-in-Loop.set) (member a.next) (member begins)) (ways (member again) (member a.next) (member again)) c1 c2 again set A T below left step body

pub step_code-returns-in_ok-put_loop-in-Loop : goal.step_code-returns-in_ok-put_loop-in-Loop
step_code-returns-in_ok-put_loop-in-Loop t c =
    let a = c.args in let i = c.in-Loop in
    let m = a.making.now in let S = by_jal m in let P = plan_by m in let V = variables_by m in let f = m.function in let x = a.exits.now in
    let test = c.bottom_of-test.result in let words = c.in_ok-words-in-Loop.words in
    let begins = c.in_ok-turn-in-Loop.turn in let again = c.in_ok-step_live-in-Loop.step_live in let set = c.in_ok-list_code-in-Loop.field-0 in
    let s = c.in_ok-step_exits-in-Loop in let b = c.in_ok-body_exits-in-Loop in
    let c1 = c.list_code-in-Loop.new.code in let c2 = c.list_code-in-Loop-2.new.code in
    let tail = c.behind_test-tail.result.now in
    let first = c.in_ok-turn-in-Loop.ensures ∙ ap (λ (l : List Step). turn (actions_of l) (actions_of c.deref-in-Loop-2.result.now) (member a.next)) c.deref-in-Loop.ensures.value
    ∙ ap (λ (l : List Step). turn (actions_of i.body.items) (actions_of l) (member a.next)) c.deref-in-Loop-2.ensures.value in
    let below = c.bottom_of-test.ensures ∙ ap (λ (l : List Step). bottom_of (actions_of l) (actions_of c.deref-in-Loop-4.result.now)) c.deref-in-Loop-3.ensures.value
    ∙ ap (λ (l : List Step). bottom_of (actions_of i.body.items) (actions_of l)) c.deref-in-Loop-4.ensures.value in
    let count = c.in_ok-words-in-Loop.ensures.words ∙ ap (λ (home : ℕ → Home). words_behind home S test) c.requires.sound.homes in
    let left = c.behind_test-tail.ensures ∙ ap (λ (l : List Step). drop (if is_some test then 1 else 0) l) c.deref-in-Loop-8.ensures.value in
    let F = c.in_ok-facts-in-Loop in let memory = m.layouts.now.memory in let told = facts_by a.around.now.known.now in
    let B = i.body.items in let Z = i.step.items in
    let A = facts_at_step memory (actions_of B) (actions_of Z) told in let T = facts_in_tail test (actions_of B) (facts_at_turn memory (actions_of B) (actions_of Z) told) in
    let step_is : facts_by F.facts.at_step ≡ A = F.ensures.at_step ∙ ap (λ (l : List Step). facts_at_step memory (actions_of l) (actions_of c.deref-in-Loop-6.result.now) told) c.deref-in-Loop-5.ensures.value
    ∙ ap (λ (l : List Step). facts_at_step memory (actions_of B) (actions_of l) told) c.deref-in-Loop-6.ensures.value in
    let tail_is : facts_by F.facts.in_tail ≡ T = F.ensures.in_tail ∙ ap (λ (l : List Step). facts_in_tail test (actions_of l) (facts_at_turn memory (actions_of l) (actions_of c.deref-in-Loop-6.result.now) told)) c.deref-in-Loop-5.ensures.value
    ∙ ap (λ (l : List Step). facts_in_tail test (actions_of B) (facts_at_turn memory (actions_of B) (actions_of l) told)) c.deref-in-Loop-6.ensures.value in
    let step = moved_code S P V f Settled (facts_by F.facts.at_step) A c.new-again.result no_code s.step_exits.leaves words s.step_exits.skips 0 c.in_ok-set-in-Loop.set s.step_exits.leaves_live a.next s.step_exits.skips_live begins c.deref-in-Loop-7.result.now i.step.items c1 again
    step_is c.new-again.ensures s.ensures.leaves s.ensures.skips s.ensures.leaves_live s.ensures.skips_live c.deref-in-Loop-7.ensures.value c.in_ok-step_live-in-Loop.ensures in
    let step' = subst (λ (n : List ℕ). IsCodeOf S P V f Settled A no_code words 0 (ways (member n) (member a.next) (member begins)) (actions_of i.step.items) c1 again) c.in_ok-set-in-Loop.ensures step in
    let body = moved_code S P V f Settled (facts_by F.facts.in_tail) T c.new-turned.result no_code b.body_exits.leaves (length c1.code + words) b.body_exits.skips 0 again b.body_exits.leaves_live a.next b.body_exits.skips_live again tail tail c2 set
    tail_is c.new-turned.ensures (b.ensures.leaves ∙ ap (λ (n : ℕ). n + words) c.len.ensures) b.ensures.skips b.ensures.leaves_live b.ensures.skips_live refl c.in_ok-list_code-in-Loop.ensures in
    let made = c.in_ok-put_loop-in-Loop.ensures ∙ ap (λ (home : ℕ → Home). turned home S test c2 c1 a.code.now) c.requires.sound.homes in
    looped S P V f x a.around.now.need (facts_by a.around.now.known.now) a.around.now.before a.around.now.after a.step.now i.mark i.body i.step a.code.now a.next begins again set c1 c2 c.put_loop.new.code test words tail i.is first below count left step' body made

pub step_code-returns-in_ok-put_action-in-Act : goal.step_code-returns-in_ok-put_action-in-Act
step_code-returns-in_ok-put_action-in-Act t c =
    let a = c.args in let m = a.making.now in let i = c.in-Act in
    IfOk-weaker c.live_before_action.result _ _ (λ set h. acted (by_jal m) (plan_by m) (variables_by m) m.function a.exits.now a.around.now.need (facts_by a.around.now.known.now) a.step.now i.mark i.action a.around.now.before a.around.now.after a.code.now a.next c.put_action.new.code set i.is c.in_ok-put_action-in-Act.ensures h) c.live_before_action.ensures

pub step_code-returns-in_ok-put_branch-in-If : goal.step_code-returns-in_ok-put_branch-in-If
step_code-returns-in_ok-put_branch-in-If t c =
    let a = c.args in let i = c.in-If in
    let m = a.making.now in let S = by_jal m in let P = plan_by m in let V = variables_by m in let f = m.function in let x = a.exits.now in
    let first = c.in_ok-first-in-If.first in let second = c.in_ok-second-in-If.second in
    let c1 = c.list_code.new.code in let c2 = c.put_past.new.code in let c3 = c.list_code-in-If.new.code in
    let told = facts_by a.around.now.known.now in
    let q = moved_code S P V f Settled (facts_by c.in_ok-in_second-in-If.in_second) (facts_in_second i.branch told) a.code.now a.code.now x.leaves x.leaves x.skips x.skips c.in_ok-copy-in-If.field-0 x.leaves_live x.leaves_live x.skips_live x.skips_live c.deref.result.now i.q.items c1 second c.in_ok-in_second-in-If.ensures refl refl refl refl refl c.deref.ensures.value c.in_ok-second-in-If.ensures in
    let q' = subst (λ (n : List ℕ). IsCodeOf S P V f Settled (facts_in_second i.branch told) a.code.now x.leaves x.skips (ways (member n) (member x.leaves_live) (member x.skips_live)) (actions_of i.q.items) c1 second) c.in_ok-copy-in-If.ensures q in
    let p = moved_code S P V f Settled (facts_by c.in_ok-in_first-in-If.in_first) (facts_in_first i.branch told) c2 c2 x.leaves x.leaves x.skips x.skips a.next x.leaves_live x.leaves_live x.skips_live x.skips_live c.deref-in-If-3.result.now i.p.items c3 first c.in_ok-in_first-in-If.ensures refl refl refl refl refl c.deref-in-If-3.ensures.value c.in_ok-first-in-If.ensures in
    let past : List Step → List Step → ℕ → Grown = λ y z n. in_front (glue (past_code S (does_nothing (actions_of y) || does_nothing (actions_of z)) (length c1.code - n))) c1 in
    let e2 = c.in_ok-put_past-in-If.ensures ∙ ap (λ (y : List Step). past y c.deref-in-If-2.result.now c.len-rest.result) c.deref-in-If.ensures.value ∙ ap (λ (z : List Step). past i.p.items z c.len-rest.result) c.deref-in-If-2.ensures.value
    ∙ ap (λ (n : ℕ). past i.p.items i.q.items n) c.len-rest.ensures in
    let led : (ℕ → Home) → List Step → ℕ → ℕ → Grown = λ home l n o. in_front (acting i.mark.place (branch_code home S i.branch (does_nothing (actions_of l)) (length c3.code - (if does_nothing (actions_of l) then n else o)))) c3 in
    let e4 = c.in_ok-put_branch-in-If.ensures ∙ ap (λ (home : ℕ → Home). led home c.deref-in-If-4.result.now c.len-rest.result c.len-behind.result) c.requires.sound.homes ∙ ap (λ (l : List Step). led (P.home f) l c.len-rest.result c.len-behind.result) c.deref-in-If-4.ensures.value
    ∙ ap (λ (n : ℕ). led (P.home f) i.p.items n c.len-behind.result) c.len-rest.ensures ∙ ap (λ (n : ℕ). led (P.home f) i.p.items (length a.code.now.code) n) c.len-behind.ensures in
    IfOk-weaker c.live_with_branch.result _ _ (λ set h. branched S P V f x a.around.now.need (facts_by a.around.now.known.now) a.around.now.before a.around.now.after a.step.now i.mark i.branch i.p i.q a.code.now a.next set first second c1 c2 c3 c.put_branch.new.code i.is q' e2 p e4 h) c.live_with_branch.ensures

pub list_code-index-told-requires : goal.list_code-index-told-requires
list_code-index-told-requires t c =
    let some = c.loop-index-test.true in
    let le = c.loop-index.auto.index in
    omega (arith, c.in_ok-all.ensures.long, c.in_ok-all.all.ok.0)

pub list_code-step_code-requires : goal.list_code-step_code-requires
list_code-step_code-requires t c =
    let a = c.args in
    let x = ways (member a.next) (member a.exits.now.leaves_live) (member a.exits.now.skips_live) in
    let some = c.loop-index-test.true in
    let le = c.loop-index.auto.index in
    let j = c.loop-index.index in let s = c.index-steps-index.result in
    let k = actions_of (drop j a.steps.now) in
    let stood = c.loop-index.invariant.1 ∙ ap (λ (o : Option Step). standing_before o k x) (before_is a.steps.now j s (omega arith) (omega arith) c.index-steps-index.is) in
    let below = step_below a.steps.now (j - 1) s (omega arith) c.index-steps-index.is in
    let told = told_at (turns_told a.making.now.turns.now) a.steps.now (j - 1) s (omega arith) c.index-steps-index.is c.requires.told in
    (subst (λ (n : ℕ). 2 * the_size s + 0 < n) c.decreases below, (c.requires.sound, (taken_behind s k x c.loop-index.after stood, told)))

pub list_code-loop-index-init : goal.list_code-loop-index-init
list_code-loop-index-init t c =
    let a = c.args in
    let x = ways (member a.next) (member a.exits.now.leaves_live) (member a.exits.now.skips_live) in (
      none_done (by_jal a.making.now) (plan_by a.making.now) (variables_by a.making.now) a.making.now.function Settled (facts_at a.making.now.layouts.now.memory (facts_by a.known) a.steps.now (length a.steps.now)) a.steps.now a.code.now a.exits.now.leaves a.exits.now.skips a.next (member a.exits.now.leaves_live) (member a.exits.now.skips_live),
      stands_at_end a.steps.now (step_before a.steps.now (length a.steps.now)) x,
    )

pub list_code-loop-index-preserved : goal.list_code-loop-index-preserved
list_code-loop-index-preserved t c =
    let a = c.args in
    let x = ways (member a.next) (member a.exits.now.leaves_live) (member a.exits.now.skips_live) in
    let some = c.loop-index-test.true in
    let le = c.loop-index.auto.index in
    let j = c.loop-index.index in let s = c.index-steps-index.result in
    let k = actions_of (drop j a.steps.now) in
    let memory = a.making.now.layouts.now.memory in
    let begin = facts_by a.known in let known = facts_at memory begin a.steps.now (j - 1) in let told = c.index-told.result.now in
    let back : j ≡ suc (j - 1) = omega arith in
    let next : facts_at memory begin a.steps.now j ≡ facts_after memory s known =
    ap (facts_at memory begin a.steps.now) back ∙ facts_next memory begin a.steps.now (j - 1) s (omega arith) c.index-steps-index.is in
    let so_far = subst (λ (m : Facts). IsCodeOf (by_jal a.making.now) (plan_by a.making.now) (variables_by a.making.now) a.making.now.function c.loop-index.after m a.code.now a.exits.now.leaves a.exits.now.skips x k c.loop-index.code c.loop-index.set) next c.loop-index.invariant.0 in
    let test : IsBefore memory known s k told.need (facts_by told.known) =
    subst (λ (n : ℕ). IsBefore memory known s (actions_of (drop n a.steps.now)) told.need (facts_by told.known)) (sym back)
    (c.in_ok-all.ensures.each (j - 1) s told (omega arith) c.index-steps-index.is c.index-told.ensures) in
    let stood = c.loop-index.invariant.1 ∙ ap (λ (o : Option Step). standing_before o k x) (before_is a.steps.now j s (omega arith) (omega arith) c.index-steps-index.is) in (
      one_more (by_jal a.making.now) (plan_by a.making.now) (variables_by a.making.now) a.making.now.function a.exits.now known told.need (facts_by told.known) a.steps.now j s a.code.now c.loop-index.code c.loop-index.set c.step_code.new.code c.in_ok-set.set (member a.next)
          c.standing_between-before.result c.loop-index.after (omega arith) (omega arith) c.index-steps-index.is stood so_far test c.in_ok-set.ensures,
      stands_before a.steps.now j s c.loop-index.set x c.standing_between-before.result c.loop-index.after (omega arith) (omega arith) c.index-steps-index.is stood so_far.live c.standing_between-before.ensures,
    )

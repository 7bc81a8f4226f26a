use Rattle.std.proofs.Common.{◌≡◌, ◌∙◌, ◌+◌, ◌-◌, ◌≤◌, ◌++◌, ◌∷◌, [], Some, true, false, length, sym, ap, refl, subst, rules, arith}
use Rattle.dae_unit.specs.declared.couples.CoupleTask.TheVariants.{Compare, Note}
use Rattle.dae_unit.specs.declared.couples.CoupleVerdict.TheVariants.{Other}
use Rattle.dae_unit.specs.Couples.{AreEnclosed, all_hold, goals_at}
use Rattle.dae_unit.proofs.Comparing.{known_holds, never_holds, parts_differ, parts_decide, parts_needed, steps_less}
use Rattle.dae_unit.proofs.Enclosing.{enclosed_before, enclosed_further}
use Rattle.dae_unit.proofs.across.compare.Goals as goal

pub returns-in-Other-clause-same : goal.returns-in-Other-clause-same
returns-in-Other-clause-same c =
    let a = c.args in
    never_holds a.f.now a.g.now a.goal.couple a.goal.depth (c.requires a.goal.couple Other (sym c.in-Some.ensures.value ∙ ap Some c.in-Other.is)) (all_hold a.f.now a.g.now a.tasks.now.items)

pub returns-in-Other-clause-found : goal.returns-in-Other-clause-found
returns-in-Other-clause-found c = let a = c.args in c.requires a.goal.couple Other (sym c.in-Some.ensures.value ∙ ap Some c.in-Other.is)

pub returns-in-Other-clause-enclosed : goal.returns-in-Other-clause-enclosed
returns-in-Other-clause-enclosed c h = let a = c.args in enclosed_before a.f.now a.g.now a.tasks.now.items (Compare a.goal) h

pub returns-then-enough-goal-clause-same : goal.returns-then-enough-goal-clause-same
returns-then-enough-goal-clause-same c =
    let a = c.args in
    known_holds a.f.now a.g.now a.known.now.entries c.requires a.goal.couple c.in-Same.enough a.goal.depth (sym c.in-Some.ensures.value ∙ ap Some c.in-Same.is) c.if-enough-goal.true (all_hold a.f.now a.g.now a.tasks.now.items)

pub returns-then-enough-goal-clause-enclosed : goal.returns-then-enough-goal-clause-enclosed
returns-then-enough-goal-clause-enclosed c h = let a = c.args in enclosed_before a.f.now a.g.now a.tasks.now.items (Compare a.goal) h

pub returns-then-goal-eq0-clause-enclosed : goal.returns-then-goal-eq0-clause-enclosed
returns-then-goal-eq0-clause-enclosed c h = let a = c.args in enclosed_before a.f.now a.g.now a.tasks.now.items (Compare a.goal) h

pub returns-then-not-branch-clause-same : goal.returns-then-not-branch-clause-same
returns-then-not-branch-clause-same c =
    let a = c.args in
    let fails : c.in_ok-push_parts.field-0 ≡ false = search rules in
    never_holds a.f.now a.g.now a.goal.couple a.goal.depth
    (parts_differ a.f.now a.g.now a.goal.couple c.new-parts.result.items c.push_parts.new.parts.items c.new-parts.ensures.items c.in_ok-push_parts.field-0 c.in_ok-push_parts.ensures.same fails)
    (all_hold a.f.now a.g.now a.tasks.now.items)

pub returns-then-not-branch-clause-found : goal.returns-then-not-branch-clause-found
returns-then-not-branch-clause-found c =
    let a = c.args in
    let fails : c.in_ok-push_parts.field-0 ≡ false = search rules in
    parts_differ a.f.now a.g.now a.goal.couple c.new-parts.result.items c.push_parts.new.parts.items c.new-parts.ensures.items c.in_ok-push_parts.field-0 c.in_ok-push_parts.ensures.same fails

pub returns-then-not-branch-clause-enclosed : goal.returns-then-not-branch-clause-enclosed
returns-then-not-branch-clause-enclosed c h = let a = c.args in enclosed_before a.f.now a.g.now a.tasks.now.items (Compare a.goal) h

pub returns-clause-same : goal.returns-clause-same
returns-clause-same c =
    let a = c.args in
    let agree : c.in_ok-push_parts.field-0 ≡ true = search rules in
    let goals = c.in_ok-push_goals.ensures in
    let noted = c.in_ok-push.ensures.items in
    let parts = c.as_slice.ensures.value in
    let is : c.push_goals.new.tasks.items ≡ (a.tasks.now.items ++ Note a.goal.couple ∷ []) ++ goals_at (a.goal.depth - 1) c.push_parts.new.parts.items = cc in
    parts_decide a.f.now a.g.now a.goal.couple c.new-parts.result.items c.push_parts.new.parts.items c.new-parts.ensures.items c.in_ok-push_parts.field-0 c.in_ok-push_parts.ensures.same agree a.goal.depth c.if-goal-eq0.false a.tasks.now.items c.push_goals.new.tasks.items is

pub returns-clause-enclosed : goal.returns-clause-enclosed
returns-clause-enclosed c h =
    let a = c.args in
    let goals = c.in_ok-push_goals.ensures in
    let noted = c.in_ok-push.ensures.items in
    let parts = c.as_slice.ensures.value in
    let is : c.push_goals.new.tasks.items ≡ (a.tasks.now.items ++ Note a.goal.couple ∷ []) ++ goals_at (a.goal.depth - 1) c.push_parts.new.parts.items = cc in
    let needed = parts_needed a.f.now a.g.now a.goal.couple c.new-parts.result.items c.push_parts.new.parts.items c.new-parts.ensures.items c.in_ok-push_parts.field-0 c.in_ok-push_parts.ensures.same [] c.push_parts.new.parts.items refl in
    subst (λ z. AreEnclosed a.f.now a.g.now z) (sym is) (enclosed_further a.f.now a.g.now a.goal (a.goal.depth - 1) c.push_parts.new.parts.items needed a.tasks.now.items h)

pub returns-clause-less : goal.returns-clause-less
returns-clause-less c =
    let a = c.args in
    let goals = c.in_ok-push_goals.ensures in
    let noted = c.in_ok-push.ensures.items in
    let parts = c.as_slice.ensures.value in
    let is : c.push_goals.new.tasks.items ≡ (a.tasks.now.items ++ Note a.goal.couple ∷ []) ++ goals_at (a.goal.depth - 1) c.push_parts.new.parts.items = cc in
    let none = ap length c.new-parts.ensures.items in
    let most = c.in_ok-push_parts.ensures.few in
    let few : length c.push_parts.new.parts.items ≤ length a.f.now.components + 2 = omega arith in
    steps_less (length a.f.now.components + 2) a.goal.couple c.push_parts.new.parts.items few a.goal.depth c.if-goal-eq0.false a.tasks.now.items c.push_goals.new.tasks.items is

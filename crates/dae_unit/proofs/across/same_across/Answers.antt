use Rattle.std.proofs.Common.{◌≡◌, ◌+◌, ◌++◌, ◌∷◌, [], length, sym, ap, subst, ◌∙◌}
use Rattle.dae_unit.specs.declared.couples.CoupleTask.TheVariants.{Compare, Note}
use Rattle.std.specs.List.{AllByRecursion}
use Rattle.dae_unit.specs.Across.{same_across}
use Rattle.dae_unit.specs.Couples.{AreEnclosed, IsFound, IsNotedOther, goes_on}
use Rattle.dae_unit.proofs.Comparing.{comparing_lessens, noting_holds, noting_lessens}
use Rattle.dae_unit.proofs.Enclosing.{enclosed_before, noted_differ}
use Rattle.dae_unit.proofs.across.same_across.Goals as goal

pub loop-task-smaller-in-Further : goal.loop-task-smaller-in-Further
loop-task-smaller-in-Further c =
    comparing_lessens (length c.args.f.now.components + 2) c.loop-task.tasks.items c.pop.new.self.items c.compare.new.tasks.items c.in-Some.task c.in-Compare.goal c.in-Some.ensures.items c.in-Compare.is c.in_ok-compare-in-Compare.ensures.less

pub loop-task-smaller : goal.loop-task-smaller
loop-task-smaller c =
    noting_lessens (length c.args.f.now.components + 2) c.loop-task.tasks.items c.pop.new.self.items c.in-Some.task c.in-Note.couple c.in-Some.ensures.items c.in-Note.is

pub loop-task-preserved : goal.loop-task-preserved
loop-task-preserved c =
    let a = c.args in
    let i = c.loop-task.invariant in
    record {
      same = noting_holds a.f.now a.g.now c.loop-task.tasks.items c.pop.new.self.items c.in-Some.task c.in-Note.couple (same_across a.f.now a.g.now a.types.0 a.types.1) c.in-Some.ensures.items c.in-Note.is i.same;
      known = c.in_ok-note-in-Note.ensures;
      enclosed = enclosed_before a.f.now a.g.now c.pop.new.self.items c.in-Some.task (subst (λ z. AreEnclosed a.f.now a.g.now z) c.in-Some.ensures.items i.enclosed);
    }

pub returns-in-Differs-clause-known : goal.returns-in-Differs-clause-known
returns-in-Differs-clause-known c =
    let a = c.args in
    let i = c.loop-task.invariant in
    let x = c.in-Compare.goal in
    let rest = c.pop.new.self.items in
    let came = c.in_ok-compare-in-Compare.ensures in
    let other = subst (λ z. IsFound a.f.now a.g.now x.couple z) c.in-Differs.is came.found in
    let kept : c.compare.new.tasks.items ≡ rest = came.kept (ap goes_on c.in-Differs.is) in
    let last : c.loop-task.tasks.items ≡ rest ++ Compare x ∷ [] = c.in-Some.ensures.items ∙ ap (λ z. rest ++ z ∷ []) c.in-Compare.is in
    let noted = c.in_ok-push-in-Differs.ensures.items in
    let all : c.as_slice.result.now ≡ rest ++ Note x.couple ∷ [] = c.as_slice.ensures.value ∙ noted ∙ ap (λ z. z ++ Note x.couple ∷ []) kept in
    let differ = noted_differ a.f.now a.g.now x other rest (subst (λ z. AreEnclosed a.f.now a.g.now z) last i.enclosed) in
    c.in_ok-note_differing-in-Differs.ensures a.f.now a.g.now i.known (subst (λ z. AllByRecursion (IsNotedOther a.f.now a.g.now) z) (sym all) differ)

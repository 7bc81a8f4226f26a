use Rattle.std.proofs.Common.{[], ◌∷◌, ◌++◌, false, sym, ◌∙◌, ap, arith}
use Rattle.dae_alias.specs.Meeting.{held_by}
use Rattle.dae_alias.proofs.Marks.{found_met, load_first, load_again}
use Rattle.dae_alias.proofs.marking.mark_load.Goals as goal
use Rattle.dae_alias.proofs.marking.mark_load.Goals.{in-Some, in_default}

pub meet-requires-clause-times : goal.meet-requires-clause-times
meet-requires-clause-times c = c.requires.seldom c.args.variable

pub meet-requires-clause-loads : goal.meet-requires-clause-loads
meet-requires-clause-loads c = let at = c.requires.at in let e = at.count in let o = c.args.marks.now.ok in omega (arith, e, o)

pub index_mut-requires : goal.index_mut-requires
index_mut-requires c =
    let lt = found_met _ (held_by c.args.walk.now) c.args.kind _ c.in-Some.earlier c.requires.at.met (sym (c.in_ok-given.ensures).is ∙ c.in-Some.is) in
    let at = c.requires.at in let e = at.count in omega (arith, lt, e)

pub returns : goal.returns
returns c = λ place.
    elim c.match-given.branch [
      | in-Some w ↦ load_again place c.args.variable c.args.kind c.args.x c.args.walk.now c.meet.new.walk c.in_ok-given.given c.in_ok-given.ensures c.args.marks.now.items c.requires.at c.push.new.self.items
          w.in-Some.earlier w.in-Some.is (c.in_ok-push.ensures.items ∙ ap (λ v. v.items ++ false ∷ []) w.marks-is)
      | in_default w ↦ load_first place c.args.variable c.args.kind c.args.x c.args.walk.now c.meet.new.walk c.in_ok-given.given c.in_ok-given.ensures c.args.marks.now.items c.requires.at c.push.new.self.items
          w.in_default.is (c.in_ok-push.ensures.items ∙ ap (λ v. v.items ++ false ∷ []) w.marks-is)
    ]

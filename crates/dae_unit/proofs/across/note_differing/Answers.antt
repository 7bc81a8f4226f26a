use Rattle.std.proofs.Common.{◌≡◌, ◌∙◌, Some, slice_get, ap}
use Rattle.std.proofs.lemmas.Option.{slice_get-get_or}
use Rattle.dae_base.proofs.Laws.{all_at}
use Rattle.dae_unit.specs.declared.couples.CoupleTask.TheVariants.{Note}
use Rattle.dae_unit.specs.declared.couples.CoupleVerdict.TheVariants.{Other}
use Rattle.dae_unit.specs.Couples.{IsNotedOther}
use Rattle.dae_unit.proofs.Comparing.{known_moved, noted}
use Rattle.dae_unit.proofs.across.note_differing.Goals as goal
use Rattle.dae_unit.proofs.across.note_differing.Goals.{in-Note+in_ok-insert-in-Note, in-Compare}

pub loop-task-preserved : goal.loop-task-preserved
loop-task-preserved c f g h all =
    let a = c.args in
    let before = c.loop-task.invariant f g h all in
    elim c.match-task.branch [
      | in-Note+in_ok-insert-in-Note w ↦
          (let it : slice_get a.tasks.now c.loop-task.task-index ≡ Some (Note w.in-Note.couple) = slice_get-get_or a.tasks.now c.loop-task.task-index _ c.loop-task-test.true ∙ ap Some w.in-Note.is in
          let other = all_at (IsNotedOther f g) a.tasks.now c.loop-task.task-index (Note w.in-Note.couple) all it in
          let moved : w.insert.new.self.entries ≡ c.match-task.known.entries = cc in
          known_moved f g w.insert.new.self.entries c.match-task.known.entries moved
          (noted f g c.loop-task.known.entries w.insert.new.self.entries w.in-Note.couple Other other (λ q. w.in_ok-insert-in-Note.ensures.updates.0 q) before))
      | in-Compare w ↦
          (let moved : c.loop-task.known.entries ≡ c.match-task.known.entries = cc in
          known_moved f g c.loop-task.known.entries c.match-task.known.entries moved before)
    ]

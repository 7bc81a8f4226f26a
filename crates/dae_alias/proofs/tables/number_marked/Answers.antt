use Rattle.std.proofs.Common.{true, false, ap, ◌∙◌, arith}
use Rattle.dae_alias.proofs.Numbered.{numbered_next, room_for_one}
use Rattle.dae_alias.proofs.tables.number_marked.Goals as goal
use Rattle.dae_alias.proofs.tables.number_marked.Goals.{then-mark+in_ok-push, else-mark+in_ok-push-2}

pub overflow_add-variables : goal.overflow_add-variables
overflow_add-variables c =
    let so_far = c.loop-mark.invariant in
    let room = room_for_one c.args.first c.args.marks.now c.loop-mark.mark-index c.loop-mark.variables c.loop-mark-test.true so_far.variables_are c.requires in omega (arith, room)

pub loop-mark-preserved : goal.loop-mark-preserved
loop-mark-preserved c =
    elim c.if-mark.branch [
      | then-mark+in_ok-push w ↦
          numbered_next c.args.first c.args.marks.now c.loop-mark.mark-index _ true c.loop-mark.holders.items c.if-mark.holders.items c.loop-mark.variables c.if-mark.variables
          c.loop-mark-test.true w.if-mark.true c.loop-mark.invariant (ap (λ v. v.items) w.holders-is ∙ w.in_ok-push.ensures.items) (let e = w.variables-is in omega (arith, e))
      | else-mark+in_ok-push-2 w ↦
          numbered_next c.args.first c.args.marks.now c.loop-mark.mark-index _ false c.loop-mark.holders.items c.if-mark.holders.items c.loop-mark.variables c.if-mark.variables
          c.loop-mark-test.true w.if-mark.false c.loop-mark.invariant (ap (λ v. v.items) w.holders-is ∙ w.in_ok-push-2.ensures.items) (let e = w.variables-is in omega (arith, e))
    ]

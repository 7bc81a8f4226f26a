use Rattle.std.proofs.Common.{ap, ◌∙◌, arith}
use Rattle.dae_asm_data.proofs.Marking.{moved, go_past, go_on, over}
use Rattle.dae_asm_data.proofs.marks.marks_of.Goals as goal
use Rattle.dae_asm_data.proofs.marks.marks_of.Goals.{in-Nothing, in-Value+in_ok-push-in-Value}

pub loop-row-preserved : goal.loop-row-preserved
loop-row-preserved c =
    elim c.match-mark_at.branch [
      | in-Nothing w ↦
          moved _ _ _ _ _ _ _ w.last-is (ap (λ v. v.items) w.marks-is)
          (go_past c.args.counts c.args.rows.now c.loop-row.row-index _ c.loop-row.last c.loop-row.marks.items c.len.result c.loop-row-test.true (first_of (cc, omega arith)) c.loop-row.invariant w.in-Nothing.ensures)
      | in-Value+in_ok-push-in-Value w ↦
          moved _ _ _ _ _ _ _ w.last-is (ap (λ v. v.items) w.marks-is ∙ w.in_ok-push-in-Value.ensures.items)
          (go_on c.args.counts c.args.rows.now c.loop-row.row-index _ c.loop-row.last c.loop-row.marks.items c.len.result w.in-Value.mark c.loop-row-test.true (first_of (cc, omega arith)) c.loop-row.invariant w.in-Value.ensures)
    ]

pub returns-clause-ok : goal.returns-clause-ok
returns-clause-ok c = over c.args.counts c.args.rows.now c.loop-row.row-index c.loop-row.last c.loop-row.marks.items c.loop-row-test.false c.loop-row.invariant

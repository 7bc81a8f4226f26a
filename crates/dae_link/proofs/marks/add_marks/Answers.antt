use Rattle.std.proofs.Common.{◌∙◌}
use Rattle.dae_link.proofs.Marking.{one_looked_at, one_passed_by}
use Rattle.dae_link.proofs.marks.add_marks.Goals.{then-placed-words+in_ok-add_mark, else-placed-words}
use Rattle.dae_link.proofs.marks.add_marks.Goals as goal

pub loop-placed-preserved : goal.loop-placed-preserved
loop-placed-preserved c =
    let old = c.loop-placed.marks in let places = c.args.places.now in let i = c.loop-placed.placed-index in
    let before = c.loop-placed.invariant in let some = c.loop-placed-test.true in
    elim c.if-placed-words.branch [
      | then-placed-words+in_ok-add_mark w ↦ rw w.marks-is (record {
        marked = w.in_ok-add_mark.ensures.marked;
        few = w.in_ok-add_mark.ensures.few;
        made = one_looked_at c.args.room c.args.most c.args.side places i w.mark_at.result old w.add_mark.new.marks some w.mark_at.ensures before.few w.in_ok-add_mark.ensures.more ∙ before.made;
      })
      | else-placed-words w ↦ rw w.marks-is (record {
        marked = before.marked;
        few = before.few;
        made = one_passed_by c.args.room c.args.most c.args.side places i c.words_in-words.result old some c.words_in-words.ensures w.if-placed-words.false ∙ before.made;
      })
    ]

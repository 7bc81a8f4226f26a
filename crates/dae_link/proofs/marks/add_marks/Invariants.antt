use Rattle.std.specs.Prelude.{◌≡◌, ◌≤◌, length, drop}
use Rattle.dae_link.specs.Marked.{IsMarked, marks_after, up_to}
use Rattle.dae_link.proofs.marks.add_marks.Given as goal

abbrev pub invariant-loop-placed : goal.invariant-loop-placed
invariant-loop-placed l = record {
  marked : IsMarked l.room l.marks;
  few : length l.marks.lines.items ≤ l.most;
  made : up_to l.most l.marks.lines.items (marks_after l.room l.side l.marks.last (drop l.placed-index l.places))
      ≡ up_to l.most l.initial.marks.lines.items (marks_after l.room l.side l.initial.marks.last l.places);
}

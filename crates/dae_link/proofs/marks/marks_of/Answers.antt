use Rattle.std.proofs.Common.{◌≡◌, List, ap, ◌∙◌}
use Rattle.std.specs.Prelude.{Option, None}
use Rattle.std.specs.List.{last_or}
use Rattle.dae_base.specs.declared.Side.TheVariants.{A, E}
use Rattle.dae_image.specs.declared.LineMark.{LineMark}
use Rattle.dae_link.specs.Marked.{marks_after, up_to, marks_a}
use Rattle.dae_link.proofs.marks.marks_of.Goals as goal

pub returns : goal.returns
returns c =
    let room = c.args.room in let a = c.args.a.now in let e = c.args.e.now in
    let one = c.add_marks.new.marks in let of_a = c.in_ok-add_marks.ensures in let of_e = c.in_ok-add_marks-2.ensures in
    let first : one.lines.items ≡ marks_a room a = of_a.made ∙ ap (λ (ms : List LineMark). up_to 131072 ms (marks_after room A None a)) c.new.ensures.items in
    record {
      good = of_e.marked.good;
      numbers = of_e.marked.numbers;
      few = of_e.few;
      made = of_e.made ∙ ap (λ (l : Option LineMark). up_to 262144 one.lines.items (marks_after room E l e)) of_a.marked.last
          ∙ ap (λ (ms : List LineMark). up_to 262144 ms (marks_after room E (last_or None ms) e)) first;
    }

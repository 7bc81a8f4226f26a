use Rattle.std.proofs.Common.{◌≡◌, ◌^◌, ◌<◌, true, List, sym, subst, ◌∙◌, arith}
use Rattle.std.specs.Prelude.{Some, None}
use Rattle.std.specs.List.{All, last_or}
use Rattle.dae_image.specs.Contents.{are_lines}
use Rattle.dae_image.specs.declared.LineMark.{LineMark}
use Rattle.dae_link.proofs.Marking.{good_pushed, last_pushed, small_pushed}
use Rattle.dae_link.proofs.marks.add_mark.Goals as goal

pub returns-in_ok-push-clause-marked : goal.returns-in_ok-push-clause-marked
returns-in_ok-push-clause-marked c =
    let old = c.args.marks.now in
    let marked = c.requires.marked in
    let items = sym c.in_ok-push.ensures.items in
    let is = sym c.is_mark.ensures ∙ c.if-is_mark.true in
    record {
      good = λ h has. subst (λ (ms : List LineMark). are_lines h None ms ≡ true) items (good_pushed c.args.room old.last old.lines.items c.args.mark marked.good marked.last is h has);
      last = subst (λ (ms : List LineMark). Some c.args.mark ≡ last_or None ms) items (sym (last_pushed None old.lines.items c.args.mark));
      numbers = subst (λ (ms : List LineMark). All (λ (m : LineMark). m.line < 2 ^ 32) ms) items (small_pushed old.lines.items c.args.mark marked.numbers (omega arith));
    }

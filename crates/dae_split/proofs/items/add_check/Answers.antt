use Rattle.std.proofs.Common.{◌≡◌, true, sym, ◌∙◌}
use Rattle.dae_ir.specs.Classes.{classes_of, has_check}
use Rattle.dae_split.proofs.Lists.{on_ok_more}
use Rattle.dae_split.proofs.items.add_check.Goals as goal

pub returns-then-has_check-clause-made : goal.returns-then-has_check-clause-made
returns-then-has_check-clause-made c =
    let e : has_check (classes_of c.args.tables.now c.args.task.function).s c.args.check ≡ true = sym c.has_check.ensures ∙ c.if-has_check.true in
    on_ok_more c.add_part.result c.add_part.ensures.made (λ h outside r. rw e (h outside c.args.place r))

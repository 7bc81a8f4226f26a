use Rattle.std.proofs.Common.{◌≡◌, ◌∙◌, ap, arith, sym, true}
use Rattle.std.specs.Prelude.{not}
use Rattle.std.specs.List.{list_any}
use Rattle.dae_base.proofs.Laws.{any_mapped, same_key}
use Rattle.dae_types_sound.proofs.names.note.Goals as goal

pub returns-in-Ok-default-true-clause-fresh : goal.returns-in-Ok-default-true-clause-fresh
returns-in-Ok-default-true-clause-fresh c =
    let yes : c.in-Ok-default-true.field-0-1 ≡ true = grind (arith, c.in-Ok-default-true.field-0-1-test, c.in-Ok-default-true.field-0-1-is) in
    let added : not (list_any (same_key c.in-Some.name) c.args.seen.now.keys) ≡ c.in-Ok-default-true.field-0-1 = sym c.in-Ok-default-true.ensures.added in
    rw (c.in-Some.is) (ap not (sym (any_mapped c.in-Some.name.now c.args.seen.now.keys)) ∙ (added ∙ yes))

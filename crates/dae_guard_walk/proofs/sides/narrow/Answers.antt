use Rattle.std.proofs.Common.{◌≡◌, ◌∙◌, sym}
use Rattle.dae_guard_walk.specs.Kinds.{compares}
use Rattle.dae_guard_walk.proofs.SideLaws.{decided_first, decided_second}
use Rattle.dae_guard_walk.proofs.sides.narrow.Goals as goal

pub first_kept-requires-clause-open : goal.first_kept-requires-clause-open
first_kept-requires-clause-open c =
    sym (decided_second (compares c.args.test) c.args.x c.args.y (sym c.is_single.ensures ∙ c.if-is_single.true)) ∙ c.requires.open

pub second_kept-requires-clause-open : goal.second_kept-requires-clause-open
second_kept-requires-clause-open c =
    sym (decided_first (compares c.args.test) c.args.x c.args.y (sym c.is_single-then-is_plain-2.ensures ∙ c.if-is_single-2.true)) ∙ c.requires.open

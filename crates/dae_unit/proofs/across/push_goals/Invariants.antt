use Rattle.std.proofs.Common.{◌≡◌, ◌++◌, drop}
use Rattle.dae_unit.specs.Couples.{goals_at}
use Rattle.dae_unit.proofs.across.push_goals.Given as goal

abbrev pub invariant-loop-part : goal.invariant-loop-part
invariant-loop-part l = l.tasks.items ++ goals_at l.depth (drop l.part-index l.parts) ≡ l.initial.tasks.items ++ goals_at l.depth l.parts

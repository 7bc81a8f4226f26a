use Rattle.std.proofs.Common.{◌≡◌, ◌+◌, length}
use Rattle.dae_unit.specs.Across.{same_across}
use Rattle.dae_unit.specs.Couples.{AreEnclosed, AreKnown, all_hold, weight}
use Rattle.dae_unit.proofs.across.same_across.Given as goal

abbrev pub invariant-loop-task : goal.invariant-loop-task
invariant-loop-task l =
    record {
      same : all_hold l.f l.g l.tasks.items ≡ same_across l.f l.g l.fn.types.0 l.fn.types.1;
      known : AreKnown l.f l.g l.known.entries;
      enclosed : AreEnclosed l.f l.g l.tasks.items;
    }

abbrev pub decreases-loop-task : goal.decreases-loop-task
decreases-loop-task l = weight (length l.f.components + 2) l.tasks.items

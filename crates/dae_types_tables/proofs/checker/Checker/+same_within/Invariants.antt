use Rattle.std.proofs.Common.{◌≡◌, ◌≤◌}
use Rattle.dae_types_kinds.specs.Types.{same_within}
use Rattle.dae_types_tables.specs.Seen.{tables}
use Rattle.dae_types_tables.proofs.checker.Checker.+same_within.Given as goal

abbrev pub decreases-same_within : goal.decreases-same_within
decreases-same_within l = l.depth

abbrev pub invariant-loop-inner : goal.invariant-loop-inner
invariant-loop-inner l = record {
  less : l.inner ≤ l.depth;
  same : same_within l.inner (tables l.self) l.left l.right ≡ same_within l.depth (tables l.self) l.fn.left l.fn.right;
}

abbrev pub decreases-loop-inner : goal.decreases-loop-inner
decreases-loop-inner l = l.inner

use Rattle.std.proofs.Common.{◌≡◌}
use Rattle.dae_types_kinds.specs.Types.{composite}
use Rattle.dae_types_tables.specs.Layers.{wrapped}
use Rattle.dae_types_tables.specs.Seen.{tables}
use Rattle.dae_types_tables.proofs.Wrapping.{weight}
use Rattle.dae_types_tables.proofs.checker.Checker.composite.Given as goal

abbrev pub invariant-loop-layer : goal.invariant-loop-layer
invariant-loop-layer l =
    wrapped l.layers.items (tables l.self, l.last) ≡ composite (tables l.fn.self) l.left l.right

abbrev pub decreases-loop-layer : goal.decreases-loop-layer
decreases-loop-layer l = weight l.layers.items

use Rattle.std.proofs.Common.{◌≡◌}
use Rattle.dae_types_file_plans.specs.Initialisers.{descend}
use Rattle.dae_types_tables.specs.Seen.{tables}
use Rattle.dae_types_fills.specs.Slots.{view_slot}
use Rattle.dae_types_fills.proofs.slots.descend.Given as goal

abbrev pub invariant-loop-left : goal.invariant-loop-left
invariant-loop-left l =
    descend l.left (tables l.checker) l.item.literal l.item.structure (view_slot l.slot) ≡ descend l.depth (tables l.checker) l.item.literal l.item.structure (view_slot l.fn.slot)

abbrev pub decreases-loop-left : goal.decreases-loop-left
decreases-loop-left l = l.left

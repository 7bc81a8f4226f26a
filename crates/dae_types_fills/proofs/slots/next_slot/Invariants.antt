use Rattle.std.proofs.Common.{◌≡◌, length}
use Rattle.dae_types_file_plans.specs.Initialisers.{next_slot}
use Rattle.dae_types_tables.specs.Seen.{tables}
use Rattle.dae_types_fills.specs.Slots.{view_stack}
use Rattle.dae_types_fills.proofs.slots.next_slot.Given as goal

abbrev pub invariant-loop-part : goal.invariant-loop-part
invariant-loop-part l = next_slot (tables l.checker) (view_stack l.rest.items) ≡ next_slot (tables l.checker) (view_stack l.fn.rest.items)

abbrev pub decreases-loop-part : goal.decreases-loop-part
decreases-loop-part l = length l.rest.items

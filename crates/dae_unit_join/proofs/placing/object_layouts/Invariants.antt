use Rattle.std.proofs.Common.{◌≡◌, drop, []}
use Rattle.dae_unit.specs.Placing.{object_layouts}
use Rattle.dae_unit_join.proofs.placing.object_layouts.Given as goal

abbrev pub invariant-loop-row : goal.invariant-loop-row
invariant-loop-row l =
    object_layouts l.files l.rooms.items (drop l.row-index l.placed) ≡ object_layouts l.files [] l.placed

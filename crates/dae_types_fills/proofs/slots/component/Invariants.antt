use Rattle.std.proofs.Common.{◌≡◌, drop, filter, slice_get}
use Rattle.dae_types_file_plans.specs.Initialisers.{is_of}
use Rattle.dae_types_fills.proofs.slots.component.Given as goal

abbrev pub invariant-loop-row : goal.invariant-loop-row
invariant-loop-row l = slice_get (filter (is_of l.structure) (drop l.row-index l.row-items)) l.left ≡ slice_get (filter (is_of l.structure) l.row-items) l.number

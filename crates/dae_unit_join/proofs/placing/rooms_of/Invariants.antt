use Rattle.std.proofs.Common.{◌≡◌, drop}
use Rattle.dae_unit.specs.Placing.{all_literals, rooms_of}
use Rattle.dae_unit_join.proofs.placing.rooms_of.Given as goal

abbrev pub invariant-loop-file : goal.invariant-loop-file
invariant-loop-file l =
    all_literals l.rooms.items (drop l.file-index l.files) ≡ rooms_of l.files l.placed

use Rattle.std.proofs.Common.{◌≡◌, drop}
use Rattle.dae_unit.specs.Placing.{end_from, first_place}
use Rattle.dae_unit_join.proofs.placing.end_of.Given as goal

abbrev pub invariant-loop-room : goal.invariant-loop-room
invariant-loop-room l =
    end_from l.place (drop l.room-index l.rooms) ≡ end_from first_place l.rooms

use Rattle.std.proofs.Common.{◌≡◌, drop, []}
use Rattle.dae_unit.specs.Placing.{places_from, first_place}
use Rattle.dae_unit_join.proofs.placing.places_of.Given as goal

abbrev pub invariant-loop-room : goal.invariant-loop-room
invariant-loop-room l =
    places_from l.place l.places.items (drop l.room-index l.rooms) ≡ places_from first_place [] l.rooms

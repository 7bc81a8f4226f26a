use Rattle.std.proofs.Common.{◌≡◌, drop}
use Rattle.dae_unit.specs.Meanings.{object_places}
use Rattle.dae_unit_join.proofs.meanings.push_places.Given as goal

abbrev pub invariant-loop-number : goal.invariant-loop-number
invariant-loop-number l =
    object_places l.files l.rooms.placed.rows.now l.rooms.places.now l.file l.addresses.items l.number (drop l.number l.objects) ≡ object_places l.files l.rooms.placed.rows.now l.rooms.places.now l.file l.initial.addresses.items 0 l.objects

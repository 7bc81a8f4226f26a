use Rattle.std.proofs.Common.{◌≡◌, drop}
use Rattle.dae_unit.specs.Meanings.{links_from, links_of}
use Rattle.dae_unit_join.proofs.meanings.links_of.Given as goal

abbrev pub invariant-loop-number : goal.invariant-loop-number
invariant-loop-number l =
    links_from l.files l.rooms.placed.rows.now l.bodies.rows.now l.rooms.places.now l.rest l.links.items l.number (drop l.number l.files) ≡ links_of l.files l.rooms.placed.rows.now l.bodies.rows.now l.rooms.places.now

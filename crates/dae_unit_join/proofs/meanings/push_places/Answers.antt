use Rattle.std.proofs.Common.{◌∙◌, sym}
use Rattle.dae_unit_join.proofs.Counted.{places_on}
use Rattle.dae_unit_join.proofs.meanings.push_places.Goals as goal

pub loop-number-preserved : goal.loop-number-preserved
loop-number-preserved c =
    rw (c.in_ok-push.ensures.items, c.object_place.ensures) (sym (places_on c.args.files.now c.args.rooms.placed.rows.now c.args.rooms.places.now c.args.file c.loop-number.addresses.items c.args.objects.now c.loop-number.number c.loop-number.number c.loop-number-test.true) ∙ c.loop-number.invariant)

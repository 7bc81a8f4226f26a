use Rattle.dae_types_tables.specs.Seen.{tables}
use Rattle.dae_types_products.proofs.Lists.{functions_further, places_further}
use Rattle.dae_types_products.proofs.functions.functions_in.Goals as goal

pub loop-body-preserved : goal.loop-body-preserved
loop-body-preserved c =
    let f = c.in_ok-typed_function.field-0 in
    let made = c.in_ok-typed_function.ensures in
    record {
      functions = functions_further (tables c.args.checker.now) c.args.names.now c.loop-body.functions.items c.push.new.self.items f c.loop-body.yielded c.in-Some.body c.in-Some-next_place.place c.in_ok-push.ensures.items made c.loop-body.invariant.functions;
      placed = places_further _ c.loop-body.functions.items c.push.new.self.items f c.in-Some-next_place.place c.loop-body.rest.now c.in-Some-next_place.others.now c.args.places.now c.in_ok-push.ensures.items made c.in-Some-next_place.ensures c.loop-body.invariant.placed;
    }

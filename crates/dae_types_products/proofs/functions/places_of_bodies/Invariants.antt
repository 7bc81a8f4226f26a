use Rattle.std.proofs.Common.{◌≡◌, ◌++◌, drop}
use Rattle.dae_types_typed.specs.Reading.{places_of_bodies}
use Rattle.dae_types_products.proofs.functions.places_of_bodies.Given as goal

abbrev pub invariant-loop-declaration : goal.invariant-loop-declaration
invariant-loop-declaration l = l.places.items ++ places_of_bodies (drop l.declaration-index l.declarations) ≡ places_of_bodies l.declarations

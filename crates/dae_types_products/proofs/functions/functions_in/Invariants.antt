use Rattle.std.proofs.Common.{◌≡◌, ◌++◌}
use Rattle.dae_types_tables.specs.Seen.{tables}
use Rattle.dae_types_typed.specs.Reading.{places_in, view_functions}
use Rattle.dae_types_products.specs.Functions.{written_all}
use Rattle.dae_types_products.proofs.functions.functions_in.Given as goal

abbrev pub invariant-loop-body : goal.invariant-loop-body
invariant-loop-body l = record {
  functions : view_functions l.functions.items ≡ written_all (tables l.checker) l.names l.yielded;
  placed : places_in l.functions.items ++ l.rest ≡ l.places;
}

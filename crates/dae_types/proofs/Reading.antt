-- A typed file reads the products that it is assembled of.
use Rattle.std.proofs.Common.{◌≡◌, ℕ, List, ◌∙◌, ap}
use Rattle.dae_types_kinds.specs.Tables.{Tables}
use Rattle.dae_types_file_plans.specs.Files.{Product}
use Rattle.dae_types_typed.specs.declared.files.TypedFunction.{TypedFunction}
use Rattle.dae_types_typed.specs.Reading.{declarations_in, places_in, places_of_bodies, view_functions, written_in}
use Rattle.dae_types_products.specs.declared.sorting.Sorted.{Sorted}
use Rattle.dae_types_products.specs.Functions.{IsSorted, written_all}

pub functions_read : (s : Tables) (spellings : List (List ℕ)) (products : List Product) (x : Sorted) (fs : List TypedFunction) → IsSorted products x → view_functions fs ≡ written_all s spellings x.bodies.items → view_functions fs ≡ written_in s spellings products
functions_read s spellings products x fs is h = h ∙ is.bodies s spellings

pub places_read : (products : List Product) (x : Sorted) (fs : List TypedFunction) → IsSorted products x → places_in fs ≡ places_of_bodies x.declarations.items → places_in fs ≡ places_of_bodies (declarations_in products)
places_read products x fs is h = h ∙ ap places_of_bodies is.declarations

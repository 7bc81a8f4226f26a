-- A typed function in memory as plain data, with its place; and what a function with its body is written as.
use Rattle.std.specs.Prelude.{◌≡◌, ℕ, List, [], ◌∷◌, ◌++◌, length, slice_get, Vec, Result, IfOk}
use Rattle.std.specs.declared.alloc.Global.{Global}
use Rattle.dae_base.specs.declared.Place.{Place}
use Rattle.dae_program.specs.Trees.{Statements}
use Rattle.dae_program.specs.Views.{view_statements}
use Rattle.dae_types_kinds.specs.declared.rules.CheckError.{CheckError}
use Rattle.dae_types_kinds.specs.declared.tables.Local.{Local}
use Rattle.dae_types_kinds.specs.declared.tables.Storage.{Storage}
use Rattle.dae_types_kinds.specs.Tables.{Tables}
use Rattle.dae_types_plans.specs.Steps.{parameter_types}
use Rattle.dae_types_file_plans.specs.Files.{Product}
use Rattle.dae_types_typed.specs.declared.files.TypedFunction.{TypedFunction}
use Rattle.dae_types_typed.specs.Frames.{frame_of, slots_of, variables_of}
use Rattle.dae_types_typed.specs.Reading.{WrittenFunction, contents_in, declarations_in, places_in, view_data, view_functions, written_in}
use Rattle.dae_types_typed.specs.Sound.{routine_named}
use Rattle.dae_types_products.specs.declared.products.Body.{Body as BodyInMemory}
use Rattle.dae_types_products.specs.declared.products.Product.{Product as ProductInMemory}
use Rattle.dae_types_products.specs.declared.sorting.Sorted.{Sorted}
use Rattle.dae_types_products.specs.Products.{as_products}

abbrev pub view_function : TypedFunction → WrittenFunction
view_function f = record { routine = f.routine; name = f.name; parameters = f.parameters; variables = f.variables; frame = f.frame; body = view_statements f.body }

-- a function's body, with the tables and names of the file
abbrev pub written_by : Tables → List (List ℕ) → ℕ → List Local → List Storage → Statements → WrittenFunction
written_by s spellings f locals storages body =
    let n = length (parameter_types s f) in
    record {
      routine = f;
      name = routine_named spellings (slice_get s.routines f);
      parameters = slots_of s n locals storages;
      variables = variables_of n storages;
      frame = frame_of s locals storages;
      body = body;
    }

abbrev pub written_of : Tables → List (List ℕ) → BodyInMemory → WrittenFunction
written_of s spellings b = written_by s spellings b.routine b.locals.items b.storages.items (view_statements b.statements.items)

abbrev pub view_placed : TypedFunction → WrittenFunction × Place
view_placed f = (view_function f, f.place)

-- functions in order, with their places
abbrev pub view_all : Vec TypedFunction Global → List WrittenFunction × List Place
view_all fs = (view_functions fs.items, places_in fs.items)

abbrev pub written_all : Tables → List (List ℕ) → List BodyInMemory → List WrittenFunction
written_all s spellings [] = []
written_all s spellings (b ∷ bs) = written_of s spellings b ∷ written_all s spellings bs

-- sorted, these products are those: whatever the tables and names, their functions are written so
pub record IsSorted (products : List Product) (x : Sorted) : Type 0 where
  pub declarations : x.declarations.items ≡ declarations_in products
  pub contents : view_data x.contents.items ≡ contents_in products
  pub bodies : (s : Tables) (spellings : List (List ℕ)) → written_all s spellings x.bodies.items ≡ written_in s spellings products

-- a function adds a product, and sorts products
abbrev pub SortsOne : Sorted → Product → Result Sorted CheckError → Type 0
SortsOne old x r = (products : List Product) → IsSorted products old → IfOk r (λ new. IsSorted (products ++ x ∷ []) new)

abbrev pub SortsAll : Vec ProductInMemory Global → Result Sorted CheckError → Type 0
SortsAll products r = IfOk r (λ x. IsSorted (as_products products) x)

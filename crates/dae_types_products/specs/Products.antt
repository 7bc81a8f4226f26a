-- What a file comes to in memory, as plain data.
use Rattle.std.specs.Prelude.{ℕ, List, [], ◌∷◌, Vec, Result, Ok}
use Rattle.std.specs.declared.alloc.Global.{Global}
use Rattle.dae_program.specs.Views.{view_settings, view_statements}
use Rattle.dae_types_kinds.specs.declared.rules.CheckError.{CheckError}
use Rattle.dae_types_rules.specs.Plan.{CheckPlan, Gives}
use Rattle.dae_types_file_plans.specs.Files.{Product, Declares, Data, Body}
use Rattle.dae_types_tables.specs.declared.checker.Checker.{Checker}
use Rattle.dae_types_tables.specs.Seen.{FollowsBy}
use Rattle.dae_types_products.specs.declared.products.Body.{Body as BodyInMemory}
use Rattle.dae_types_products.specs.declared.products.Product.{Product as ProductInMemory}
use Rattle.dae_types_products.specs.declared.products.Product.TheVariants as product

abbrev pub view_body : BodyInMemory → Product
view_body b = Body b.routine b.locals.items b.storages.items (view_statements b.statements.items)

abbrev pub view_product : ProductInMemory → Product
view_product (product.Declares d) = Declares d
view_product (product.Data o items) = Data o (view_settings items.items)
view_product (product.Body b) = view_body b

abbrev pub view_products : List ProductInMemory → List Product
view_products [] = []
view_products (x ∷ xs) = view_product x ∷ view_products xs

abbrev pub as_products : Vec ProductInMemory Global → List Product
as_products list = view_products list.items

-- a function makes these products, unless memory ran out
abbrev pub MakesProducts : Result (Vec ProductInMemory Global) CheckError → List Product → Type 0
MakesProducts r xs = Gives as_products r (Ok xs)

-- the products that a plan says, up to the first broken rule
abbrev pub GivesProducts : Checker → Result (Vec ProductInMemory Global) CheckError → CheckPlan (List Product) → Checker → Type 0
GivesProducts new r m old = FollowsBy as_products new r m old

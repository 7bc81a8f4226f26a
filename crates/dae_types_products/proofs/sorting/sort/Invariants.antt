use Rattle.dae_types_products.specs.Functions.{IsSorted}
use Rattle.dae_types_products.specs.Products.{view_products}
use Rattle.dae_types_products.proofs.sorting.sort.Given as goal

abbrev pub invariant-loop-product : goal.invariant-loop-product
invariant-loop-product l = IsSorted (view_products l.yielded) l.sorted

use Rattle.dae_types_products.specs.Products.{view_products}
use Rattle.dae_types_products.proofs.Lists.{sorted_further}
use Rattle.std.proofs.Common.{refl}
use Rattle.dae_types_products.proofs.sorting.sort.Goals as goal

pub loop-product-preserved : goal.loop-product-preserved
loop-product-preserved c = sorted_further c.loop-product.yielded _ c.in-Some.product c.in_ok-sorted.sorted refl (c.in_ok-sorted.ensures (view_products c.loop-product.yielded) c.loop-product.invariant)

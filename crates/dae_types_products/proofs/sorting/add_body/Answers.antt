use Rattle.std.proofs.Common.{refl}
use Rattle.dae_types_products.proofs.Lists.{sorted_body}
use Rattle.dae_types_products.proofs.sorting.add_body.Goals as goal

pub returns : goal.returns
returns c products is = sorted_body products c.args.sorted _ c.args.body is refl refl c.in_ok-push.ensures.items

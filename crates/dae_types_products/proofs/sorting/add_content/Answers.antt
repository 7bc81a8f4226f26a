use Rattle.std.proofs.Common.{refl}
use Rattle.dae_types_products.proofs.Lists.{sorted_content}
use Rattle.dae_types_products.proofs.sorting.add_content.Goals as goal

pub returns : goal.returns
returns c products is = sorted_content products c.args.sorted _ c.args.datum is refl c.in_ok-push.ensures.items refl

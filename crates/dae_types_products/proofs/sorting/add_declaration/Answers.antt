use Rattle.std.proofs.Common.{refl}
use Rattle.dae_types_products.proofs.Lists.{sorted_declaration}
use Rattle.dae_types_products.proofs.sorting.add_declaration.Goals as goal

pub returns : goal.returns
returns c products is = sorted_declaration products c.args.sorted _ c.args.declaration is c.in_ok-push.ensures.items refl refl

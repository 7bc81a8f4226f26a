use Rattle.std.proofs.Common.{List, subst}
use Rattle.dae_ir.specs.declared.stream.Class.{Class}
use Rattle.dae_commons.specs.Forms.{IsCommoningOf}
use Rattle.dae_compile.proofs.passing.common_again.Goals as goal

pub returns : goal.returns
returns c = record {
  tables = c.in_ok-tables.tables;
  least = c.in_ok-tables.ensures.least;
  commoning = subst (λ (t : List (List Class)). IsCommoningOf t c.args.ir c.in_ok-new.new) c.as_slice.ensures c.in_ok-new.ensures;
}

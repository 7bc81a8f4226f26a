use Rattle.std.proofs.Common.{ap, sym, ◌∙◌}
use Rattle.dae_types_tables.specs.Named.{numbers_of}
use Rattle.dae_types_tables.proofs.names.NameTable.new.Goals as goal

pub invariant_of-result : goal.invariant_of-result
invariant_of-result c = c.new-index.ensures ∙ sym (ap numbers_of c.new-rows.ensures.items)

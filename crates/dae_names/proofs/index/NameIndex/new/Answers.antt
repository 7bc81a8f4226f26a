use Rattle.std.proofs.Common.{ap}
use Rattle.dae_names.specs.Entries.{names_of}
use Rattle.dae_names.proofs.Indexed.{indexed_empty}
use Rattle.dae_names.proofs.index.NameIndex.new.Goals as goal

pub invariant_of-result : goal.invariant_of-result
invariant_of-result c = indexed_empty c.new-entries.result.items c.new-latest.result c.new-entries.ensures.items c.new-latest.ensures.empty

pub returns : goal.returns
returns c = ap names_of c.new-entries.ensures.items

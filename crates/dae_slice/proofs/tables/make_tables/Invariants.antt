use Rattle.dae_slice.specs.Graphs.{marked}
use Rattle.dae_slice.specs.Links.{IsTable}
use Rattle.dae_slice.proofs.tables.make_tables.Given as goal

abbrev pub invariant-loop-number : goal.invariant-loop-number
invariant-loop-number l = IsTable l.number l.functions (marked l.a) (marked l.e) l.tables

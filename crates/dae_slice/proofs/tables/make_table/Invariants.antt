use Rattle.dae_slice.specs.Graphs.{marked}
use Rattle.dae_slice.specs.Links.{IsRow}
use Rattle.dae_slice.proofs.tables.make_table.Given as goal

abbrev pub invariant-loop-variable : goal.invariant-loop-variable
invariant-loop-variable l = IsRow l.variable (marked l.a l.function) (marked l.e l.function) l.table

use Rattle.dae_slice.specs.Graphs.{IsNewRow}
use Rattle.dae_slice.proofs.graph.new_row.Given as goal

abbrev pub invariant-loop : goal.invariant-loop
invariant-loop l = IsNewRow l.counter l.row.items

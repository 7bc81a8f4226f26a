use Rattle.dae_slice.proofs.Marks.{HasLinks}
use Rattle.dae_slice.proofs.tables.marks.Given as goal

abbrev pub invariant-loop-number : goal.invariant-loop-number
invariant-loop-number l = HasLinks l.sought l.functions l.number l.graph

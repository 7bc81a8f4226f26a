use Rattle.std.proofs.Common.{take}
use Rattle.dae_slice.proofs.Fresh.{AreNewRows}
use Rattle.dae_slice.proofs.graph.Graph.new.Given as goal

abbrev pub invariant-loop-function : goal.invariant-loop-function
invariant-loop-function l = AreNewRows (take l.function-index l.functions) l.rows.items

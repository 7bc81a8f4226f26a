use Rattle.dae_slice.specs.Graphs.{pending}
use Rattle.dae_slice.proofs.Spread.{SpreadsFrom}
use Rattle.dae_slice.proofs.graph.Graph.spread.Given as goal

abbrev pub invariant-loop-node : goal.invariant-loop-node
invariant-loop-node l = SpreadsFrom l.initial.self l.self

abbrev pub decreases-loop-node : goal.decreases-loop-node
decreases-loop-node l = pending l.self

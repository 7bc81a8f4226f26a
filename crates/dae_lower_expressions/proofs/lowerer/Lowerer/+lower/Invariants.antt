use Rattle.std.proofs.Common.{drop}
use Rattle.dae_lower_expressions.proofs.Nodes.{Listed}
use Rattle.dae_lower_expressions.specs.Lowered.{links_in, state_of}
use Rattle.dae_program.specs.Views.{view_expressions}
use Rattle.dae_lower_expressions.proofs.lowerer.Lowerer.+lower.Given as goal

abbrev pub invariant-operands-loop-e : goal.invariant-operands-loop-e
invariant-operands-loop-e l = Listed (links_in l.none l.links) (view_expressions l.xs) (state_of l.initial.self) (state_of l.self) l.operands.items (view_expressions (drop l.e-index l.xs))

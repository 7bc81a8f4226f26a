use Rattle.std.proofs.Common.{drop}
use Rattle.dae_lower_expressions.proofs.Counting.{Counted}
use Rattle.dae_lower_maker.specs.Counting.{counts_of}
use Rattle.dae_program.specs.Views.{view_expressions}
use Rattle.dae_lower_expressions.proofs.assignments.+count.Given as goal

abbrev pub invariant-count_all-loop-e : goal.invariant-count_all-loop-e
invariant-count_all-loop-e l = Counted l.change (view_expressions l.xs) (counts_of l.initial.later) (counts_of l.later) (view_expressions (drop l.e-index l.xs))

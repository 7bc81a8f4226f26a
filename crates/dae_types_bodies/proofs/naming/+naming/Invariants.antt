use Rattle.std.proofs.Common.{◌≡◌, drop}
use Rattle.dae_program.specs.Views.{view_expressions}
use Rattle.dae_types_file_plans.specs.Naming.{some_names}
use Rattle.dae_types_bodies.proofs.naming.+naming.Given as goal

abbrev pub invariant-some_names-loop-e : goal.invariant-some_names-loop-e
invariant-some_names-loop-e l = some_names l.variable (view_expressions (drop l.e-index l.xs)) ≡ some_names l.variable (view_expressions l.xs)

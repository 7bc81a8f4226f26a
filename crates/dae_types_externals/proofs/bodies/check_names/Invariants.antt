use Rattle.std.proofs.Common.{◌≡◌, drop}
use Rattle.dae_tree.specs.Views.{views_parameters}
use Rattle.dae_types_file_plans.specs.Files.{unnamed_sites}
use Rattle.dae_types_externals.proofs.bodies.check_names.Given as goal

abbrev pub invariant-loop-parameter : goal.invariant-loop-parameter
invariant-loop-parameter l = unnamed_sites l.place (views_parameters (drop l.parameter-index l.parameters)) ≡ unnamed_sites l.place (views_parameters l.parameters)

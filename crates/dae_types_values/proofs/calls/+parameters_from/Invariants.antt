use Rattle.std.proofs.Common.{ℕ}
use Rattle.dae_types_values.proofs.calls.+parameters_from.Given as goal

abbrev pub decreases-parameters_from : goal.decreases-parameters_from
decreases-parameters_from l = l.depth

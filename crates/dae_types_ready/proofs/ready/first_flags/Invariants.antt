use Rattle.std.proofs.Common.{◌≡◌, ◌++◌, ◌-◌}
use Rattle.dae_types_ready.specs.Reads.{first_flags, flags_from}
use Rattle.dae_types_ready.proofs.ready.first_flags.Given as goal

abbrev pub invariant-loop-variable : goal.invariant-loop-variable
invariant-loop-variable l =
    l.set.items ++ flags_from l.parameters l.variable (l.variables - l.variable) ≡ first_flags l.parameters l.variables

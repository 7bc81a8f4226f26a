use Rattle.std.proofs.Common.{◌≡◌, drop}
use Rattle.std.specs.Prelude.{None}
use Rattle.dae_program.specs.Switches.{has_label}
use Rattle.dae_lower_programs.proofs.switching.has_default.Given as goal

abbrev pub invariant-loop-label : goal.invariant-loop-label
invariant-loop-label l = has_label None (drop l.label-index l.labels) ≡ has_label None l.labels

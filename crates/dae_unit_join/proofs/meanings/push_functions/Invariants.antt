use Rattle.std.proofs.Common.{◌≡◌}
use Rattle.dae_unit.specs.Meanings.{functions_in}
use Rattle.dae_unit_join.proofs.meanings.push_functions.Given as goal

abbrev pub invariant-loop-body : goal.invariant-loop-body
invariant-loop-body l = l.functions.items ≡ functions_in l.initial.functions.items l.file l.yielded

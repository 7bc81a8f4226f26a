use Rattle.std.specs.Prelude.{◌≡◌}
use Rattle.dae_select_blocks.specs.Blocks.{exponent_below, exponent}
use Rattle.dae_select_values.proofs.numbers.exponent.Given as goal

abbrev pub invariant-loop-power : goal.invariant-loop-power
invariant-loop-power l = exponent l.number ≡ exponent_below l.power l.number

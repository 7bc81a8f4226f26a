-- Which way a step goes.
use Rattle.std.specs.Prelude.{Bool, false, true}
use Rattle.dae_types_operations.specs.declared.prefixes.Direction.{Direction}
use Rattle.dae_types_operations.specs.declared.prefixes.Direction.TheVariants as direction

abbrev pub is_down : Direction → Bool
is_down direction.Up = false
is_down direction.Down = true

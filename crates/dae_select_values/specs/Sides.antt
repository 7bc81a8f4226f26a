-- The processors, as plans name them.
use Rattle.std.specs.Prelude.{Bool, true, false}
use Rattle.dae_base.specs.declared.Side.{Side}
use Rattle.dae_base.specs.declared.Side.TheVariants.{A, E}

abbrev pub is_a : Side → Bool
is_a A = true
is_a E = false

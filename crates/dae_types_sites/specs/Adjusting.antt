-- What becomes of an array.
use Rattle.std.specs.Prelude.{Bool, false, true}
use Rattle.dae_types_sites.specs.declared.declarators.Adjustment.{Adjustment}
use Rattle.dae_types_sites.specs.declared.declarators.Adjustment.TheVariants as adjustment

abbrev pub is_adjusted : Adjustment → Bool
is_adjusted adjustment.Kept = false
is_adjusted adjustment.ToPointer = true

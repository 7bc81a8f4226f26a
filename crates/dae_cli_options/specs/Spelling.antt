-- The one spelling of a number.
use Rattle.std.specs.Prelude.{◌≡◌, ℕ, List, decimal}
use Rattle.dae_cli_options.specs.Ranges.{IsFromTo}

-- the decimal digits of a number, which is in a range
pub record SpellsNumber (least most : ℕ) (text : List ℕ) (n : ℕ) : Type 0 where
  pub text_is : text ≡ decimal n
  pub within : IsFromTo least most n
